use Rattle.std.proofs.Common.{◌≡◌, take}
use Rattle.key_ring.proofs.held.plain_keys.Given as goal

abbrev pub invariant-loop-key : goal.invariant-loop-key
invariant-loop-key l = l.plain ≡ take l.key-index l.keys
