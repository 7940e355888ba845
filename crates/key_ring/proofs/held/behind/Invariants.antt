use Rattle.std.proofs.Common.{◌≡◌, ◌∷◌, take}
use Rattle.key_ring.proofs.held.behind.Given as goal

abbrev pub invariant-loop-key : goal.invariant-loop-key
invariant-loop-key l = l.changed ≡ l.fn.first ∷ take l.key-index l.keys
