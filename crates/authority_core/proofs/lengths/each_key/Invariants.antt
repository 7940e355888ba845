use Rattle.std.proofs.Common.{◌≤◌, ◌+◌, take}
use Rattle.authority_core.specs.Lengths.{keys_length}
use Rattle.authority_core.proofs.lengths.each_key.Given as goal

abbrev pub invariant-loop-key : goal.invariant-loop-key
invariant-loop-key l = keys_length (take l.key-index l.keys) + l.left ≤ l.room
