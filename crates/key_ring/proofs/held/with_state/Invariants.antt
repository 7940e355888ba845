use Rattle.std.proofs.Common.{◌≡◌, map, take}
use Rattle.key_ring.specs.Changes.{with_state}
use Rattle.key_ring.proofs.held.with_state.Given as goal

abbrev pub invariant-loop-key : goal.invariant-loop-key
invariant-loop-key l = l.changed ≡ map (with_state l.kid l.state) (take l.key-index l.keys)
