use Rattle.std.proofs.Common.{◌≡◌, filter, map, take}
use Rattle.key_ring.specs.Sets.{historical_key, is_historical}
use Rattle.key_ring.proofs.sets.historical_keys.Given as goal

abbrev pub invariant-loop-held : goal.invariant-loop-held
invariant-loop-held l = l.trees ≡ map historical_key (filter (λ key. is_historical key.state) (take l.held-index l.keys))
