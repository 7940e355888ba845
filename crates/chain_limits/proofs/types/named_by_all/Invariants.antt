use Rattle.std.proofs.Common.{◌≡◌, List, ℕ, take}
use Rattle.std.specs.List.{list_all}
use Rattle.chain_limits.specs.Types.{in_set, names_type}
use Rattle.chain_limits.proofs.types.named_by_all.Given as goal

abbrev pub invariant-loop-place : goal.invariant-loop-place
invariant-loop-place l = (entity_type : List ℕ) → in_set l.names entity_type ≡ list_all (λ place. names_type entity_type place.limits) (take l.place-index l.places)
