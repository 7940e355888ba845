use Rattle.std.proofs.Common.{◌≡◌, ◌&&◌, List, ℕ, Some, bytes_eq, take}
use Rattle.std.specs.List.{list_any}
use Rattle.chain_limits.specs.Types.{in_set}
use Rattle.chain_limits.proofs.types.named_too.Given as goal

abbrev pub invariant-loop-name : goal.invariant-loop-name
invariant-loop-name l = (entity_type : List ℕ) → in_set (Some l.both) entity_type ≡ (in_set l.names entity_type && list_any (bytes_eq entity_type) (take l.name-index l.name-items))
