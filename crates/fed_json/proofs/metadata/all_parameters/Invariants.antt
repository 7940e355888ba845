use Rattle.std.proofs.Common.{◌≡◌, not, take, true}
use Rattle.std.specs.List.{list_all}
use Rattle.fed_json.specs.Trees.{is_null}
use Rattle.fed_json.proofs.metadata.all_parameters.Given as goal

abbrev pub invariant-loop-parameter : goal.invariant-loop-parameter
invariant-loop-parameter l = list_all (λ m. not (is_null m.value)) (take l.parameter-index l.parameters) ≡ true
