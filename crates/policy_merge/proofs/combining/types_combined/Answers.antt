use Rattle.std.proofs.Common.{◌∙◌, sym, ap}
use Rattle.std.proofs.lemmas.Result.{err_from_is_err_and}
use Rattle.policy_merge.specs.Combining.{conflict_in_parameters}
use Rattle.fed_json.proofs.Firsts.{unless_none, unless_ok}
use Rattle.policy_merge.proofs.Faults.{gives_on}
use Rattle.policy_merge.proofs.Clashes.{types-end, types-more, types-found}
use Rattle.policy_merge.proofs.combining.types_combined.Goals as goal

pub returns-in_err-parameters_combined : goal.returns-in_err-parameters_combined
returns-in_err-parameters_combined c =
    let p = err_from_is_err_and c.from_residual.result c.from_residual.ensures.1 in
    rw (p.1, p.2) (gives_on _ _ _ _ _ c.in_err-parameters_combined.ensures (λ f e.
    c.loop-entity_type.invariant
    ∙ types-found _ _ c.entity_type-item.result f c.loop-entity_type-test.true c.entity_type-item.is (ap (conflict_in_parameters _) (sym c.as_slice.ensures) ∙ e)))

pub loop-entity_type-preserved : goal.loop-entity_type-preserved
loop-entity_type-preserved c =
    let none = (unless_ok _ _ _ c.in_ok-parameters_combined.ensures).0 in
    c.loop-entity_type.invariant ∙ types-more _ _ c.entity_type-item.result c.loop-entity_type-test.true c.entity_type-item.is (ap (conflict_in_parameters _) (sym c.as_slice.ensures) ∙ none)

pub returns : goal.returns
returns c = unless_none _ _ (c.loop-entity_type.invariant ∙ types-end _ _ c.loop-entity_type-test.false)
