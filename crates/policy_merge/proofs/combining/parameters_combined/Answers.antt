use Rattle.std.proofs.Common.{◌∙◌, sym}
use Rattle.fed_json.proofs.Firsts.{unless_none, unless_some}
use Rattle.policy_merge.proofs.Faults.{gives_fault}
use Rattle.policy_merge.proofs.Clashes.{parameters-end, parameters-more, parameters-found}
use Rattle.policy_merge.proofs.combining.parameters_combined.Goals as goal

pub returns-in-Some : goal.returns-in-Some
returns-in-Some c =
    gives_fault _ _ _ c.conflict.ensures (unless_some _ _ _ (c.loop-parameter.invariant
    ∙ parameters-found _ _ _ c.parameter-item.result (c.in-Some.first, c.in-Some.second) c.loop-parameter-test.true c.parameter-item.is (sym c.in_ok-first.ensures ∙ c.in-Some.is)))

pub loop-parameter-preserved : goal.loop-parameter-preserved
loop-parameter-preserved c =
    c.loop-parameter.invariant
    ∙ parameters-more _ _ _ c.parameter-item.result c.loop-parameter-test.true c.parameter-item.is (sym c.in_ok-first.ensures ∙ c.in_default.is)

pub returns : goal.returns
returns c = unless_none _ _ (c.loop-parameter.invariant ∙ parameters-end _ _ _ c.loop-parameter-test.false)
