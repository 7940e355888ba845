use Rattle.std.proofs.Common.{◌≡◌, ◌∙◌, sym, ap, rules, Ok, Some, None}
use Rattle.policy_merge.specs.Combining.{clash}
use Rattle.policy_merge.specs.Merging.{merged_operators}
use Rattle.policy_merge.proofs.Faults.{gives_fault}
use Rattle.policy_merge.proofs.MergeLaws.{operators-values, operators-defaults, operators-clash, operators-merged}
use Rattle.policy_merge.proofs.merging.merge_operators.Goals as goal

pub returns-then-not-agree : goal.returns-then-not-agree
returns-then-not-agree c =
    gives_fault _ _ _ c.conflict.ensures (operators-values _ _ _ _ (sym c.agree.ensures ∙ c.if-not-agree.true))

pub returns-then-not-agree-2 : goal.returns-then-not-agree-2
returns-then-not-agree-2 c =
    gives_fault _ _ _ c.conflict-then-not-agree-2.ensures
    (operators-defaults _ _ _ _ (sym c.agree.ensures ∙ c.if-not-agree.false) (sym c.agree-2.ensures ∙ c.if-not-agree-2.true))

pub returns-in-Ok-Some : goal.returns-in-Ok-Some
returns-in-Ok-Some c =
    let upper = c.args.upper.now in
    let lower = c.args.lower.now in
    let apart : clash c.args.parameter.now (merged_operators upper lower) ≡ Some (c.in-Ok-Some.first, c.in-Ok-Some.second) = search rules in
    gives_fault _ _ _ c.conflict-in-Ok-Some.ensures
    (operators-clash c.args.entity_type.now c.args.parameter.now upper lower (sym c.agree.ensures ∙ c.if-not-agree.false) (sym c.agree-2.ensures ∙ c.if-not-agree-2.false) (c.in-Ok-Some.first, c.in-Ok-Some.second) apart)

pub returns-in-Ok-None : goal.returns-in-Ok-None
returns-in-Ok-None c =
    let upper = c.args.upper.now in
    let lower = c.args.lower.now in
    let together : clash c.args.parameter.now (merged_operators upper lower) ≡ None = search rules in
    operators-merged c.args.entity_type.now c.args.parameter.now upper lower (sym c.agree.ensures ∙ c.if-not-agree.false) (sym c.agree-2.ensures ∙ c.if-not-agree-2.false) together
    ∙ ap Ok (sym c.in_ok-merged.ensures)
