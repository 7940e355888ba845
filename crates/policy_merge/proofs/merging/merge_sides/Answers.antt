use Rattle.std.proofs.Common.{◌∙◌, ◌∷◌, ◌++◌, [], map, sym, ap}
use Rattle.std.specs.Option.{option_copied}
use Rattle.std.proofs.lemmas.Result.{err_from_is_err_and}
use Rattle.fed_json.specs.Tables.{Side}
use Rattle.fed_json.specs.declared.named.Named.{Named}
use Rattle.policy_merge.specs.declared.operators.Operators.{Operators}
use Rattle.policy_merge.specs.Merging.{name_of, value_or, parameter_conflict, merged_parameter}
use Rattle.fed_json.proofs.Walks.{map-more, passed-more, passed-found, passed-all}
use Rattle.policy_merge.proofs.MergeWalk.{parameter-ok, parameter-err, parameters-merged}
use Rattle.policy_merge.proofs.merging.merge_sides.Goals as goal

pub returns-in_err-value : goal.returns-in_err-value
returns-in_err-value c =
    let p = err_from_is_err_and c.from_residual.result c.from_residual.ensures.1 in
    let t = c.args.entity_type.now in
    let side = c.in-Some.side in
    let s : Side (Named Operators) (Named Operators) = record { name = side.name.now; upper = option_copied side.upper; lower = option_copied side.lower } in
    rw (p.1, p.2) (parameter-err t s c.operators_of.result.now c.operators_of-in-Some.result.now
    (c.operators_of.ensures ∙ ap (λ none. value_or none s.upper) c.requires.none) (c.operators_of-in-Some.ensures ∙ ap (λ none. value_or none s.lower) c.requires.none)
    c.args.upper.now c.args.lower.now c.in_err-value.field-0.0 c.in_err-value.ensures
    (passed-found name_of name_of (parameter_conflict t) (map merged_parameter) _ _ _ _ _ c.loop-side.invariant s _ _ c.in-Some.ensures.side))

pub loop-side-preserved : goal.loop-side-preserved
loop-side-preserved c =
    let t = c.args.entity_type.now in
    let side = c.in-Some.side in
    let s : Side (Named Operators) (Named Operators) = record { name = side.name.now; upper = option_copied side.upper; lower = option_copied side.lower } in
    let both = parameter-ok t s c.operators_of.result.now c.operators_of-in-Some.result.now
    (c.operators_of.ensures ∙ ap (λ none. value_or none s.upper) c.requires.none) (c.operators_of-in-Some.ensures ∙ ap (λ none. value_or none s.lower) c.requires.none)
    c.in_ok-value.value c.in_ok-value.ensures in
    passed-more name_of name_of (parameter_conflict t) (map merged_parameter) _ _ _ _ _ c.loop-side.invariant s _ _ c.in-Some.ensures.side both.0 _
    (map-more merged_parameter s _ _ (c.in_ok-add.ensures ∙ ap (λ x. c.loop-side.merged ++ x ∷ []) (sym both.1))) c.in-Some.ensures.upper_rises c.in-Some.ensures.lower_rises

pub returns : goal.returns
returns c = parameters-merged _ _ _ _ (passed-all _ _ _ _ _ _ _ _ _ c.loop-side.invariant (rw c.in_default.is at c.next.ensures.side))
