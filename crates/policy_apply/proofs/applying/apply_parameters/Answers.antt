use Rattle.std.proofs.Common.{◌≡◌, ◌∙◌, ◌∷◌, ◌++◌, [], option_map, Some, ap}
use Rattle.std.specs.Option.{option_copied}
use Rattle.std.proofs.lemmas.Result.{err_from_is_err_and}
use Rattle.std.specs.List.{filter_map}
use Rattle.fed_json.specs.Reading.{member_of}
use Rattle.fed_json.specs.declared.tree.Member.{Member}
use Rattle.fed_json.specs.Trees.{member_name}
use Rattle.fed_json.specs.Tables.{Side}
use Rattle.fed_json.specs.declared.named.Named.{Named}
use Rattle.policy_merge.specs.declared.operators.Operators.{Operators}
use Rattle.policy_merge.specs.Merging.{name_of, value_or}
use Rattle.fed_json.proofs.Walks.{passed-more, passed-found, passed-all}
use Rattle.policy_apply.specs.Applying.{parameter_left, parameter_refusal}
use Rattle.fed_json.proofs.Walks.{given-more, given-none}
use Rattle.policy_apply.proofs.Walking.{parameter-err, parameter-ok, parameters-applied}
use Rattle.policy_apply.proofs.applying.apply_parameters.Goals as goal

pub returns-in_err-value : goal.returns-in_err-value
returns-in_err-value c =
    let p = err_from_is_err_and c.from_residual.result c.from_residual.ensures.1 in
    let t = c.args.entity_type.now in
    let side = c.in-Some.side in
    let s : Side (Named Operators) Member = record { name = side.name.now; upper = option_copied side.upper; lower = option_copied side.lower } in
    rw (p.1, p.2) (parameter-err t s c.operators_of-operators.result.now (option_copied c.value_of-value.result)
    (c.operators_of-operators.ensures ∙ ap (λ none. value_or none s.upper) c.none-none.ensures) c.value_of-value.ensures
    c.args.policy.now c.args.parameters.now c.in_err-value.field-0.0 c.in_err-value.ensures
    (passed-found name_of member_name (parameter_refusal t) (filter_map parameter_left) _ _ _ _ _ c.loop-side.invariant s _ _ c.in-Some.ensures.side))

pub loop-side-preserved-in-Continue-branch-4 : goal.loop-side-preserved-in-Continue-branch-4
loop-side-preserved-in-Continue-branch-4 c =
    let t = c.args.entity_type.now in
    let side = c.in-Some.side in
    let s : Side (Named Operators) Member = record { name = side.name.now; upper = option_copied side.upper; lower = option_copied side.lower } in
    let both = parameter-ok t s c.operators_of-operators.result.now (option_copied c.value_of-value.result)
    (c.operators_of-operators.ensures ∙ ap (λ none. value_or none s.upper) c.none-none.ensures) c.value_of-value.ensures
    c.in_ok-value.field-0 c.in_ok-value.ensures in
    let left : parameter_left s ≡ Some (member_of s.name c.in-Some-2.value) = both.1 ∙ ap (option_map (member_of s.name)) c.in-Some-2.is in
    passed-more name_of member_name (parameter_refusal t) (filter_map parameter_left) _ _ _ _ _ c.loop-side.invariant s _ _ c.in-Some.ensures.side both.0 _
    (given-more parameter_left s _ _ _ left (c.in_ok-push.ensures.ok ∙ ap (λ name. c.loop-side.applied ++ member_of name c.in-Some-2.value ∷ []) c.in_ok-name.ensures))
    c.in-Some.ensures.upper_rises c.in-Some.ensures.lower_rises

pub loop-side-preserved : goal.loop-side-preserved
loop-side-preserved c =
    let t = c.args.entity_type.now in
    let side = c.in-Some.side in
    let s : Side (Named Operators) Member = record { name = side.name.now; upper = option_copied side.upper; lower = option_copied side.lower } in
    let both = parameter-ok t s c.operators_of-operators.result.now (option_copied c.value_of-value.result)
    (c.operators_of-operators.ensures ∙ ap (λ none. value_or none s.upper) c.none-none.ensures) c.value_of-value.ensures
    c.in_ok-value.field-0 c.in_ok-value.ensures in
    passed-more name_of member_name (parameter_refusal t) (filter_map parameter_left) _ _ _ _ _ c.loop-side.invariant s _ _ c.in-Some.ensures.side both.0 _
    (given-none parameter_left s _ (both.1 ∙ ap (option_map (member_of s.name)) c.in_default-2.is))
    c.in-Some.ensures.upper_rises c.in-Some.ensures.lower_rises

pub returns : goal.returns
returns c = parameters-applied _ _ _ _ (passed-all _ _ _ _ _ _ _ _ _ c.loop-side.invariant (rw c.in_default.is at c.next.ensures.side))
