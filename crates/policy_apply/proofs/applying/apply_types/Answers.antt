use Rattle.std.proofs.Common.{◌≡◌, ◌∙◌, ◌∷◌, ◌++◌, [], ap, map, true}
use Rattle.std.specs.Option.{option_copied}
use Rattle.std.proofs.lemmas.Result.{err_from_is_err_and}
use Rattle.std.specs.List.{filter_map}
use Rattle.fed_json.specs.Forms.{rising}
use Rattle.fed_json.specs.Reading.{member_of}
use Rattle.fed_json.specs.declared.tree.Json.{Object}
use Rattle.fed_json.specs.declared.tree.Member.{Member}
use Rattle.fed_json.specs.Trees.{object_members, member_name}
use Rattle.fed_json.specs.Tables.{Side}
use Rattle.fed_json.specs.declared.named.Named.{Named}
use Rattle.policy_merge.specs.Policies.{Parameters, operators_formed, parameters_formed}
use Rattle.policy_merge.specs.Merging.{name_of, value_or}
use Rattle.policy_merge.proofs.MergedTables.{table-rises}
use Rattle.fed_json.proofs.Walks.{passed-more, passed-found, passed-passes, passed-all}
use Rattle.policy_apply.specs.Applying.{type_left, type_refusal}
use Rattle.fed_json.proofs.Walks.{given-more, given-none}
use Rattle.policy_apply.proofs.Walking.{type-none, type-err, type-ok, types-applied, side_good, beside-good, upper-good, lower-good, object_members-whole, members-rise}
use Rattle.policy_apply.proofs.applying.apply_types.Goals as goal

pub apply_parameters-requires-clause-policy : goal.apply_parameters-requires-clause-policy
apply_parameters-requires-clause-policy c =
    let side = c.in-Some.side in
    let s : Side (Named Parameters) Member = record { name = side.name.now; upper = option_copied side.upper; lower = option_copied side.lower } in
    let good : side_good parameters_formed s ≡ true =
    passed-passes name_of member_name type_refusal (filter_map type_left) _ _ _ _ _ c.loop-side.invariant s _ _ c.in-Some.ensures.side (side_good parameters_formed) (beside-good parameters_formed _ _ c.requires.policy c.requires.metadata) in
    ap (λ ps. rising (map name_of ps)) c.parameters_of-policy.ensures ∙ table-rises operators_formed (value_or [] s.upper) (upper-good parameters_formed [] (cc) s good)

pub apply_parameters-requires-clause-parameters : goal.apply_parameters-requires-clause-parameters
apply_parameters-requires-clause-parameters c =
    let side = c.in-Some.side in
    let s : Side (Named Parameters) Member = record { name = side.name.now; upper = option_copied side.upper; lower = option_copied side.lower } in
    let good : side_good parameters_formed s ≡ true =
    passed-passes name_of member_name type_refusal (filter_map type_left) _ _ _ _ _ c.loop-side.invariant s _ _ c.in-Some.ensures.side (side_good parameters_formed) (beside-good parameters_formed _ _ c.requires.policy c.requires.metadata) in
    let m = c.in-Some-lower.entity_type.now in
    ap (λ ms. rising (map member_name ms)) c.object_members-parameters.ensures
    ∙ members-rise (object_members m.value) (object_members-whole m.value (lower-good parameters_formed s m good (ap option_copied c.in-Some-lower.is)))

pub returns-in_err-parameters : goal.returns-in_err-parameters
returns-in_err-parameters c =
    let p = err_from_is_err_and c.from_residual.result c.from_residual.ensures.1 in
    let side = c.in-Some.side in
    let s : Side (Named Parameters) Member = record { name = side.name.now; upper = option_copied side.upper; lower = option_copied side.lower } in
    rw (p.1, p.2) (type-err s c.in-Some-lower.entity_type.now c.parameters_of-policy.result.now c.object_members-parameters.result.now (ap option_copied c.in-Some-lower.is) c.parameters_of-policy.ensures c.object_members-parameters.ensures
    c.args.policy.now c.args.metadata.now c.in_err-parameters.field-0.0 c.in_err-parameters.ensures
    (passed-found name_of member_name type_refusal (filter_map type_left) _ _ _ _ _ c.loop-side.invariant s _ _ c.in-Some.ensures.side))

pub loop-side-preserved-in-Continue-branch-3 : goal.loop-side-preserved-in-Continue-branch-3
loop-side-preserved-in-Continue-branch-3 c =
    let side = c.in-Some.side in
    let s : Side (Named Parameters) Member = record { name = side.name.now; upper = option_copied side.upper; lower = option_copied side.lower } in
    let both = type-ok s c.in-Some-lower.entity_type.now c.parameters_of-policy.result.now c.object_members-parameters.result.now (ap option_copied c.in-Some-lower.is) c.parameters_of-policy.ensures c.object_members-parameters.ensures
    c.in_ok-parameters.parameters c.in_ok-parameters.ensures in
    passed-more name_of member_name type_refusal (filter_map type_left) _ _ _ _ _ c.loop-side.invariant s _ _ c.in-Some.ensures.side both.0 _
    (given-more type_left s _ _ _ both.1 (c.in_ok-push.ensures.ok ∙ ap (λ name. c.loop-side.applied ++ member_of name (Object c.in_ok-parameters.parameters) ∷ []) c.in_ok-name.ensures))
    c.in-Some.ensures.upper_rises c.in-Some.ensures.lower_rises

pub loop-side-preserved : goal.loop-side-preserved
loop-side-preserved c =
    let side = c.in-Some.side in
    let s : Side (Named Parameters) Member = record { name = side.name.now; upper = option_copied side.upper; lower = option_copied side.lower } in
    let both = type-none s (ap option_copied c.in_default-lower.is) in
    passed-more name_of member_name type_refusal (filter_map type_left) _ _ _ _ _ c.loop-side.invariant s _ _ c.in-Some.ensures.side both.0 _
    (given-none type_left s _ both.1)
    c.in-Some.ensures.upper_rises c.in-Some.ensures.lower_rises

pub returns : goal.returns
returns c = types-applied _ _ _ (passed-all _ _ _ _ _ _ _ _ _ c.loop-side.invariant (rw c.in_default.is at c.next.ensures.side))
