use Rattle.std.proofs.Common.{◌∙◌, ◌∷◌, ◌++◌, [], map, sym, ap}
use Rattle.std.specs.Option.{option_copied}
use Rattle.std.proofs.lemmas.Result.{err_from_is_err_and}
use Rattle.fed_json.specs.Tables.{Side}
use Rattle.fed_json.specs.declared.named.Named.{Named}
use Rattle.policy_merge.specs.Policies.{Parameters, parameters_formed}
use Rattle.policy_merge.specs.Merging.{name_of, type_conflict, merged_type}
use Rattle.fed_json.proofs.Walks.{map-more, passed-more, passed-found, passed-passes, passed-all}
use Rattle.policy_merge.proofs.MergedTables.{side_formed, beside-formed}
use Rattle.policy_merge.proofs.MergeWalk.{type-ok, type-err, type-formed, types-merged}
use Rattle.policy_merge.proofs.merging.merge_types.Goals as goal

pub merge_parameters-requires-clause-upper : goal.merge_parameters-requires-clause-upper
merge_parameters-requires-clause-upper c =
    let side = c.in-Some.side in
    let s : Side (Named Parameters) (Named Parameters) = record { name = side.name.now; upper = option_copied side.upper; lower = option_copied side.lower } in
    (type-formed s c.parameters_of.result.now c.parameters_of-in-Some.result.now c.parameters_of.ensures c.parameters_of-in-Some.ensures
    (passed-passes name_of name_of type_conflict (map merged_type) _ _ _ _ _ c.loop-side.invariant s _ _ c.in-Some.ensures.side (side_formed parameters_formed) (beside-formed parameters_formed _ _ c.requires.upper c.requires.lower))).0

pub merge_parameters-requires-clause-lower : goal.merge_parameters-requires-clause-lower
merge_parameters-requires-clause-lower c =
    let side = c.in-Some.side in
    let s : Side (Named Parameters) (Named Parameters) = record { name = side.name.now; upper = option_copied side.upper; lower = option_copied side.lower } in
    (type-formed s c.parameters_of.result.now c.parameters_of-in-Some.result.now c.parameters_of.ensures c.parameters_of-in-Some.ensures
    (passed-passes name_of name_of type_conflict (map merged_type) _ _ _ _ _ c.loop-side.invariant s _ _ c.in-Some.ensures.side (side_formed parameters_formed) (beside-formed parameters_formed _ _ c.requires.upper c.requires.lower))).1

pub returns-in_err-value : goal.returns-in_err-value
returns-in_err-value c =
    let p = err_from_is_err_and c.from_residual.result c.from_residual.ensures.1 in
    let side = c.in-Some.side in
    let s : Side (Named Parameters) (Named Parameters) = record { name = side.name.now; upper = option_copied side.upper; lower = option_copied side.lower } in
    rw (p.1, p.2) (type-err s c.parameters_of.result.now c.parameters_of-in-Some.result.now c.parameters_of.ensures c.parameters_of-in-Some.ensures
    c.args.upper.now c.args.lower.now c.in_err-value.field-0.0 c.in_err-value.ensures
    (passed-found name_of name_of type_conflict (map merged_type) _ _ _ _ _ c.loop-side.invariant s _ _ c.in-Some.ensures.side))

pub loop-side-preserved : goal.loop-side-preserved
loop-side-preserved c =
    let side = c.in-Some.side in
    let s : Side (Named Parameters) (Named Parameters) = record { name = side.name.now; upper = option_copied side.upper; lower = option_copied side.lower } in
    let both = type-ok s c.parameters_of.result.now c.parameters_of-in-Some.result.now c.parameters_of.ensures c.parameters_of-in-Some.ensures c.in_ok-value.value c.in_ok-value.ensures in
    passed-more name_of name_of type_conflict (map merged_type) _ _ _ _ _ c.loop-side.invariant s _ _ c.in-Some.ensures.side both.0 _
    (map-more merged_type s _ _ (c.in_ok-add.ensures ∙ ap (λ x. c.loop-side.merged ++ x ∷ []) (sym both.1))) c.in-Some.ensures.upper_rises c.in-Some.ensures.lower_rises

pub returns : goal.returns
returns c = types-merged _ _ _ (passed-all _ _ _ _ _ _ _ _ _ c.loop-side.invariant (rw c.in_default.is at c.next.ensures.side))
