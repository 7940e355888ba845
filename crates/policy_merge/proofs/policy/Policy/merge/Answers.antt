use Rattle.std.proofs.Common.{◌≡◌, ◌∙◌, sym, ap, ap₂, true, subst, Err}
use Rattle.std.proofs.lemmas.Result.{err_from_is_err_and}
use Rattle.policy_merge.specs.Policies.{types_formed, operators_at}
use Rattle.policy_merge.specs.Combining.{Gives, conflict_in}
use Rattle.policy_merge.specs.Merging.{merged, merging}
use Rattle.policy_merge.proofs.MergeWalk.{merging-ok, merging-clear}
use Rattle.policy_merge.proofs.MergedTables.{merged-formed}
use Rattle.policy_merge.proofs.Neutral.{merging-above, merging-below, merged-combines}
use Rattle.policy_merge.proofs.Lookups.{operators_at-merged}
use Rattle.policy_merge.proofs.Least.{merging-first}
use Rattle.policy_merge.proofs.ConflictNames.{merging-utf8}
use Rattle.policy_merge.proofs.policy.Policy.merge.Goals as goal

pub invariant_of-result : goal.invariant_of-result
invariant_of-result c =
    let upper : types_formed c.as_slice.result.now ≡ true = ap types_formed c.as_slice.ensures ∙ c.self.invariant in
    let lower : types_formed c.as_slice-2.result.now ≡ true = ap types_formed c.as_slice-2.ensures ∙ c.lower.invariant in
    ap types_formed (merging-ok c.as_slice.result.now c.as_slice-2.result.now c.in_ok-types.types c.in_ok-types.ensures) ∙ merged-formed c.as_slice.result.now c.as_slice-2.result.now upper lower

pub returns-clause-combines : goal.returns-clause-combines
returns-clause-combines c =
    ap conflict_in (merging-ok c.as_slice.result.now c.as_slice-2.result.now c.in_ok-types.types c.in_ok-types.ensures)
    ∙ merged-combines c.as_slice.result.now c.as_slice-2.result.now (merging-clear c.as_slice.result.now c.as_slice-2.result.now c.in_ok-types.types c.in_ok-types.ensures)

pub returns-clause-empty_lower : goal.returns-clause-empty_lower
returns-clause-empty_lower c =
    let upper_is : c.as_slice.result.now ≡ c.args.self.now = c.as_slice.ensures ∙ c.self.view_is in
    let lower_is : c.as_slice-2.result.now ≡ c.args.lower.now = c.as_slice-2.ensures ∙ c.lower.view_is in
    let good : types_formed c.args.self.now ≡ true = ap types_formed (sym c.self.view_is) ∙ c.self.invariant in
    λ none. sym (ap₂ merging upper_is (lower_is ∙ none) ∙ merging-above c.args.self.now good) ∙ c.in_ok-types.ensures

pub returns-clause-empty_upper : goal.returns-clause-empty_upper
returns-clause-empty_upper c =
    let upper_is : c.as_slice.result.now ≡ c.args.self.now = c.as_slice.ensures ∙ c.self.view_is in
    let lower_is : c.as_slice-2.result.now ≡ c.args.lower.now = c.as_slice-2.ensures ∙ c.lower.view_is in
    let good : types_formed c.args.lower.now ≡ true = ap types_formed (sym c.lower.view_is) ∙ c.lower.invariant in
    λ none. sym (ap₂ merging (upper_is ∙ none) lower_is ∙ merging-below c.args.lower.now good) ∙ c.in_ok-types.ensures

pub returns-in_err-types-clause-empty_lower : goal.returns-in_err-types-clause-empty_lower
returns-in_err-types-clause-empty_lower c =
    let p = err_from_is_err_and c.from_residual.result c.from_residual.ensures.1 in
    let upper_is : c.as_slice.result.now ≡ c.args.self.now = c.as_slice.ensures ∙ c.self.view_is in
    let lower_is : c.as_slice-2.result.now ≡ c.args.lower.now = c.as_slice-2.ensures ∙ c.lower.view_is in
    let good : types_formed c.args.self.now ≡ true = ap types_formed (sym c.self.view_is) ∙ c.self.invariant in
    λ none. rw (p.1, p.2) (subst (Gives (Err c.in_err-types.field-0.0)) (ap₂ merging upper_is (lower_is ∙ none) ∙ merging-above c.args.self.now good) c.in_err-types.ensures)

pub returns-in_err-types-clause-empty_upper : goal.returns-in_err-types-clause-empty_upper
returns-in_err-types-clause-empty_upper c =
    let p = err_from_is_err_and c.from_residual.result c.from_residual.ensures.1 in
    let upper_is : c.as_slice.result.now ≡ c.args.self.now = c.as_slice.ensures ∙ c.self.view_is in
    let lower_is : c.as_slice-2.result.now ≡ c.args.lower.now = c.as_slice-2.ensures ∙ c.lower.view_is in
    let good : types_formed c.args.lower.now ≡ true = ap types_formed (sym c.lower.view_is) ∙ c.lower.invariant in
    λ none. rw (p.1, p.2) (subst (Gives (Err c.in_err-types.field-0.0)) (ap₂ merging (upper_is ∙ none) lower_is ∙ merging-below c.args.lower.now good) c.in_err-types.ensures)

pub returns-clause-operators : goal.returns-clause-operators
returns-clause-operators c =
    let upper_is : c.as_slice.result.now ≡ c.args.self.now = c.as_slice.ensures ∙ c.self.view_is in
    let lower_is : c.as_slice-2.result.now ≡ c.args.lower.now = c.as_slice-2.ensures ∙ c.lower.view_is in
    let is = merging-ok c.as_slice.result.now c.as_slice-2.result.now c.in_ok-types.types c.in_ok-types.ensures ∙ ap₂ merged upper_is lower_is in
    λ t p. ap (λ types. operators_at types t p) is ∙ operators_at-merged c.args.self.now c.args.lower.now t p

pub returns-in_err-types-clause-first : goal.returns-in_err-types-clause-first
returns-in_err-types-clause-first c =
    let p = err_from_is_err_and c.from_residual.result c.from_residual.ensures.1 in
    let upper_is : c.as_slice.result.now ≡ c.args.self.now = c.as_slice.ensures ∙ c.self.view_is in
    let lower_is : c.as_slice-2.result.now ≡ c.args.lower.now = c.as_slice-2.ensures ∙ c.lower.view_is in
    let good : types_formed c.args.lower.now ≡ true = ap types_formed (sym c.lower.view_is) ∙ c.lower.invariant in
    rw (p.1, p.2) (merging-first c.args.self.now c.args.lower.now c.in_err-types.field-0.0 good (subst (Gives (Err c.in_err-types.field-0.0)) (ap₂ merging upper_is lower_is) c.in_err-types.ensures))

pub returns-in_err-types-clause-utf8 : goal.returns-in_err-types-clause-utf8
returns-in_err-types-clause-utf8 c =
    let p = err_from_is_err_and c.from_residual.result c.from_residual.ensures.1 in
    let upper_is : c.as_slice.result.now ≡ c.args.self.now = c.as_slice.ensures ∙ c.self.view_is in
    let lower_is : c.as_slice-2.result.now ≡ c.args.lower.now = c.as_slice-2.ensures ∙ c.lower.view_is in
    let upper : types_formed c.args.self.now ≡ true = ap types_formed (sym c.self.view_is) ∙ c.self.invariant in
    let lower : types_formed c.args.lower.now ≡ true = ap types_formed (sym c.lower.view_is) ∙ c.lower.invariant in
    rw (p.1, p.2) (merging-utf8 c.args.self.now c.args.lower.now c.in_err-types.field-0.0 upper lower
    (merging-first c.args.self.now c.args.lower.now c.in_err-types.field-0.0 lower (subst (Gives (Err c.in_err-types.field-0.0)) (ap₂ merging upper_is lower_is) c.in_err-types.ensures)))
