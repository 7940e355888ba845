use Rattle.std.proofs.Common.{◌≡◌, ◌<◌, ◌≤◌, ◌+◌, ◌-◌, ℕ, length, get_or, Ok, sym, ap, ◌∙◌, arith}
use Rattle.std.proofs.lemmas.Result.{err_from_is_err_and}
use Rattle.policy_merge.specs.Combining.{conflict_in}
use Rattle.policy_merge.specs.Merging.{merging}
use Rattle.chain_check.specs.declared.reason.Reason.{Reason}
use Rattle.chain_check.specs.Policies.{at_place}
use Rattle.chain_check.specs.Resolving.{IsConflict}
use Rattle.chain_check.specs.Reading.{claims_in}
use Rattle.chain_check.proofs.MergeLaws.{conflict-found, conflict_in-empty, merged_from-all, merged_from-end, merged_from-step}
use Rattle.chain_check.proofs.ResolveLaws.{Passes-err, length-policies, policies-drop, policies_of, policy-there}
use Rattle.chain_check.proofs.resolving.merge_policies.Goals as goal

pub loop-place-init : goal.loop-place-init
loop-place-init c =
    let es = c.args.below.now in
    let past : length (policies_of (claims_in es)) ≤ length es = omega (arith, length-policies es) in
    (merged_from-end (policies_of (claims_in es)) (length es) past ∙ ap Ok (sym c.empty-policy.ensures), ap conflict_in c.empty-policy.ensures ∙ conflict_in-empty, omega arith, λ none. none)

pub returns-in_err-policy-clause-merged : goal.returns-in_err-policy-clause-merged
returns-in_err-policy-clause-merged c =
    let p = err_from_is_err_and c.from_residual.result c.from_residual.ensures.1 in
    let es = c.args.below.now in
    let ps = policies_of (claims_in es) in
    let above = c.loop-place.place in
    let next : above ≡ (above - 1) + 1 = omega (arith, c.loop-place-test.true) in
    let short : above - 1 < length es = omega (arith, c.loop-place-test.true, c.loop-place.invariant.2) in
    let far : above - 1 < length ps = omega (arith, length-policies es, short) in
    let step = merged_from-step ps above (above - 1) c.loop-place.policy _ next (policy-there es (above - 1) c.index-below-place.result short) far c.loop-place.invariant.0 in
    let outcome = merging c.loop-place.policy (get_or es (above - 1) c.index-below-place.result).statement.policy in
    let some : 1 ≤ above - 1 = omega (arith, c.loop-place-test.true) in
    let within : above - 1 ≤ length ps = omega (arith, far) in
    let found = λ (place : ℕ) (reason : Reason) (told : (place ≡ above - 1) × IsConflict outcome reason). conflict-found ps (above - 1) place outcome reason some within step told in
    rw (p.1, p.2, policies-drop (claims_in es)) (Passes-err c.in_err-policy.field-0.0 _ _ (λ place reason. (place ≡ above - 1) × IsConflict outcome reason) _ found c.in_err-policy.ensures.merged)

pub loop-place-preserved : goal.loop-place-preserved
loop-place-preserved c =
    let es = c.args.below.now in
    let ps = policies_of (claims_in es) in
    let above = c.loop-place.place in
    let next : above ≡ (above - 1) + 1 = omega (arith, c.loop-place-test.true) in
    let short : above - 1 < length es = omega (arith, c.loop-place-test.true, c.loop-place.invariant.2) in
    let far : above - 1 < length ps = omega (arith, length-policies es, short) in
    let step = merged_from-step ps above (above - 1) c.loop-place.policy _ next (policy-there es (above - 1) c.index-below-place.result short) far c.loop-place.invariant.0 in (
      step ∙ ap (at_place (above - 1)) c.in_ok-policy.ensures.merged,
      c.in_ok-policy.ensures.combines,
      omega (arith, c.loop-place.invariant.2),
      λ zeroth. absurd (omega (arith, c.loop-place-test.true, zeroth)),
    )

pub returns-clause-merged : goal.returns-clause-merged
returns-clause-merged c =
    let es = c.args.below.now in
    rw (policies-drop (claims_in es))
    (merged_from-all (policies_of (claims_in es)) c.loop-place.place c.loop-place.policy (omega (arith, c.loop-place-test.false)) (λ zeroth. length-policies es ∙ c.loop-place.invariant.3 zeroth)
    c.loop-place.invariant.0)
