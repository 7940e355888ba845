use Rattle.std.proofs.Common.{◌≡◌, ◌-◌, length, take, Ok, refl, sym, ap, ◌∙◌}
use Rattle.std.proofs.lemmas.Result.{err_from_is_err_and}
use Rattle.policy_apply.specs.Applying.{applying}
use Rattle.chain_check.specs.Policies.{merged_policy}
use Rattle.chain_check.specs.Reading.{claims_in}
use Rattle.chain_check.proofs.ResolveLaws.{Passes-err, claims-below, conflict-fails, merged-is, refusal-fails}
use Rattle.chain_check.proofs.resolving.metadata_within.Goals as goal

pub returns-in_err-policy-clause-resolved : goal.returns-in_err-policy-clause-resolved
returns-in_err-policy-clause-resolved c =
    let p = err_from_is_err_and c.from_residual.result c.from_residual.ensures.1 in
    let es = c.args.entries.now in
    let below = take (length es - 1) es in
    let is = claims-below es below (length es - 1) refl refl in
    rw (p.1, p.2) (Passes-err c.in_err-policy.field-0.0 _ _ _ _ (conflict-fails (claims_in es) _ (merged-is es below is) c.requires.within) c.in_err-policy.ensures.merged)

pub returns-in_err-metadata-2-clause-resolved : goal.returns-in_err-metadata-2-clause-resolved
returns-in_err-metadata-2-clause-resolved c =
    let p = err_from_is_err_and c.from_residual-in_err-metadata-2.result c.from_residual-in_err-metadata-2.ensures.1 in
    let es = c.args.entries.now in
    let below = take (length es - 1) es in
    let is = claims-below es below (length es - 1) refl refl in
    let merged : merged_policy (claims_in es) ≡ Ok c.in_ok-policy.policy = sym (merged-is es below is) ∙ c.in_ok-policy.ensures.merged in
    rw (p.1, p.2) (Passes-err c.in_err-metadata-2.field-0.0 _ _ _ _ (refusal-fails (claims_in es) c.in_ok-policy.policy _ merged (ap (applying c.in_ok-policy.policy) c.in_ok-metadata.ensures.tree) c.requires.within) c.in_err-metadata-2.ensures.applied)

pub returns-clause-resolved : goal.returns-clause-resolved
returns-clause-resolved c =
    let es = c.args.entries.now in
    let below = take (length es - 1) es in
    let is = claims-below es below (length es - 1) refl refl in (
      c.requires.within,
      record {
        policy = c.in_ok-policy.policy;
        merged = sym (merged-is es below is) ∙ c.in_ok-policy.ensures.merged;
        resolved = sym (ap (applying c.in_ok-policy.policy) c.in_ok-metadata.ensures.tree) ∙ c.in_ok-metadata-2.ensures.applied;
      },
    )
