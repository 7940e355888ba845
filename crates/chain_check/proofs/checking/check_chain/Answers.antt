use Rattle.chain_check.specs.Validity.{case_of}
use Rattle.chain_check.specs.declared.verdict.Verdict.TheVariants.{Refused, Valid}
use Rattle.chain_check.proofs.Verdicts.{never-revived, one_verdict, valid-exactly, valid-more_keys}
use Rattle.chain_check.proofs.checking.check_chain.Goals as goal

pub returns-in-Ok-clause-within : goal.returns-in-Ok-clause-within
returns-in-Ok-clause-within g c = rw (← c.as_slice.ensures) c.in-Ok.ensures.verdict.0.within

pub returns-in-Ok-clause-more_keys : goal.returns-in-Ok-clause-more_keys
returns-in-Ok-clause-more_keys g c = rw (← c.as_slice.ensures) (λ more extends. valid-more_keys _ c.args.anchor.now c.args.keys.now.keys more c.args.t _ extends c.in-Ok.ensures.verdict)

pub returns-in-Ok-clause-expired : goal.returns-in-Ok-clause-expired
returns-in-Ok-clause-expired g c = λ expired later after. never-revived _ c.args.anchor.now c.args.keys.now.keys c.args.t later expired after

pub returns-in-Err-Refused-clause-verdict : goal.returns-in-Err-Refused-clause-verdict
returns-in-Err-Refused-clause-verdict g c = rw (← c.as_slice.ensures) (rw c.in-Err-Refused.field-0-is at c.in-Err-Refused.ensures.verdict)

pub returns-in-Err-Refused-clause-only : goal.returns-in-Err-Refused-clause-only
returns-in-Err-Refused-clause-only g c =
    valid-exactly (case_of c.args.chain.now c.args.anchor.now c.args.keys.now.keys c.args.t) (Refused c.in-Err-Refused.place c.in-Err-Refused.reason) (returns-in-Err-Refused-clause-verdict g c)

pub returns-in-Err-Refused-clause-expired : goal.returns-in-Err-Refused-clause-expired
returns-in-Err-Refused-clause-expired g c = λ expired later after. never-revived _ c.args.anchor.now c.args.keys.now.keys c.args.t later expired after

pub returns-in-Err-Memory-clause-expired : goal.returns-in-Err-Memory-clause-expired
returns-in-Err-Memory-clause-expired g c = λ expired later after. never-revived _ c.args.anchor.now c.args.keys.now.keys c.args.t later expired after

pub returns-in-Ok-clause-one : goal.returns-in-Ok-clause-one
returns-in-Ok-clause-one g c = rw (← c.as_slice.ensures) (λ other is. one_verdict (case_of _ c.args.anchor.now c.args.keys.now.keys c.args.t) other (Valid c.in-Ok.resolved) is c.in-Ok.ensures.verdict)

pub returns-in-Err-Refused-clause-one : goal.returns-in-Err-Refused-clause-one
returns-in-Err-Refused-clause-one g c = λ other is.
    one_verdict (case_of c.args.chain.now c.args.anchor.now c.args.keys.now.keys c.args.t) other (Refused c.in-Err-Refused.place c.in-Err-Refused.reason) is
    (returns-in-Err-Refused-clause-verdict g c)
