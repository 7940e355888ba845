use Rattle.chain_check.specs.Validity.{case_of}
use Rattle.chain_check.specs.Verdicts.{CanBeWritten, IsVerdictOn}
use Rattle.chain_check.specs.declared.verdict.Verdict.TheVariants.{Refused, Valid}
use Rattle.client_register.proofs.ChainTexts.{valid-utf8}
use Rattle.client_register.proofs.registering.resolve.Goals as goal

pub returns-in-Valid-clause-utf8 : goal.returns-in-Valid-clause-utf8
returns-in-Valid-clause-utf8 g c =
    let verdict : IsVerdictOn (case_of c.args.chain.now c.args.anchor.now c.args.keys.now.keys c.args.t) (Valid c.in-Valid.resolved) = rw c.in-Valid.is at c.in_ok-resolved.ensures.verdict in
    valid-utf8 (case_of c.args.chain.now c.args.anchor.now c.args.keys.now.keys c.args.t) verdict.0

pub returns-in-Refused-clause-told : goal.returns-in-Refused-clause-told
returns-in-Refused-clause-told g c =
    let written : CanBeWritten (Refused c.in-Refused.place c.in-Refused.reason) = rw c.in-Refused.is at c.in_ok-resolved.ensures.written in written
