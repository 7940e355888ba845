use Rattle.std.proofs.Common.{sym, subst}
use Rattle.std.specs.Prelude.{IfOk}
use Rattle.cli_commands.specs.Findings.{IsVerified}
use Rattle.cli_commands.specs.Operations.{IsPerformed}
use Rattle.cli_commands.specs.declared.operation.Operation.TheVariants.{Verify}
use Rattle.cli_commands.proofs.SealingLaws.{sealed_by_signer}
use Rattle.cli_commands.proofs.operation.perform.Goals as goal

-- src/operation.rt
pub returns-in-Verify-clause-performed : goal.returns-in-Verify-clause-performed
returns-in-Verify-clause-performed g c =
    let done = subst (λ t. IfOk c.verify.result (IsVerified c.in-Verify.key t)) c.as_slice.ensures c.verify.ensures in
    subst (λ j. IfOk c.verify.result (IsPerformed j c.args.input)) (sym c.in-Verify.is)
    (subst (λ i. IfOk c.verify.result (IsPerformed (Verify c.in-Verify.key) i)) (sym c.in-Some.is) done)

-- src/operation.rt
pub returns-in-Issue-clause-sealed : goal.returns-in-Issue-clause-sealed
returns-in-Issue-clause-sealed g c = λ ring typ workers also.
    sealed_by_signer c.issue.result c.args.operation c.in-Issue.ring ring c.in-Issue.typ typ c.in-Issue.workers workers c.signer.result.now c.in-Issue.is c.signer.ensures c.issue.ensures.sealed also
