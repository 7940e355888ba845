use Rattle.std.proofs.Common.{subst}
use Rattle.std.proofs.lemmas.Result.{IfOk-weaker}
use Rattle.chain_check.specs.Validity.{case_of}
use Rattle.chain_check.specs.Verdicts.{IsVerdictOn}
use Rattle.rehearsal.specs.Moments.{moment}
use Rattle.rehearsal.proofs.rehearsing.check.Goals as goal

pub returns-in-Valid : goal.returns-in-Valid
returns-in-Valid g c =
    IfOk-weaker c.last_of-last.result _ _
    (λ text last. record {
      resolved = c.in-Valid.resolved;
      valid = subst (IsVerdictOn (case_of c.args.chain.now c.args.anchor.now c.args.keys.now.keys moment)) c.in-Valid.is c.in_ok-verdict.ensures.verdict;
      tells = last;
    })
    c.last_of-last.ensures
