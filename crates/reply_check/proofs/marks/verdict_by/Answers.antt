use Rattle.std.proofs.Common.{subst, IfOk}
use Rattle.entity_statement.specs.Told.{told}
use Rattle.trust_mark.specs.Marks.{case_of}
use Rattle.trust_mark.specs.Verdicts.{IsVerdictOn}
use Rattle.reply_check.proofs.marks.verdict_by.Goals as goal

pub returns : goal.returns
returns g c =
    subst (λ keys. IfOk c.verify_mark-verdict.result (IsVerdictOn (case_of c.args.entry.now c.args.here.now.leaf.sub (told c.args.here.now.anchor) keys c.args.here.now.moment)))
    c.keys_or.ensures c.verify_mark-verdict.ensures.verdict
