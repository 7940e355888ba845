use Rattle.std.proofs.Common.{subst}
use Rattle.entity_statement.specs.Signed.{IsReading}
use Rattle.mark_status.proofs.AnswerLaws.{configured-read}
use Rattle.mark_status.proofs.issuer.Configured.of.Goals as goal

pub returns : goal.returns
returns c =
    let read = subst (IsReading c.args.text.now) c.in-Some.is c.in_ok-signed.ensures in
    configured-read c.args.text.now c.in-Some.signed c.configured_by-configured.result read.0 c.configured_by-configured.ensures.endpoint c.configured_by-configured.ensures.keys
