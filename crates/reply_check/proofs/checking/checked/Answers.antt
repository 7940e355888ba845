use Rattle.reply_check.specs.Verdicts.{case_of}
use Rattle.reply_check.proofs.AnswerLaws.{chain-answer, form-answer, none-read, signature-answer, some-read}
use Rattle.reply_check.proofs.ReadLaws.{reply-whole}
use Rattle.reply_check.proofs.checking.checked.Goals as goal

pub returns-in_default-clause-verdict : goal.returns-in_default-clause-verdict
returns-in_default-clause-verdict g c =
    let q = case_of c.args.text.now c.args.resolver.now.keys c.args.anchor.now c.args.keys.now.keys c.args.t in
    form-answer q (none-read c.args.text.now c.in_ok-signed.field-0 c.in_default.not-Some c.in_ok-signed.ensures)

pub returns-then-not-is_signed-clause-verdict : goal.returns-then-not-is_signed-clause-verdict
returns-then-not-is_signed-clause-verdict g c =
    let q = case_of c.args.text.now c.args.resolver.now.keys c.args.anchor.now c.args.keys.now.keys c.args.t in
    let read = some-read c.args.text.now c.in_ok-signed.field-0 c.in-Some.signed c.in-Some.is c.in_ok-signed.ensures in
    signature-answer q c.in-Some.signed.claims c.in-Some.signed.compact c.is_signed.result read.0 read.1 c.is_signed.ensures c.if-not-is_signed.true

pub returns-clause-verdict : goal.returns-clause-verdict
returns-clause-verdict g c =
    let q = case_of c.args.text.now c.args.resolver.now.keys c.args.anchor.now c.args.keys.now.keys c.args.t in
    let read = some-read c.args.text.now c.in_ok-signed.field-0 c.in-Some.signed c.in-Some.is c.in_ok-signed.ensures in
    chain-answer q c.in-Some.signed.claims c.in-Some.signed.compact c.is_signed.result c.checked_chain.result read.0 read.1 c.is_signed.ensures c.if-not-is_signed.false c.checked_chain.ensures.verdict

pub returns-clause-written : goal.returns-clause-written
returns-clause-written g c =
    let read = some-read c.args.text.now c.in_ok-signed.field-0 c.in-Some.signed c.in-Some.is c.in_ok-signed.ensures in
    c.checked_chain.ensures.written (reply-whole c.args.text.now c.in-Some.signed.claims read.0)
