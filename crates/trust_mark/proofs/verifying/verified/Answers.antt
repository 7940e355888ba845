use Rattle.entity_statement.specs.Told.{told}
use Rattle.trust_mark.specs.Marks.{case_of, mark_of}
use Rattle.trust_mark.proofs.CountLaws.{unread-tests, zero-counted}
use Rattle.trust_mark.proofs.ReadingLaws.{read-none, read-some}
use Rattle.trust_mark.proofs.verifying.verified.Goals as goal

pub verdict_on-verdict-requires : goal.verdict_on-verdict-requires
verdict_on-verdict-requires g c = read-some mark_of c.args.entry.now.text c.as_slice.result.now c.in_ok-signed.field-0 c.in-Some.signed c.as_slice.ensures c.in-Some.is c.in_ok-signed.ensures

pub returns-in-None-clause-counted : goal.returns-in-None-clause-counted
returns-in-None-clause-counted g c =
    let case = case_of c.args.entry.now c.args.leaf.now (told c.args.anchor.now) c.args.issuer_keys.now.keys c.args.t in
    zero-counted _ _ (unread-tests case (read-none mark_of c.args.entry.now.text c.as_slice.result.now c.in_ok-signed.field-0 c.as_slice.ensures c.in-None.is c.in_ok-signed.ensures))
