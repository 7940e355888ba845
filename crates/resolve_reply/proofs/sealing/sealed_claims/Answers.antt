use Rattle.std.proofs.Common.{IfOk, ◌≡◌, ap, ap₂, sym, ◌∙◌, subst}
use Rattle.fed_json.specs.Compact.{compact}
use Rattle.fed_json.specs.Reading.{tree_in}
use Rattle.sealed.specs.Sealing.{IsSignedAs, sealed_payload}
use Rattle.resolve_reply.proofs.ReadLaws.{reads-back}
use Rattle.resolve_reply.proofs.sealing.sealed_claims.Goals as goal

pub returns-clause-text : goal.returns-clause-text
returns-clause-text g c =
    let keys = c.args.signer.now.keys in
    let payload = c.as_slice.ensures ∙ c.in_ok-payload.ensures.text in
    subst (λ t. IfOk c.seal_signed.result (λ text. text ≡ t)) (ap₂ (sealed_payload keys) c.in_ok-typ.ensures payload) c.seal_signed.ensures.text

pub returns-clause-signed : goal.returns-clause-signed
returns-clause-signed g c =
    let keys = c.args.signer.now.keys in
    let payload = c.as_slice.ensures ∙ c.in_ok-payload.ensures.text in
    subst (λ t. IfOk c.seal_signed.result (IsSignedAs keys t (compact c.args.claims.now))) c.in_ok-typ.ensures
    (subst (λ p. IfOk c.seal_signed.result (IsSignedAs keys c.in_ok-typ.typ p)) payload c.seal_signed.ensures.signed)

pub returns-clause-reads : goal.returns-clause-reads
returns-clause-reads g c =
    let payload = c.as_slice.ensures ∙ c.in_ok-payload.ensures.text in
    reads-back c.args.signer.now.keys _ _ c.args.claims.now _ c.in_ok-typ.ensures payload c.seal_signed.ensures.splits
    (λ shallow. ap tree_in (sym c.in_ok-payload.ensures.text) ∙ c.in_ok-payload.ensures.reads_back shallow)
