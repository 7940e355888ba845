use Rattle.std.proofs.Common.{◌≡◌, Some, sym, subst, rules}
use Rattle.std.specs.Str.{IsUtf8}
use Rattle.slh_dsa.specs.Verifying.{Verifies}
use Rattle.sealed.specs.Sealing.{signature_by, signed_of, signer_key, signer_name}
use Rattle.sealed.proofs.Headers.{IsUtf8-thumbprint_of}
use Rattle.sealed.proofs.Sealings.{name_is, signed_is, text_is, sealed_by, signed_as, parted}
use Rattle.sealed.proofs.sealing.seal_signed.Goals as goal

pub header-requires-clause-kid : goal.header-requires-clause-kid
header-requires-clause-kid g c = subst IsUtf8 (sym c.in_ok-kid.ensures) (IsUtf8-thumbprint_of c.alg-alg.result c.public.result)

pub returns-clause-text : goal.returns-clause-text
returns-clause-text g c =
    let keys = c.args.keys.now in
    let alg = c.alg-alg.result in
    let named : c.in_ok-kid.kid ≡ signer_name keys = name_is keys alg c.public.result c.in_ok-kid.kid c.alg-alg.ensures c.public.ensures c.in_ok-kid.ensures in
    let is : c.in_ok-signed.signed ≡ signed_of keys c.args.typ.now c.args.payload.now =
    signed_is keys alg c.args.typ.now c.in_ok-kid.kid c.args.payload.now c.in_ok-signed.signed c.in_ok-header.header c.alg-alg.ensures named c.in_ok-header.ensures.tree c.in_ok-signed.ensures.text in
    let made : c.sign.new.signature ≡ signature_by keys c.in_ok-signed.signed = cc in
    text_is c.join.result keys c.args.typ.now c.args.payload.now c.in_ok-signed.signed c.sign.new.signature is made c.join.ensures.text

pub returns-clause-sealed : goal.returns-clause-sealed
returns-clause-sealed g c =
    let keys = c.args.keys.now in
    let alg = c.alg-alg.result in
    let named : c.in_ok-kid.kid ≡ signer_name keys = name_is keys alg c.public.result c.in_ok-kid.kid c.alg-alg.ensures c.public.ensures c.in_ok-kid.ensures in
    let verifies : Verifies keys.alg (signer_key keys) c.in_ok-signed.signed c.sign.new.signature = search rules in
    let input = c.in_ok-signed.ensures.reads alg (Some c.args.typ.now) (Some c.in_ok-kid.kid) c.in_ok-header.ensures.names c.in_ok-header.ensures.shallow in
    sealed_by c.join.result keys alg c.args.typ.now c.in_ok-kid.kid c.args.payload.now c.in_ok-signed.signed c.sign.new.signature c.alg-alg.ensures named
    (c.join.ensures.splits c.args.payload.now alg (Some c.args.typ.now) (Some c.in_ok-kid.kid) input) verifies

pub returns-clause-splits : goal.returns-clause-splits
returns-clause-splits g c =
    let keys = c.args.keys.now in
    let alg = c.alg-alg.result in
    let named : c.in_ok-kid.kid ≡ signer_name keys = name_is keys alg c.public.result c.in_ok-kid.kid c.alg-alg.ensures c.public.ensures c.in_ok-kid.ensures in
    let input = c.in_ok-signed.ensures.reads alg (Some c.args.typ.now) (Some c.in_ok-kid.kid) c.in_ok-header.ensures.names c.in_ok-header.ensures.shallow in
    parted c.join.result keys alg c.args.typ.now c.in_ok-kid.kid c.args.payload.now c.in_ok-signed.signed c.sign.new.signature c.alg-alg.ensures named
    (c.join.ensures.splits c.args.payload.now alg (Some c.args.typ.now) (Some c.in_ok-kid.kid) input)

pub returns-clause-signed : goal.returns-clause-signed
returns-clause-signed g c =
    let keys = c.args.keys.now in
    let alg = c.alg-alg.result in
    let named : c.in_ok-kid.kid ≡ signer_name keys = name_is keys alg c.public.result c.in_ok-kid.kid c.alg-alg.ensures c.public.ensures c.in_ok-kid.ensures in
    let verifies : Verifies keys.alg (signer_key keys) c.in_ok-signed.signed c.sign.new.signature = search rules in
    let input = c.in_ok-signed.ensures.reads alg (Some c.args.typ.now) (Some c.in_ok-kid.kid) c.in_ok-header.ensures.names c.in_ok-header.ensures.shallow in
    signed_as c.join.result keys alg c.args.typ.now c.in_ok-kid.kid c.args.payload.now c.in_ok-signed.signed c.sign.new.signature c.alg-alg.ensures named
    (c.join.ensures.holds c.args.payload.now alg (Some c.args.typ.now) (Some c.in_ok-kid.kid) input) verifies
