use Rattle.std.proofs.Common.{◌∙◌, arith}
use Rattle.base64url.proofs.Canonical.{bytes_fit, decoded_32_iff, decoded_32_front, decoded_32_other, decoded_32_err, first_32}
use Rattle.base64url.proofs.coding.decode_32.Goals as goal

pub returns-then-text-ne43-clause-exact : goal.returns-then-text-ne43-clause-exact
returns-then-text-ne43-clause-exact c = decoded_32_other c.args.text.now (bytes_fit _ c.type_inv.text) c.if-text-ne43.true

pub returns-then-text-ne43-clause-canonical : goal.returns-then-text-ne43-clause-canonical
returns-then-text-ne43-clause-canonical c b bb size = rw (decoded_32_other c.args.text.now (bytes_fit _ c.type_inv.text) c.if-text-ne43.true) (decoded_32_iff c.args.text.now b (bytes_fit _ c.type_inv.text) bb size)

pub returns-in-Ok-clause-exact : goal.returns-in-Ok-clause-exact
returns-in-Ok-clause-exact c =
    c.copied.ensures ∙ first_32 c.decode_slice_unchecked.new.output c.first_chunk.result c.decode_slice_unchecked.auto.output c.first_chunk.ensures.cases
    ∙ decoded_32_front c.args.text.now c.decode_slice_unchecked.new.output c.in-Ok.field-0 (bytes_fit _ c.type_inv.text) c.if-text-ne43.false c.in-Ok.ensures.ok.0 (omega (arith, c.in-Ok.ensures.ok.2, c.decode_slice_unchecked.auto.output))

pub returns-in-Err-clause-exact : goal.returns-in-Err-clause-exact
returns-in-Err-clause-exact c = decoded_32_err c.args.text.now c.in-Err.field-0 c.in-Err.ensures.err

pub returns-in-Err-clause-canonical : goal.returns-in-Err-clause-canonical
returns-in-Err-clause-canonical c b bb size = rw (decoded_32_err c.args.text.now c.in-Err.field-0 c.in-Err.ensures.err) (decoded_32_iff c.args.text.now b (bytes_fit _ c.type_inv.text) bb size)

pub returns-in-Ok-clause-canonical : goal.returns-in-Ok-clause-canonical
returns-in-Ok-clause-canonical c b bb size =
    rw (returns-in-Ok-clause-exact c) (decoded_32_iff c.args.text.now b (bytes_fit _ c.type_inv.text) bb size)
