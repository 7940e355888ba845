use Rattle.std.proofs.Common.{◌≡◌, Err, sym, ap}
use Rattle.std.specs.Result.{result_ok}
use Rattle.base64.specs.Engines.{url_safe_no_pad}
use Rattle.base64.specs.GeneralPurpose.{decode_of}
use Rattle.base64url.specs.Base64url.{decoded}
use Rattle.base64url.proofs.Canonical.{bytes_fit, decoded_iff}
use Rattle.base64url.proofs.coding.decode.Goals as goal

pub returns-in-Err-DecodeError-clause-exact : goal.returns-in-Err-DecodeError-clause-exact
unfolding decoded
returns-in-Err-DecodeError-clause-exact c =
    let failed : decode_of url_safe_no_pad c.args.text.now ≡ Err c.in-Err-DecodeError.field-0-0 = rw c.in-Err-DecodeError.field-0-is at c.in-Err-DecodeError.ensures.err in
    sym (ap result_ok failed)

pub returns-in-Err-DecodeError-clause-canonical : goal.returns-in-Err-DecodeError-clause-canonical
returns-in-Err-DecodeError-clause-canonical c b bb = rw (returns-in-Err-DecodeError-clause-exact c) (decoded_iff c.args.text.now b (bytes_fit _ c.type_inv.text) bb)
