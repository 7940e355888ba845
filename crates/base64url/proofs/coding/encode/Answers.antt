use Rattle.std.proofs.Common.{◌≡◌}
use Rattle.std.specs.String.{string_vec}
use Rattle.base64.specs.Engines.{url_safe_no_pad}
use Rattle.base64.specs.GeneralPurpose.{encode_of}
use Rattle.base64url.specs.Base64url.{base64url}
use Rattle.base64url.proofs.coding.encode.Goals as goal

pub returns : goal.returns
unfolding base64url
returns c =
    let text : (string_vec c.in_ok-text.text).items ≡ encode_of url_safe_no_pad c.args.bytes.now = c.in_ok-text.ensures.text in
    rw (c.from_vec.ensures, c.into_bytes.ensures.value) text
