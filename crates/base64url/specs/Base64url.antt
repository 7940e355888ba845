-- Base64url without padding (RFC 4648 section 5, RFC 7515 section 2).
use Rattle.std.specs.Prelude.{ℕ, ◌==◌, List, length, Option, Some, None, if◌then◌else◌}
use Rattle.std.specs.Option.{option_and_then}
use Rattle.std.specs.Result.{result_ok}
use Rattle.base64.specs.Engines.{url_safe_no_pad}
use Rattle.base64.specs.GeneralPurpose.{encode_of, decode_of}
pub use Rattle.base64.specs.GeneralPurpose.{IsBytes}

-- the base64url of the bytes
unfoldable pub base64url : List ℕ → List ℕ
base64url bytes = encode_of url_safe_no_pad bytes

-- the bytes whose base64url the text is: no padding, no line breaks, and no bits left over
unfoldable pub decoded : List ℕ → Option (List ℕ)
decoded text = result_ok (decode_of url_safe_no_pad text)

-- the list, where it has 32 items
abbrev pub of_32 : List ℕ → Option (List ℕ)
of_32 bytes = if length bytes == 32 then Some bytes else None

-- the 32 bytes whose base64url the text is
unfoldable pub decoded_32 : List ℕ → Option (List ℕ)
decoded_32 text = option_and_then of_32 (decoded text)
