-- The trust chain that a resolver's reply carries, as whoever asked finds it.
use Rattle.std.specs.Prelude.{◌≡◌, ℕ, List, [], ◌∷◌, ◌++◌, drop, length, nat_eq, Some, if◌then◌else◌}
use Rattle.std.specs.List.{starts_with}
use Rattle.fed_json.specs.declared.tree.Json.{Json}
use Rattle.fed_json.specs.Reading.{tree_in}
use Rattle.http_plain.specs.Responses.{crlf}
use Rattle.jws_form.specs.declared.compact.Compact.{Compact}
use Rattle.jws_form.specs.Compact.{IsCompact}
use Rattle.chain_check.specs.Chains.{Texts}
use Rattle.resolve_reply.specs.Replies.{chain_of}

-- the body of a message: what stands behind its first empty line (RFC 9112 section 2.1)
abbrev pub empty_line : List ℕ
empty_line = crlf ++ crlf

unfoldable pub body_of : List ℕ → List ℕ
body_of [] = []
body_of (byte ∷ bytes) = if starts_with nat_eq (byte ∷ bytes) empty_line then drop (length empty_line) (byte ∷ bytes) else body_of bytes

-- the text is a signed one whose claims carry this chain
pub record Carries (text : List ℕ) (chain : Texts) : Type 0 where
  pub parts : Compact
  pub splits : IsCompact text parts
  pub claims : Json
  pub reads : tree_in parts.payload ≡ Some claims
  pub claimed : chain_of claims ≡ Some chain
