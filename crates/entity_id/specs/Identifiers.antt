-- Which texts identify an entity, and the host that each names (OpenID Federation 1.0 section 1.2).
use Rattle.std.specs.Prelude.{◌≡◌, ◌≤◌, ℕ, ◌==◌, ◌&&◌, ◌||◌, List, [], length, codes, nat_lt, nat_le, nat_eq, Bool, not, IsTrue, IsFalse, Option, None, option_map, unwrap_or, Result, Ok, Err, IsOk, IsErr, is_ok, if◌then◌else◌}
use Rattle.std.specs.List.{list_all, list_any, starts_with, All, AllPass}
use Rattle.std.specs.Result.{result_ok}
use Rattle.url.specs.Host.{host_text}
use Rattle.url.specs.declared.error.ParseError.{ParseError}
use Rattle.url.specs.Parser.{parse_url}
use Rattle.url.specs.Parts.{Parts, host_or_empty}
use Rattle.entity_id.specs.declared.fault.IdFault.{IdFault}
use Rattle.entity_id.specs.declared.fault.IdFault.TheVariants.{NotUrl, Scheme, Extra, Memory}

-- a visible ASCII character other than the backslash, which readers of URLs take for a slash (RFC 3986 section 2)
abbrev pub is_plain : ℕ → Bool
is_plain b = nat_le 0x21 b && nat_le b 0x7e && not (b == 92)

-- a question mark, a number sign or an at sign: no part of a scheme, a host, a port or a path (RFC 3986 section 3)
abbrev pub is_extra : ℕ → Bool
is_extra b = b == 63 || b == 35 || b == 64

-- the text begins with a scheme of the web (RFC 9110 section 4.2)
abbrev pub has_web_scheme : List ℕ → Bool
has_web_scheme text = starts_with nat_eq text (codes "https://") || starts_with nat_eq text (codes "http://")

-- the text identifies an entity: a URL of the web, with neither query, fragment nor user information (section 1.2)
pub record IsIdentifier (text : List ℕ) : Type 0 where
  pub short : length text ≤ 2048
  pub plain : AllPass is_plain text
  pub web : IsTrue (has_web_scheme text)
  pub bare : All (λ b. IsFalse (is_extra b)) text
  pub url : IsOk (parse_url None text)

-- the identifier that the text is, or the text's first fault (section 1.2)
unfoldable pub identifier_in : List ℕ → Result (List ℕ) IdFault
identifier_in text =
    if nat_lt 2048 (length text) || not (list_all is_plain text) then Err NotUrl
    else (if not (has_web_scheme text) then Err Scheme
    else (if list_any is_extra text then Err Extra
    else (if is_ok (parse_url None text) then Ok text else Err NotUrl)))

-- the identifier that the text is, where it is one (section 1.2)
abbrev pub identifier_of : List ℕ → Option (List ℕ)
identifier_of text = result_ok (identifier_in text)

-- the answer is the one that is expected; of want of memory nothing is said
abbrev pub Gives : Result (List ℕ) IdFault → Result (List ℕ) IdFault → Type 0
Gives (Err Memory) expected = Unit {0}
Gives answer expected = expected ≡ answer

-- the host of a URL as the URL writes it, without the port: a domain in lower case, an address in its usual form (URL Standard section 3)
abbrev pub host_in : Parts → List ℕ
host_in url = host_text (host_or_empty url)

-- the host of the URL that the text is
unfoldable pub host_of : List ℕ → List ℕ
host_of text = unwrap_or (option_map host_in (result_ok (parse_url None text))) []

-- the URL that `url` reads; any text that it reads as none is NotUrl
abbrev pub ParsesTo : Result Parts IdFault → Result Parts ParseError → Type 0
ParsesTo (Ok url) expected = expected ≡ Ok url
ParsesTo (Err Memory) expected = Unit {0}
ParsesTo (Err f) expected = (f ≡ NotUrl) × IsErr expected
