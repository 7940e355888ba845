-- The grammar of a body in chunks (RFC 9112 section 7.1).
use Rattle.std.specs.Prelude.{◌≡◌, ◌≤◌, ◌<◌, ℕ, ◌==◌, ◌&&◌, Bool, true, not, List, [], ◌∷◌, ◌++◌, length, nat_lt}
use Rattle.std.specs.Char.{digit_value}
use Rattle.std.specs.List.{concat, list_all}
use Rattle.std.specs.Str.Parse.{digits_value}
use Rattle.httparse.specs.Grammar.{is_ows}

-- the most bytes of a body
abbrev pub body_limit : ℕ
body_limit = 262144

-- the most bytes of the chunks that it comes in
abbrev pub form_limit : ℕ
form_limit = 1048576

abbrev pub crlf : List ℕ
crlf = 13 ∷ 10 ∷ []

-- HEXDIG, in either case
abbrev pub is_hex : ℕ → Bool
is_hex b = nat_lt (digit_value b) 16

-- a byte that doesn't end a line
abbrev pub is_inner : ℕ → Bool
is_inner b = not (b == 13) && not (b == 10)

-- chunk-ext (section 7.1.1), which is left unread: nothing, or a semicolon and bytes of its line
abbrev pub is_extension : List ℕ → Bool
is_extension [] = true
is_extension (b ∷ bs) = (b == 59) && list_all is_inner bs

-- chunk-size [ chunk-ext ] CRLF, with white space behind the size, which is 1 to 16 digits
pub record IsLine (line : List ℕ) (size : ℕ) : Type 0 where
  pub digits : List ℕ
  pub blanks : List ℕ
  pub extension : List ℕ
  pub some : 1 ≤ length digits
  pub few : length digits ≤ 16
  pub hexadecimal : list_all is_hex digits ≡ true
  pub white : list_all is_ows blanks ≡ true
  pub extends : is_extension extension ≡ true
  pub size_is : size ≡ digits_value 16 digits
  pub spelled : line ≡ digits ++ (blanks ++ (extension ++ crlf))

-- chunk = chunk-size [ chunk-ext ] CRLF chunk-data CRLF
pub record IsChunk (text contents : List ℕ) : Type 0 where
  pub line : List ℕ
  pub is_line : IsLine line (length contents)
  pub some : 0 < length contents
  pub spelled : text ≡ line ++ (contents ++ crlf)

-- *chunk: chunks of these data, one behind the other
abbrev pub AreChunks : List (List ℕ) → List ℕ → Type 0
AreChunks [] text = text ≡ []
AreChunks (d ∷ ds) text = (chunk rest : List ℕ) × (text ≡ chunk ++ rest) × IsChunk chunk d × AreChunks ds rest

-- chunked-body up to the trailer-section: *chunk last-chunk, where the size of the last chunk is 0
pub record IsBody (text body : List ℕ) : Type 0 where
  pub contents : List (List ℕ)
  pub chunks : List ℕ
  pub last : List ℕ
  pub are_chunks : AreChunks contents chunks
  pub is_last : IsLine last 0
  pub spelled : text ≡ chunks ++ last
  pub body_is : body ≡ concat contents

-- the bytes may go on to a body
abbrev pub Begins : List ℕ → Type 0
Begins x = (more body : List ℕ) × IsBody (x ++ more) body
