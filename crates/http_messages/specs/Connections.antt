-- Whether a connection goes on behind a request (RFC 9112 sections 9.3 and 9.6).
use Rattle.std.specs.Prelude.{ℕ, ◌==◌, ◌||◌, Bool, List, map, codes, bytes_eq}
use Rattle.std.specs.Char.{to_ascii_lowercase}
use Rattle.std.specs.List.{list_any, slice_split}
use Rattle.httparse.specs.Grammar.{RequestHead, trim_ows}
use Rattle.httparse.specs.Spans.{name_and_value}
use Rattle.http_messages.specs.Fields.{Line, values_named}

abbrev pub is_comma : ℕ → Bool
is_comma b = b == 44

-- what commas part (RFC 9110 section 5.6.1)
abbrev pub members : List ℕ → List (List ℕ)
members value = slice_split is_comma value

-- the member is that word, which is given in lower case; neither case counts nor white space around it
abbrev pub is_word : List ℕ → List ℕ → Bool
is_word word member = bytes_eq (map to_ascii_lowercase (trim_ows member)) word

-- a list has that member
abbrev pub has_member : List ℕ → List ℕ → Bool
has_member word value = list_any (is_word word) (members value)

-- one of the header lines asks that the connection be closed (RFC 9110 section 7.6.1)
abbrev pub asks_close : List Line → Bool
asks_close lines = list_any (has_member (codes "close")) (values_named (codes "connection") lines)

-- the sender closes behind this request: it is of HTTP/1.0, or a `Connection` line has `close` among its members
abbrev pub closes : RequestHead → Bool
closes h = (h.minor == 0) || asks_close (map name_and_value h.fields)
