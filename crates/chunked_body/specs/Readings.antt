-- The reading of a body in chunks (RFC 9112 section 7.1), byte by byte.
use Rattle.std.specs.Prelude.{ℕ, ◌+◌, ◌-◌, ◌*◌, ◌==◌, ◌||◌, Bool, true, false, List, [], ◌∷◌, ◌++◌, length, nat_lt, nat_le, if◌then◌else◌}
use Rattle.std.specs.Char.{digit_value}
use Rattle.httparse.specs.Grammar.{is_ows}
use Rattle.chunked_body.specs.Grammar.{body_limit, form_limit}
use Rattle.chunked_body.specs.declared.place.Place.{Place}
use Rattle.chunked_body.specs.declared.place.Place.TheVariants.{Line, Size, Pad, Extension, LineFeed, Data, DataReturn, DataFeed, Done, Over, Bad}

-- the reading has ended
abbrev pub is_final : Place → Bool
is_final Line = false
is_final (Size d n) = false
is_final (Pad n) = false
is_final (Extension n) = false
is_final (LineFeed n) = false
is_final (Data n) = false
is_final DataReturn = false
is_final DataFeed = false
is_final Done = true
is_final Over = true
is_final Bad = true

-- the next byte is one of the body
abbrev pub is_data : Place → Bool
is_data Line = false
is_data (Size d n) = false
is_data (Pad n) = false
is_data (Extension n) = false
is_data (LineFeed n) = false
is_data (Data n) = true
is_data DataReturn = false
is_data DataFeed = false
is_data Done = false
is_data Over = false
is_data Bad = false

-- a byte was met with which no continuation is of the form
abbrev pub is_bad : Place → Bool
is_bad Line = false
is_bad (Size d n) = false
is_bad (Pad n) = false
is_bad (Extension n) = false
is_bad (LineFeed n) = false
is_bad (Data n) = false
is_bad DataReturn = false
is_bad DataFeed = false
is_bad Done = false
is_bad Over = false
is_bad Bad = true

-- behind the digits: white space, an extension or the line's end
abbrev pub after_size : ℕ → ℕ → Place
after_size size b = if is_ows b then Pad size else (if b == 59 then Extension size else (if b == 13 then LineFeed size else Bad))

-- behind a chunk's line: the last one, one with which the body would be too long, or its data
abbrev pub chunk_place : ℕ → ℕ → Place
chunk_place have size = if size == 0 then Done else (if nat_lt (body_limit - have) size then Over else Data (size - 1))

-- the place behind so many bytes of a chunk, behind the first of which so many come
abbrev pub data_place : ℕ → ℕ → Place
data_place more n = if nat_lt more n then DataReturn else Data (more - n)

-- the place after a byte: a size of 1 to 16 hexadecimal digits, white space, an extension, the end of the line, so many bytes, the end of
-- their line. A size above the limit stays as it is
abbrev pub next : ℕ → Place → ℕ → Place
next have Line b = if nat_lt (digit_value b) 16 then Size 1 (digit_value b) else Bad
next have (Size digits size) b =
    if nat_lt (digit_value b) 16 then (if nat_le 16 digits then Bad else (if nat_lt body_limit size then Size (digits + 1) size else Size (digits + 1) (size * 16 + digit_value b)))
    else after_size size b
next have (Pad size) b = after_size size b
next have (Extension size) b = if b == 13 then LineFeed size else (if b == 10 then Bad else Extension size)
next have (LineFeed size) b = if b == 10 then chunk_place have size else Bad
next have (Data more) b = if more == 0 then DataReturn else Data (more - 1)
next have DataReturn b = if b == 13 then DataFeed else Bad
next have DataFeed b = if b == 10 then Line else Bad
next have Done b = Done
next have Over b = Over
next have Bad b = Bad

-- the limit of the form: a byte of its form for which there is no room is too much
abbrev pub counted : ℕ → Place → Place
counted room p = if is_bad p || nat_lt 0 room then p else Over

-- a reading: where it is, how many bytes may still come, and the body so far
pub record Chunking : Type 0 where
  pub place : Place
  pub room : ℕ
  pub body : List ℕ

abbrev pub start : Chunking
start = record { place = Line; room = form_limit; body = [] }

abbrev pub step : Chunking → ℕ → Chunking
step c b = record {
  place = counted c.room (next (length c.body) c.place b);
  room = c.room - 1;
  body = if is_data c.place then c.body ++ b ∷ [] else c.body;
}

-- the reading goes on until it ends
unfoldable pub run : Chunking → List ℕ → Chunking
run c [] = c
run c (b ∷ bs) = if is_final c.place then c else run (step c b) bs
