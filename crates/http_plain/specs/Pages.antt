-- The page that the bytes of an answer are (RFC 9112 sections 4, 6 and 7).
use Rattle.std.specs.Prelude.{◌≡◌, ◌≤◌, ◌<◌, ◌⊎◌, ℕ, ◌+◌, ◌==◌, ◌&&◌, Bool, true, false, not, List, [], ◌∷◌, length, map, take, codes, bytes_eq, cond, Option, Some, None, if◌then◌else◌}
use Rattle.std.specs.Char.{to_ascii_lowercase}
use Rattle.chunked_body.specs.declared.reader.Chunked.{Chunked}
use Rattle.chunked_body.specs.declared.reader.Chunked.TheVariants.{Whole, TooLong as TooManyBytes, Broken}
use Rattle.chunked_body.specs.Answers.{IsChunked}
use Rattle.chunked_body.specs.Grammar.{body_limit, form_limit}
use Rattle.fed_ports.specs.declared.page.Page.{Page}
use Rattle.fed_ports.specs.declared.page.Page.TheVariants.{Document, Refusal, Garbled, TooLong}
use Rattle.httparse.specs.Spans.{name_and_value}
use Rattle.httparse.specs.Grammar.{ResponseHead, ReadsResponse, status_code}
use Rattle.http_plain.specs.declared.form.Form.{Form}
use Rattle.http_plain.specs.declared.form.Form.TheVariants.{Bad, Refused, Sized, Chunked as InChunks, ToEnd}
use Rattle.http_messages.specs.Fields.{Line, values_named, stated}
use Rattle.http_messages.specs.Heads.{head_limit, line_limit, HasNoHead, BeginsWithHead}

-- how many bytes of an answer are asked for at once
abbrev pub piece_limit : ℕ
piece_limit = 4096

-- how many bytes of a body in chunks are read at most: with the piece with which it is over
abbrev pub chunks_limit : ℕ
chunks_limit = form_limit + piece_limit

-- how many bytes of an answer are read at most
abbrev pub answer_limit : ℕ
answer_limit = head_limit + chunks_limit

-- the value is that one, which is given in lower case; case doesn't count (RFC 9110 section 8.4.1, RFC 9112 section 7)
abbrev pub is_value : List ℕ → List ℕ → Bool
is_value value v = bytes_eq (map to_ascii_lowercase v) value

-- each of the values is that one
abbrev pub all_are : List ℕ → List (List ℕ) → Bool
all_are value [] = true
all_are value (v ∷ vs) = is_value value v && all_are value vs

-- whether the body is in chunks, by the values of `Transfer-Encoding`: no other coding is read, and no list of codings
abbrev pub chunked_by : List (List ℕ) → Option Bool
chunked_by [] = Some false
chunked_by (v ∷ []) = cond (is_value (codes "chunked") v) (Some true) None
chunked_by (v ∷ w ∷ vs) = None

-- how the body is read, by its coding and its length (RFC 9112 section 6.3)
abbrev pub framed : Option Bool → Option (Option ℕ) → Form
framed None size = Bad
framed (Some chunked) None = Bad
framed (Some true) (Some None) = InChunks
framed (Some false) (Some None) = ToEnd
framed (Some true) (Some (Some n)) = Bad
framed (Some false) (Some (Some n)) = Sized n

-- the same by the header lines
unfoldable pub framing : List Line → Form
framing lines =
    if not (all_are (codes "identity") (values_named (codes "content-encoding") lines)) then Bad
    else framed (chunked_by (values_named (codes "transfer-encoding") lines)) (stated 19 (values_named (codes "content-length") lines))

-- the text as a whole is that head (RFC 9112 section 4), with no more lines than may be
pub record IsAnswerHead (text : List ℕ) (h : ResponseHead) : Type 0 where
  pub reads : ReadsResponse text h []
  pub lines : length h.fields ≤ line_limit

-- what a head says of the body: another status than 200 is told alone
abbrev pub form_by : ResponseHead → Form
form_by h = cond (status_code h == 200) (framing (map name_and_value h.fields)) (Refused (status_code h))

-- the same of a text, which may be no head
abbrev pub IsForm : List ℕ → Form → Type 0
IsForm text f = ((h : ResponseHead) × IsAnswerHead text h × (f ≡ form_by h)) ⊎ (((h : ResponseHead) → IsAnswerHead text h → ⊥) × (f ≡ Bad))

-- the page of a body in chunks, by what the chunks are
abbrev pub chunked_page : Chunked → Page
chunked_page (Whole body) = Document body
chunked_page TooManyBytes = TooLong
chunked_page Broken = Garbled

-- the page, by what stands behind the head and whether that is all
abbrev pub IsBodyPage : Form → List ℕ → Bool → Page → Type 0
IsBodyPage Bad y ended p = p ≡ Garbled
IsBodyPage (Refused status) y ended p = p ≡ Refusal status
IsBodyPage (Sized n) y ended p =
    ((body_limit < n) × (p ≡ TooLong))
    ⊎ (((n ≤ body_limit) × (n ≤ length y) × (p ≡ Document (take n y)))
    ⊎ ((n ≤ body_limit) × (length y < n) × (ended ≡ true) × (p ≡ Garbled)))
IsBodyPage InChunks y ended p = (c : Chunked) × IsChunked y ended c × (p ≡ chunked_page c)
IsBodyPage ToEnd y ended p =
    ((body_limit < length y) × (p ≡ TooLong))
    ⊎ ((length y ≤ body_limit) × (ended ≡ true) × (p ≡ Document y))

-- the page of bytes that begin with a head
pub record HasBodyPage (x : List ℕ) (ended : Bool) (p : Page) : Type 0 where
  pub head : List ℕ
  pub begins : BeginsWithHead x head
  pub form : Form
  pub is_form : IsForm head form
  pub page : IsBodyPage form begins.rest ended p

-- the page that the bytes which came, and the end where it came, fix: Garbled where there is no head and none can come
abbrev pub IsPage : List ℕ → Bool → Page → Type 0
IsPage x ended p = (HasNoHead x × ((head_limit ≤ length x) ⊎ (ended ≡ true)) × (p ≡ Garbled)) ⊎ HasBodyPage x ended p
