-- From the grammar to the reading: what is of the form is read so.
use Rattle.std.proofs.Common.{◌≡◌, ◌≤◌, ◌<◌, ◌⊎◌, inl, inr, ℕ, zero, suc, ◌+◌, ◌-◌, ◌*◌, ◌==◌, ◌||◌, ◌&&◌, Bool, true, false, not, List, [], ◌∷◌, ◌++◌, length, cond, nat_lt, nat_le, refl, sym, ap, ap₂, ◌∙◌, subst, arith, append_assoc, append-nil}
use Rattle.std.proofs.lemmas.Bool.Decides.{nat_tests}
use Rattle.std.proofs.lemmas.List.{length-append}
use Rattle.std.specs.Char.{digit_value}
use Rattle.std.specs.List.{concat, list_all}
use Rattle.std.specs.Str.Parse.{digits_value, digits_value_after}
use Rattle.httparse.specs.Grammar.{is_ows}
use Rattle.chunked_body.specs.declared.place.Place.{Place}
use Rattle.chunked_body.specs.declared.place.Place.TheVariants.{Line, Size, Pad, Extension, LineFeed, Data, DataReturn, DataFeed, Done, Over, Bad}
use Rattle.chunked_body.specs.Grammar.{AreChunks, Begins, IsBody, IsChunk, IsLine, body_limit, crlf, form_limit, is_extension, is_hex, is_inner}
use Rattle.chunked_body.specs.Answers.{HasLargeChunk, HasLongForm, IsTooLong}
use Rattle.chunked_body.specs.Readings.{after_size, chunk_place, counted, is_final, is_bad, is_data, next, Chunking, start, step, run}
use Rattle.chunked_body.proofs.Running.{data_more, run_final, run_append, run_next, run_open, counted_in}

pub and_parts : (a b : Bool) → (a && b) ≡ true → (a ≡ true) × (b ≡ true)
and_parts true b e = (refl, e)
and_parts false b e = cc

abbrev pub at : Place → ℕ → List ℕ → Chunking
at place room body = record { place = place; room = room; body = body }

-- the bytes lead to that place and body, or there are too many
abbrev pub Goes : Chunking → List ℕ → Place → List ℕ → Type 0
Goes c xs p body = ((run c xs).place ≡ Over) ⊎ ((run c xs ≡ at p (c.room - length xs) body) × (length xs ≤ c.room))

over_stays : (c : Chunking) (ys : List ℕ) → c.place ≡ Over → (run c ys).place ≡ Over
over_stays c ys e = ap (λ d. d.place) (run_final c ys (ap is_final e)) ∙ e

on_case : (c : Chunking) (xs ys : List ℕ) (p q : Place) (body longer : List ℕ) → run c xs ≡ at p (c.room - length xs) body → length xs ≤ c.room
    → Goes (at p (c.room - length xs) body) ys q longer → Goes c (xs ++ ys) q longer
on_case c xs ys p q body longer e h (inl over) = inl (ap (λ d. d.place) (run_append c xs ys ∙ ap (λ d. run d ys) e) ∙ over)
on_case c xs ys p q body longer e h (inr r) = inr (
  run_append c xs ys ∙ ap (λ d. run d ys) e ∙ r.0 ∙ ap (λ n. at q n longer) (omega (arith, length-append xs ys)),
  omega (arith, length-append xs ys, r.1, h),
)

pub goes_on : (c : Chunking) (xs ys : List ℕ) (p q : Place) (body longer : List ℕ) → Goes c xs p body → ((room : ℕ) → Goes (at p room body) ys q longer) → Goes c (xs ++ ys) q longer
goes_on c xs ys p q body longer (inl over) f = inl (ap (λ d. d.place) (run_append c xs ys) ∙ over_stays (run c xs) ys over)
goes_on c xs ys p q body longer (inr r) f = on_case c xs ys p q body longer r.0 r.1 (f (c.room - length xs))

one : (c : Chunking) (b : ℕ) → is_final c.place ≡ false → run c (b ∷ []) ≡ step c b
unfolding run
one c b f = run_next c b [] f

-- a byte that isn't of the body
pub goes_one : (q : Place) (room : ℕ) (body : List ℕ) (b : ℕ) (p : Place) → is_final q ≡ false → is_data q ≡ false → next (length body) q b ≡ p → is_bad p ≡ false
    → Goes (at q room body) (b ∷ []) p body
goes_one q zero body b p f d n e = inl (ap (λ c. c.place) (one (at q zero body) b f) ∙ ap (counted zero) n ∙ ap (λ t. cond (t || false) p Over) e)
goes_one q (suc r) body b p f d n e = inr (
  one (at q (suc r) body) b f ∙ ap₂ (λ x y. at x (suc r - 1) y) (ap (counted (suc r)) n ∙ counted_in (suc r) p (omega arith)) (ap (λ t. cond t (body ++ b ∷ []) body) d),
  omega arith,
)

-- a byte of the body
goes_byte : (more room : ℕ) (body : List ℕ) (b : ℕ) (p : Place) → next (length body) (Data more) b ≡ p → is_bad p ≡ false → Goes (at (Data more) room body) (b ∷ []) p (body ++ b ∷ [])
goes_byte more zero body b p n e = inl (ap (λ c. c.place) (one (at (Data more) zero body) b refl) ∙ ap (counted zero) n ∙ ap (λ t. cond (t || false) p Over) e)
goes_byte more (suc r) body b p n e = inr (
  one (at (Data more) (suc r) body) b refl ∙ ap (λ x. at x (suc r - 1) (body ++ b ∷ [])) (ap (counted (suc r)) n ∙ counted_in (suc r) p (omega arith)),
  omega arith,
)

-- the bytes of a chunk
goes_data : (y : List ℕ) (more room : ℕ) (body : List ℕ) → length y ≡ more + 1 → Goes (at (Data more) room body) y DataReturn (body ++ y)
goes_data [] more room body h = absurd (omega (arith, h))
goes_data (b ∷ []) zero room body h = goes_byte zero room body b DataReturn refl refl
goes_data (b ∷ c ∷ ys) zero room body h = absurd (omega (arith, h))
goes_data (b ∷ []) (suc more) room body h = absurd (omega (arith, h))
goes_data (b ∷ c ∷ ys) (suc more) room body h =
    subst (Goes (at (Data (suc more)) room body) (b ∷ c ∷ ys) DataReturn) (append_assoc body (b ∷ []) (c ∷ ys))
    (goes_on (at (Data (suc more)) room body) (b ∷ []) (c ∷ ys) (Data more) DataReturn (body ++ b ∷ []) ((body ++ b ∷ []) ++ c ∷ ys)
    (goes_byte (suc more) room body b (Data more) (data_more (length body) more b) refl) (λ r. goes_data (c ∷ ys) more r (body ++ b ∷ []) (omega (arith, h))))

-- a size as it is kept: itself, or above the limit where it is
abbrev pub Kept : ℕ → ℕ → Type 0
Kept size kept = (kept ≡ size) ⊎ ((body_limit < kept) × (kept ≤ size))

digit_next : (have d kept b : ℕ) → is_hex b ≡ true → d < 16 → next have (Size d kept) b ≡ cond (nat_lt body_limit kept) (Size (d + 1) kept) (Size (d + 1) (kept * 16 + digit_value b))
digit_next have d kept b h l =
    let small : nat_le 16 d ≡ false = grind (arith, nat_tests, l) in
    ap (λ t. cond t (cond (nat_le 16 d) Bad (cond (nat_lt body_limit kept) (Size (d + 1) kept) (Size (d + 1) (kept * 16 + digit_value b)))) (after_size kept b)) h
    ∙ ap (λ t. cond t Bad (cond (nat_lt body_limit kept) (Size (d + 1) kept) (Size (d + 1) (kept * 16 + digit_value b)))) small

-- the size that is kept behind one more digit
abbrev pub keep_digit : ℕ → ℕ → ℕ
keep_digit kept v = cond (nat_lt body_limit kept) kept (kept * 16 + v)

kept_case : (n kept v : ℕ) (t : Bool) → nat_lt body_limit kept ≡ t → Kept n kept → Kept (n * 16 + v) (cond t kept (kept * 16 + v))
kept_case n kept v true e (inl h) = inr (grind (arith, nat_tests, e), omega (arith, h))
kept_case n kept v true e (inr h) = inr (h.0, omega (arith, h.1))
kept_case n kept v false e (inl h) = inl (ap (λ k. k * 16 + v) h)
kept_case n kept v false e (inr h) = let big = h.0 in absurd (grind (arith, nat_tests, e, big))

pub kept_digit : (n kept v : ℕ) → Kept n kept → Kept (n * 16 + v) (keep_digit kept v)
kept_digit n kept v h = kept_case n kept v (nat_lt body_limit kept) refl h

pub size_case : (d kept v : ℕ) (t : Bool) → cond t (Size (d + 1) kept) (Size (d + 1) (kept * 16 + v)) ≡ Size (d + 1) (cond t kept (kept * 16 + v))
size_case d kept v true = refl
size_case d kept v false = refl

pub digit_place : (have d kept b : ℕ) → is_hex b ≡ true → d < 16 → next have (Size d kept) b ≡ Size (d + 1) (keep_digit kept (digit_value b))
digit_place have d kept b h l = digit_next have d kept b h l ∙ size_case d kept (digit_value b) (nat_lt body_limit kept)

record DigitsRead (ds : List ℕ) (d kept n : ℕ) (body : List ℕ) : Type 0 where
  count : ℕ
  size : ℕ
  is_kept : Kept (digits_value_after 16 n ds) size
  goes : (room : ℕ) → Goes (at (Size d kept) room body) ds (Size count size) body

no_bytes : (p : Place) (room : ℕ) (body : List ℕ) → Goes (at p room body) [] p body
unfolding run
no_bytes p room body = inr (ap (λ r. at p r body) (omega arith), omega arith)

read_digits : (ds : List ℕ) (d kept n : ℕ) (body : List ℕ) → Kept n kept → list_all is_hex ds ≡ true → d + length ds ≤ 16 → DigitsRead ds d kept n body
read_digits [] d kept n body k h l = record { count = d; size = kept; is_kept = k; goes = λ room. no_bytes (Size d kept) room body }
read_digits (b ∷ ds) d kept n body k h l =
    let parts = and_parts (is_hex b) (list_all is_hex ds) h in
    let rest = read_digits ds (d + 1) (keep_digit kept (digit_value b)) (n * 16 + digit_value b) body (kept_digit n kept (digit_value b) k) parts.1 (omega (arith, l)) in
    record {
      count = rest.count;
      size = rest.size;
      is_kept = rest.is_kept;
      goes = λ room. goes_on (at (Size d kept) room body) (b ∷ []) ds (Size (d + 1) (keep_digit kept (digit_value b))) (Size rest.count rest.size) body body
          (goes_one (Size d kept) room body b (Size (d + 1) (keep_digit kept (digit_value b))) refl refl (digit_place (length body) d kept b parts.0 (omega (arith, l))) refl) rest.goes;
    }

-- behind a size, or in white space behind it
abbrev IsBehind : ℕ → Place → Type 0
IsBehind size p = ((d : ℕ) × (p ≡ Size d size)) ⊎ (p ≡ Pad size)

behind_next : (size have b : ℕ) (p : Place) → IsBehind size p → is_hex b ≡ false → next have p b ≡ after_size size b
behind_next size have b p (inl q) h =
    ap (λ x. next have x b) q.1
    ∙ ap (λ t. cond t (cond (nat_le 16 q.0) Bad (cond (nat_lt body_limit size) (Size (q.0 + 1) size) (Size (q.0 + 1) (size * 16 + digit_value b)))) (after_size size b)) h
behind_next size have b p (inr e) h = ap (λ x. next have x b) e

behind_open : (size : ℕ) (p : Place) → IsBehind size p → (is_final p ≡ false) × (is_data p ≡ false)
behind_open size p (inl q) = (ap is_final q.1, ap is_data q.1)
behind_open size p (inr e) = (ap is_final e, ap is_data e)

ows_case : (b : ℕ) (s t : Bool) → (b == 32) ≡ s → (b == 9) ≡ t → (s || t) ≡ true → is_hex b ≡ false
ows_case b true t e f h = let is : b ≡ 32 = grind (arith, nat_tests, e) in ap is_hex is
ows_case b false true e f h = let is : b ≡ 9 = grind (arith, nat_tests, f) in ap is_hex is
ows_case b false false e f h = cc

ows_not_hex : (b : ℕ) → is_ows b ≡ true → is_hex b ≡ false
ows_not_hex b h = ows_case b (b == 32) (b == 9) refl refl h

record BlanksRead (bs : List ℕ) (size : ℕ) (p : Place) (body : List ℕ) : Type 0 where
  place : Place
  is_behind : IsBehind size place
  goes : (room : ℕ) → Goes (at p room body) bs place body

read_blanks : (bs : List ℕ) (size : ℕ) (p : Place) (body : List ℕ) → IsBehind size p → list_all is_ows bs ≡ true → BlanksRead bs size p body
read_blanks [] size p body k h = record { place = p; is_behind = k; goes = λ room. no_bytes p room body }
read_blanks (b ∷ bs) size p body k h =
    let parts = and_parts (is_ows b) (list_all is_ows bs) h in
    let rest = read_blanks bs size (Pad size) body (inr refl) parts.1 in
    let still = behind_open size p k in
    let pad = behind_next size (length body) b p k (ows_not_hex b parts.0) ∙ ap (λ t. cond t (Pad size) (cond (b == 59) (Extension size) (cond (b == 13) (LineFeed size) Bad))) parts.0 in
    record {
      place = rest.place;
      is_behind = rest.is_behind;
      goes = λ room. goes_on (at p room body) (b ∷ []) bs (Pad size) rest.place body body (goes_one p room body b (Pad size) still.0 still.1 pad refl) rest.goes;
    }

place_case : (have size : ℕ) (t u : Bool) → is_bad (cond t Done (cond u Over (Data (size - 1)))) ≡ false
place_case have size true u = refl
place_case have size false true = refl
place_case have size false false = refl

read_feed : (size room : ℕ) (body : List ℕ) → Goes (at (LineFeed size) room body) (10 ∷ []) (chunk_place (length body) size) body
read_feed size room body = goes_one (LineFeed size) room body 10 (chunk_place (length body) size) refl refl refl (place_case (length body) size (size == 0) (nat_lt (body_limit - length body) size))

-- the end of the line, from the place before its CR
read_end : (p : Place) (size room : ℕ) (body : List ℕ) → is_final p ≡ false → is_data p ≡ false → next (length body) p 13 ≡ LineFeed size → Goes (at p room body) crlf (chunk_place (length body) size) body
read_end p size room body f d n = goes_on (at p room body) (13 ∷ []) (10 ∷ []) (LineFeed size) (chunk_place (length body) size) body body (goes_one p room body 13 (LineFeed size) f d n refl) (λ r. read_feed size r body)

inner_next : (have size b : ℕ) (s t : Bool) → (b == 13) ≡ s → (b == 10) ≡ t → (not s && not t) ≡ true → next have (Extension size) b ≡ Extension size
inner_next have size b true t e f h = cc
inner_next have size b false true e f h = cc
inner_next have size b false false e f h = ap (λ s. cond s (LineFeed size) (cond (b == 10) Bad (Extension size))) e ∙ ap (λ t. cond t Bad (Extension size)) f

read_inner : (es : List ℕ) (size room : ℕ) (body : List ℕ) → list_all is_inner es ≡ true → Goes (at (Extension size) room body) (es ++ crlf) (chunk_place (length body) size) body
read_inner [] size room body h = read_end (Extension size) size room body refl refl refl
read_inner (b ∷ es) size room body h =
    let parts = and_parts (is_inner b) (list_all is_inner es) h in
    goes_on (at (Extension size) room body) (b ∷ []) (es ++ crlf) (Extension size) (chunk_place (length body) size) body body
    (goes_one (Extension size) room body b (Extension size) refl refl (inner_next (length body) size b (b == 13) (b == 10) refl refl parts.0) refl) (λ r. read_inner es size r body parts.1)

read_tail : (es : List ℕ) (p : Place) (size room : ℕ) (body : List ℕ) → IsBehind size p → is_extension es ≡ true → Goes (at p room body) (es ++ crlf) (chunk_place (length body) size) body
read_tail [] p size room body k h = let still = behind_open size p k in read_end p size room body still.0 still.1 (behind_next size (length body) 13 p k refl)
read_tail (b ∷ es) p size room body k h =
    let parts = and_parts (b == 59) (list_all is_inner es) h in
    let is : b ≡ 59 = let e = parts.0 in grind (arith, nat_tests, e) in
    let still = behind_open size p k in
    let to : next (length body) p b ≡ Extension size = ap (next (length body) p) is ∙ behind_next size (length body) 59 p k refl in
    goes_on (at p room body) (b ∷ []) (es ++ crlf) (Extension size) (chunk_place (length body) size) body body (goes_one p room body b (Extension size) still.0 still.1 to refl) (λ r. read_inner es size r body parts.1)

-- the line of a chunk
pub record LineRead (line : List ℕ) (size : ℕ) (body : List ℕ) : Type 0 where
  pub kept : ℕ
  pub is_kept : Kept size kept
  pub goes : (room : ℕ) → Goes (at Line room body) line (chunk_place (length body) kept) body

behind_digits : (b : ℕ) (ds blanks extension : List ℕ) (body : List ℕ) → is_hex b ≡ true → list_all is_hex ds ≡ true → 1 + length ds ≤ 16 → list_all is_ows blanks ≡ true → is_extension extension ≡ true
    → LineRead ((b ∷ ds) ++ (blanks ++ (extension ++ crlf))) (digits_value 16 (b ∷ ds)) body
behind_digits b ds blanks extension body hb hds few white extends =
    let digits = read_digits ds 1 (digit_value b) (0 * 16 + digit_value b) body (inl (omega arith)) hds few in
    let spaces = read_blanks blanks digits.size (Size digits.count digits.size) body (inl (digits.count, refl)) white in
    let first : next (length body) Line b ≡ Size 1 (digit_value b) = ap (λ t. cond t (Size 1 (digit_value b)) Bad) hb in
    let end = chunk_place (length body) digits.size in
    record {
      kept = digits.size;
      is_kept = digits.is_kept;
      goes = λ room. goes_on (at Line room body) (b ∷ []) (ds ++ (blanks ++ (extension ++ crlf))) (Size 1 (digit_value b)) end body body (goes_one Line room body b (Size 1 (digit_value b)) refl refl first refl)
          (λ r. goes_on (at (Size 1 (digit_value b)) r body) ds (blanks ++ (extension ++ crlf)) (Size digits.count digits.size) end body body (digits.goes r)
          (λ s. goes_on (at (Size digits.count digits.size) s body) blanks (extension ++ crlf) spaces.place end body body (spaces.goes s)
          (λ t. read_tail extension spaces.place digits.size t body spaces.is_behind extends)));
    }

line_case : (digits blanks extension : List ℕ) (body : List ℕ) → 1 ≤ length digits → list_all is_hex digits ≡ true → length digits ≤ 16 → list_all is_ows blanks ≡ true → is_extension extension ≡ true
    → LineRead (digits ++ (blanks ++ (extension ++ crlf))) (digits_value 16 digits) body
line_case [] blanks extension body some hex few white extends = absurd (omega (arith, some))
line_case (b ∷ ds) blanks extension body some hex few white extends =
    let parts = and_parts (is_hex b) (list_all is_hex ds) hex in
    behind_digits b ds blanks extension body parts.0 parts.1 (omega (arith, few)) white extends

pub read_line : (line : List ℕ) (size : ℕ) (body : List ℕ) → IsLine line size → LineRead line size body
read_line line size body l =
    subst (λ n. LineRead line n body) (sym l.size_is) (subst (λ x. LineRead x (digits_value 16 l.digits) body) (sym l.spelled) (line_case l.digits l.blanks l.extension body l.some l.hexadecimal l.few l.white l.extends))

over_stops : (room : ℕ) (body xs : List ℕ) (q : Place) (longer : List ℕ) → Goes (at Over room body) xs q longer
over_stops room body xs q longer = inl (ap (λ d. d.place) (run_final (at Over room body) xs refl))

chunk_case : (have size kept : ℕ) (t : Bool) → nat_lt (body_limit - have) kept ≡ t → 0 < size → Kept size kept
    → (chunk_place have kept ≡ Over) ⊎ ((chunk_place have kept ≡ Data (size - 1)))
chunk_case have size kept true e some k =
    let not_zero : (kept == 0) ≡ false = elim k [ inl is ↦ grind (arith, nat_tests, is, some) | inr h ↦ let l = h.0 in grind (arith, nat_tests, l) ] in
    inl (ap (λ t. cond t Done (cond (nat_lt (body_limit - have) kept) Over (Data (kept - 1)))) not_zero ∙ ap (λ t. cond t Over (Data (kept - 1))) e)
chunk_case have size kept false e some k =
    let not_zero : (kept == 0) ≡ false = elim k [ inl is ↦ grind (arith, nat_tests, is, some) | inr h ↦ let l = h.0 in grind (arith, nat_tests, l) ] in
    let same : kept ≡ size = elim k [ inl is ↦ is | inr h ↦ let l = h.0 in absurd (grind (arith, nat_tests, e, l)) ] in
    inr (ap (λ t. cond t Done (cond (nat_lt (body_limit - have) kept) Over (Data (kept - 1)))) not_zero ∙ ap (λ t. cond t Over (Data (kept - 1))) e ∙ ap (λ n. Data (n - 1)) same)

-- the data of a chunk and its line end, from the place behind its line
read_data : (p : Place) (contents body : List ℕ) (room : ℕ) → 0 < length contents → (p ≡ Over) ⊎ (p ≡ Data (length contents - 1)) → Goes (at p room body) (contents ++ crlf) Line (body ++ contents)
read_data p contents body room some (inl e) = subst (λ q. Goes (at q room body) (contents ++ crlf) Line (body ++ contents)) (sym e) (over_stops room body (contents ++ crlf) Line (body ++ contents))
read_data p contents body room some (inr e) =
    subst (λ q. Goes (at q room body) (contents ++ crlf) Line (body ++ contents)) (sym e)
    (goes_on (at (Data (length contents - 1)) room body) contents crlf DataReturn Line (body ++ contents) (body ++ contents) (goes_data contents (length contents - 1) room body (omega (arith, some)))
    (λ r. goes_on (at DataReturn r (body ++ contents)) (13 ∷ []) (10 ∷ []) DataFeed Line (body ++ contents) (body ++ contents) (goes_one DataReturn r (body ++ contents) 13 DataFeed refl refl refl refl)
    (λ s. goes_one DataFeed s (body ++ contents) 10 Line refl refl refl refl)))

read_chunk : (text contents body : List ℕ) (room : ℕ) → IsChunk text contents → Goes (at Line room body) text Line (body ++ contents)
read_chunk text contents body room c =
    let line = read_line c.line (length contents) body c.is_line in
    let behind = chunk_case (length body) (length contents) line.kept (nat_lt (body_limit - length body) line.kept) refl c.some line.is_kept in
    subst (λ x. Goes (at Line room body) x Line (body ++ contents)) (sym c.spelled)
    (goes_on (at Line room body) c.line (contents ++ crlf) (chunk_place (length body) line.kept) Line body (body ++ contents) (line.goes room) (λ r. read_data (chunk_place (length body) line.kept) contents body r c.some behind))

-- whole chunks
pub read_chunks : (ds : List (List ℕ)) (text body : List ℕ) (room : ℕ) → AreChunks ds text → Goes (at Line room body) text Line (body ++ concat ds)
read_chunks [] text body room c =
    subst (λ x. Goes (at Line room body) x Line (body ++ [])) (sym c) (subst (λ b. Goes (at Line room body) [] Line b) (sym (append-nil body)) (no_bytes Line room body))
read_chunks (d ∷ ds) text body room c =
    subst (λ x. Goes (at Line room body) x Line (body ++ (d ++ concat ds))) (sym c.2)
    (goes_on (at Line room body) c.0 c.1 Line Line (body ++ d) (body ++ (d ++ concat ds)) (read_chunk c.0 d body room c.3)
    (λ r. subst (λ b. Goes (at Line r (body ++ d)) c.1 Line b) (append_assoc body d (concat ds)) (read_chunks ds c.1 (body ++ d) r c.4)))

-- a body
pub read_body : (text body : List ℕ) → IsBody text body → Goes start text Done body
read_body text body b =
    let line = read_line b.last 0 (concat b.contents) b.is_last in
    let none : line.kept ≡ 0 = elim line.is_kept [ inl e ↦ e | inr h ↦ let l = h.0 in let m = h.1 in absurd (omega (arith, l, m)) ] in
    let done : chunk_place (length (concat b.contents)) line.kept ≡ Done = ap (chunk_place (length (concat b.contents))) none in
    subst (λ x. Goes start x Done body) (sym b.spelled) (subst (Goes start (b.chunks ++ b.last) Done) (sym b.body_is)
    (goes_on start b.chunks b.last Line Done (concat b.contents) (concat b.contents) (read_chunks b.contents b.chunks [] form_limit b.are_chunks)
    (λ r. subst (λ p. Goes (at Line r (concat b.contents)) b.last p (concat b.contents)) done (line.goes r))))

over_here : (c : Chunking) (xs ys : List ℕ) (body : List ℕ) → Goes c xs Over body → (run c (xs ++ ys)).place ≡ Over
over_here c xs ys body (inl e) = ap (λ d. d.place) (run_append c xs ys) ∙ over_stays (run c xs) ys e
over_here c xs ys body (inr r) = ap (λ d. d.place) (run_append c xs ys) ∙ over_stays (run c xs) ys (ap (λ d. d.place) r.0)

large_case : (have size kept : ℕ) → 0 < size → body_limit < have + size → Kept size kept → chunk_place have kept ≡ Over
large_case have size kept some large k =
    let not_zero : (kept == 0) ≡ false = elim k [ inl is ↦ grind (arith, nat_tests, is, some) | inr h ↦ let l = h.0 in grind (arith, nat_tests, l) ] in
    let over : nat_lt (body_limit - have) kept ≡ true = elim k [ inl is ↦ grind (arith, nat_tests, is, some, large) | inr h ↦ let l = h.0 in grind (arith, nat_tests, l) ] in
    ap (λ t. cond t Done (cond (nat_lt (body_limit - have) kept) Over (Data (kept - 1)))) not_zero ∙ ap (λ t. cond t Over (Data (kept - 1))) over

large_over : (x : List ℕ) → HasLargeChunk x → (run start x).place ≡ Over
large_over x h =
    let line = read_line h.line h.size (concat h.contents) h.is_line in
    let over = large_case (length (concat h.contents)) h.size line.kept h.some h.large line.is_kept in
    ap (λ y. (run start y).place) h.bytes
    ∙ over_here start (h.chunks ++ h.line) h.rest (concat h.contents) (goes_on start h.chunks h.line Line Over (concat h.contents) (concat h.contents) (read_chunks h.contents h.chunks [] form_limit h.are_chunks)
    (λ r. subst (λ p. Goes (at Line r (concat h.contents)) h.line p (concat h.contents)) over (line.goes r)))

-- a reading that ended before the bytes did reads no more
end_case : (z more body : List ℕ) (t : Bool) → is_final (run start z).place ≡ t → form_limit < length z → Goes start (z ++ more) Done body → (run start z).place ≡ Over
end_case z more body false e long g = let w = run_open start z e in absurd (omega (arith, w, long))
end_case z more body true e long (inl over) = sym (ap (λ d. d.place) (run_append start z more ∙ run_final (run start z) more e)) ∙ over
end_case z more body true e long (inr r) = let few = r.1 in absurd (omega (arith, few, long, length-append z more))

long_over : (x : List ℕ) → HasLongForm x → (run start x).place ≡ Over
long_over x h =
    let here = end_case h.form h.begins.0 h.begins.1 (is_final (run start h.form).place) refl h.long (read_body (h.form ++ h.begins.0) h.begins.1 h.begins.2) in
    ap (λ y. (run start y).place) h.bytes ∙ ap (λ d. d.place) (run_append start h.form h.rest) ∙ over_stays (run start h.form) h.rest here

-- what is too long is read so
pub too_long_over : (x : List ℕ) → IsTooLong x → (run start x).place ≡ Over
too_long_over x (inl h) = large_over x h
too_long_over x (inr h) = long_over x h

bad_case : (z more body : List ℕ) → (run start z).place ≡ Bad → Goes start (z ++ more) Done body → ⊥
bad_case z more body e (inl over) = let no : Bad ≡ Over = sym (ap (λ d. d.place) (run_append start z more ∙ run_final (run start z) more (ap is_final e)) ∙ e) ∙ over in cc
bad_case z more body e (inr r) = let no : Bad ≡ Done = sym (ap (λ d. d.place) (run_append start z more ∙ run_final (run start z) more (ap is_final e)) ∙ e) ∙ ap (λ d. d.place) r.0 in cc

-- what can go on to a body isn't read as bad
pub begins_not_bad : (z : List ℕ) → Begins z → (run start z).place ≡ Bad → ⊥
begins_not_bad z b e = bad_case z b.0 b.1 e (read_body (z ++ b.0) b.1 b.2)
