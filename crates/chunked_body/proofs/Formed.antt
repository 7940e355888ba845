-- From the reading to the grammar: what is read is of the form.
use Rattle.std.proofs.Common.{◌≡◌, ◌≤◌, ◌<◌, inl, inr, ℕ, zero, suc, ◌+◌, ◌-◌, ◌*◌, ◌==◌, ◌&&◌, Bool, true, false, not, List, [], ◌∷◌, ◌++◌, length, cond, nat_lt, nat_le, replicate, refl, sym, ap, ◌∙◌, subst, arith, append_assoc, append-nil}
use Rattle.std.proofs.lemmas.Bool.Decides.{nat_tests}
use Rattle.std.proofs.lemmas.List.{length-append, length-replicate}
use Rattle.std.specs.Char.{digit_value}
use Rattle.std.specs.List.{concat, list_all}
use Rattle.std.specs.Str.Parse.{digits_value, digits_value_after}
use Rattle.httparse.specs.Grammar.{is_ows}
use Rattle.chunked_body.specs.declared.place.Place.{Place}
use Rattle.chunked_body.specs.declared.place.Place.TheVariants.{Line, Size, Pad, Extension, LineFeed, Data, DataReturn, DataFeed, Done, Over, Bad}
use Rattle.chunked_body.specs.Grammar.{AreChunks, Begins, IsBody, IsChunk, IsLine, body_limit, crlf, is_extension, is_hex, is_inner}
use Rattle.chunked_body.specs.Answers.{HasLargeChunk}
use Rattle.chunked_body.specs.Readings.{after_size, chunk_place, is_final, is_bad, is_data, next}
use Rattle.chunked_body.proofs.Running.{data_more}
use Rattle.chunked_body.proofs.Reached.{Kept, keep_digit, kept_digit, size_case}

-- a line without its end
pub record IsOpen (text : List ℕ) (extension : List ℕ) (kept : ℕ) : Type 0 where
  pub digits : List ℕ
  pub blanks : List ℕ
  pub some : 1 ≤ length digits
  pub few : length digits ≤ 16
  pub hexadecimal : list_all is_hex digits ≡ true
  pub white : list_all is_ows blanks ≡ true
  pub extends : is_extension extension ≡ true
  pub is_kept : Kept (digits_value 16 digits) kept
  pub spelled : text ≡ digits ++ (blanks ++ extension)

abbrev size_of : {text extension : List ℕ} {kept : ℕ} → IsOpen text extension kept → ℕ
size_of o = digits_value 16 o.digits

closes : (text extension : List ℕ) (kept : ℕ) (o : IsOpen text extension kept) → IsLine (text ++ crlf) (size_of o)
closes text extension kept o = record {
  digits = o.digits;
  blanks = o.blanks;
  extension = extension;
  some = o.some;
  few = o.few;
  hexadecimal = o.hexadecimal;
  white = o.white;
  extends = o.extends;
  size_is = refl;
  spelled = ap (λ t. t ++ crlf) o.spelled ∙ append_assoc o.digits (o.blanks ++ extension) crlf ∙ ap (λ t. o.digits ++ t) (append_assoc o.blanks extension crlf);
}

-- the bytes of a size
pub record IsSize (text : List ℕ) (count kept : ℕ) : Type 0 where
  pub some : 1 ≤ length text
  pub count_is : count ≡ length text
  pub few : length text ≤ 16
  pub hexadecimal : list_all is_hex text ≡ true
  pub is_kept : Kept (digits_value 16 text) kept

-- the line of a chunk and so many bytes of its data, where more are left
pub record IsPart (text contents : List ℕ) (left : ℕ) : Type 0 where
  pub line : List ℕ
  pub is_line : IsLine line (length contents + left)
  pub spelled : text ≡ line ++ contents

-- a line whose CR came
pub record HasReturn (text : List ℕ) (kept : ℕ) : Type 0 where
  pub before : List ℕ
  pub extension : List ℕ
  pub is_open : IsOpen before extension kept
  pub spelled : text ≡ before ++ 13 ∷ []

-- a chunk whose CR came
pub record HasData (text contents : List ℕ) : Type 0 where
  pub before : List ℕ
  pub part : IsPart before contents 0
  pub spelled : text ≡ before ++ 13 ∷ []

-- the line of a chunk with which the body is too long
pub record IsLarge (text body : List ℕ) : Type 0 where
  pub size : ℕ
  pub is_line : IsLine text size
  pub some : 0 < size
  pub large : body_limit < length body + size

-- what stands behind whole chunks, by the place; the bodies are that of those chunks and that so far
abbrev pub Stands : List ℕ → List ℕ → Place → List ℕ → Type 0
Stands have text Line body = (text ≡ []) × (body ≡ have)
Stands have text (Size d kept) body = IsSize text d kept × (body ≡ have)
Stands have text (Pad kept) body = IsOpen text [] kept × (body ≡ have)
Stands have text (Extension kept) body = ((inner : List ℕ) × IsOpen text (59 ∷ inner) kept) × (body ≡ have)
Stands have text (LineFeed kept) body = HasReturn text kept × (body ≡ have)
Stands have text (Data more) body = (contents : List ℕ) × IsPart text contents (more + 1) × (body ≡ have ++ contents)
Stands have text DataReturn body = (contents : List ℕ) × IsPart text contents 0 × (0 < length contents) × (body ≡ have ++ contents)
Stands have text DataFeed body = (contents : List ℕ) × HasData text contents × (0 < length contents) × (body ≡ have ++ contents)
Stands have text Done body = IsLine text 0 × (body ≡ have)
Stands have text Over body = IsLarge text have
Stands have text Bad body = Unit {0}

-- whole chunks, and what stands behind them
pub record IsAt (z : List ℕ) (p : Place) (body : List ℕ) : Type 0 where
  pub contents : List (List ℕ)
  pub chunks : List ℕ
  pub text : List ℕ
  pub are_chunks : AreChunks contents chunks
  pub stands : Stands (concat contents) text p body
  pub bytes : z ≡ chunks ++ text

chunks_snoc : (ds : List (List ℕ)) (text chunk d : List ℕ) → AreChunks ds text → IsChunk chunk d → AreChunks (ds ++ d ∷ []) (text ++ chunk)
chunks_snoc [] text chunk d c k = (chunk, [], ap (λ t. t ++ chunk) c ∙ sym (append-nil chunk), k, refl)
chunks_snoc (e ∷ ds) text chunk d c k = (c.0, c.1 ++ chunk, ap (λ t. t ++ chunk) c.2 ∙ append_assoc c.0 c.1 chunk, c.3, chunks_snoc ds c.1 chunk d c.4 k)

concat_snoc : (ds : List (List ℕ)) (d : List ℕ) → concat (ds ++ d ∷ []) ≡ concat ds ++ d
concat_snoc [] d = append-nil d
concat_snoc (e ∷ ds) d = ap (λ t. e ++ t) (concat_snoc ds d) ∙ sym (append_assoc e (concat ds) d)

-- the last chunk
abbrev zero_line : List ℕ
zero_line = 48 ∷ crlf

is_zero : IsLine zero_line 0
is_zero = record { digits = 48 ∷ []; blanks = []; extension = []; some = omega arith; few = omega arith; hexadecimal = refl; white = refl; extends = refl; size_is = refl; spelled = refl }

-- chunks and a part of one that may go on to be whole
begins_chunk : (ds : List (List ℕ)) (chunks text more d : List ℕ) → AreChunks ds chunks → IsChunk (text ++ more) d → Begins (chunks ++ text)
begins_chunk ds chunks text more d c k = (
  more ++ zero_line,
  concat (ds ++ d ∷ []),
  record {
    contents = ds ++ d ∷ [];
    chunks = chunks ++ (text ++ more);
    last = zero_line;
    are_chunks = chunks_snoc ds chunks (text ++ more) d c k;
    is_last = is_zero;
    spelled = append_assoc chunks text (more ++ zero_line) ∙ ap (λ t. chunks ++ t) (sym (append_assoc text more zero_line)) ∙ sym (append_assoc chunks (text ++ more) zero_line);
    body_is = refl;
  },
)

begins_last : (ds : List (List ℕ)) (chunks text more : List ℕ) → AreChunks ds chunks → IsLine (text ++ more) 0 → Begins (chunks ++ text)
begins_last ds chunks text more c l = (more, concat ds, record { contents = ds; chunks = chunks; last = text ++ more; are_chunks = c; is_last = l; spelled = append_assoc chunks text more; body_is = refl })

begins_line : (ds : List (List ℕ)) (chunks text more : List ℕ) (size : ℕ) → AreChunks ds chunks → IsLine (text ++ more) size → Begins (chunks ++ text)
begins_line ds chunks text more zero c l = begins_last ds chunks text more c l
begins_line ds chunks text more (suc n) c l =
    let contents = replicate (suc n) 0 in
    begins_chunk ds chunks text (more ++ (contents ++ crlf)) contents c (record {
      line = text ++ more;
      is_line = subst (IsLine (text ++ more)) (sym (length-replicate {A = ℕ} (suc n) 0)) l;
      some = omega (arith, length-replicate {A = ℕ} (suc n) 0);
      spelled = sym (append_assoc text more (contents ++ crlf));
    })

begins_open : (ds : List (List ℕ)) (chunks text extension : List ℕ) (kept : ℕ) → AreChunks ds chunks → IsOpen text extension kept → Begins (chunks ++ text)
begins_open ds chunks text extension kept c o = begins_line ds chunks text crlf (size_of o) c (closes text extension kept o)

opened : (text : List ℕ) (d kept : ℕ) → IsSize text d kept → IsOpen text [] kept
opened text d kept s = record { digits = text; blanks = []; some = s.some; few = s.few; hexadecimal = s.hexadecimal; white = refl; extends = refl; is_kept = s.is_kept; spelled = sym (append-nil text) }

begins_part : (ds : List (List ℕ)) (chunks text contents : List ℕ) (left : ℕ) → AreChunks ds chunks → 0 < length contents + left → IsPart text contents left → Begins (chunks ++ text)
begins_part ds chunks text contents left c some p =
    let rest = replicate left 0 in
    let size : length (contents ++ rest) ≡ length contents + left = length-append contents rest ∙ ap (λ n. length contents + n) (length-replicate {A = ℕ} left 0) in
    begins_chunk ds chunks text (rest ++ crlf) (contents ++ rest) c (record {
      line = p.line;
      is_line = subst (IsLine p.line) (sym size) p.is_line;
      some = omega (arith, size, some);
      spelled = ap (λ t. t ++ (rest ++ crlf)) p.spelled ∙ append_assoc p.line contents (rest ++ crlf) ∙ ap (λ t. p.line ++ t) (sym (append_assoc contents rest crlf));
    })

begins_at : (ds : List (List ℕ)) (chunks text : List ℕ) (p : Place) (body : List ℕ) → AreChunks ds chunks → Stands (concat ds) text p body → is_bad p ≡ false → (p ≡ Over → ⊥) → Begins (chunks ++ text)
begins_at ds chunks text Line body c s b o = begins_last ds chunks text zero_line c (subst (λ t. IsLine (t ++ zero_line) 0) (sym s.0) is_zero)
begins_at ds chunks text (Size d kept) body c s b o = begins_open ds chunks text [] kept c (opened text d kept s.0)
begins_at ds chunks text (Pad kept) body c s b o = begins_open ds chunks text [] kept c s.0
begins_at ds chunks text (Extension kept) body c s b o = begins_open ds chunks text (59 ∷ s.0.0) kept c s.0.1
begins_at ds chunks text (LineFeed kept) body c s b o =
    let r = s.0 in
    begins_line ds chunks text (10 ∷ []) (size_of r.is_open) c
    (subst (λ t. IsLine t (size_of r.is_open)) (sym (ap (λ t. t ++ 10 ∷ []) r.spelled ∙ append_assoc r.before (13 ∷ []) (10 ∷ []))) (closes r.before r.extension kept r.is_open))
begins_at ds chunks text (Data more) body c s b o = begins_part ds chunks text s.0 (more + 1) c (omega arith) s.1
begins_at ds chunks text DataReturn body c s b o = let some = s.2 in begins_part ds chunks text s.0 0 c (omega (arith, some)) s.1
begins_at ds chunks text DataFeed body c s b o =
    let h = s.1 in
    let p = h.part in
    let size : length s.0 + 0 ≡ length s.0 = omega arith in
    begins_chunk ds chunks text (10 ∷ []) s.0 c (record {
      line = p.line;
      is_line = subst (IsLine p.line) size p.is_line;
      some = s.2;
      spelled = ap (λ t. t ++ 10 ∷ []) h.spelled ∙ append_assoc h.before (13 ∷ []) (10 ∷ []) ∙ ap (λ t. t ++ crlf) p.spelled ∙ append_assoc p.line s.0 crlf;
    })
begins_at ds chunks text Done body c s b o = begins_last ds chunks text [] c (subst (λ t. IsLine t 0) (sym (append-nil text)) s.0)
begins_at ds chunks text Over body c s b o = absurd (o refl)
begins_at ds chunks text Bad body c s b o = cc

-- what stands at a place may go on to a body
pub begins : (z : List ℕ) (p : Place) (body : List ℕ) → IsAt z p body → is_bad p ≡ false → (p ≡ Over → ⊥) → Begins z
begins z p body a b o = subst Begins (sym a.bytes) (begins_at a.contents a.chunks a.text p body a.are_chunks a.stands b o)

-- the place behind one more byte of the body of that chunk line
abbrev Next : List ℕ → List ℕ → Place → List ℕ → ℕ → Type 0
Next have text p body b = Stands have (text ++ b ∷ []) (next (length body) p b) (cond (is_data p) (body ++ b ∷ []) body)

and_both : (a b : Bool) → a ≡ true → b ≡ true → (a && b) ≡ true
and_both a b e f = ap (λ t. t && b) e ∙ f

snoc_case : (test : ℕ → Bool) (t : Bool) (xs : List ℕ) (b : ℕ) → (t && list_all test xs) ≡ true → (list_all test xs ≡ true → list_all test (xs ++ b ∷ []) ≡ true) → (t && list_all test (xs ++ b ∷ [])) ≡ true
snoc_case test true xs b h f = f h
snoc_case test false xs b h f = cc

snoc_all : (test : ℕ → Bool) (xs : List ℕ) (b : ℕ) → list_all test xs ≡ true → test b ≡ true → list_all test (xs ++ b ∷ []) ≡ true
snoc_all test [] b h e = and_both (test b) true e refl
snoc_all test (x ∷ xs) b h e = snoc_case test (test x) xs b h (λ g. snoc_all test xs b g e)

value_snoc : (ds : List ℕ) (n b : ℕ) → digits_value_after 16 n (ds ++ b ∷ []) ≡ digits_value_after 16 n ds * 16 + digit_value b
value_snoc [] n b = refl
value_snoc (d ∷ ds) n b = value_snoc ds (n * 16 + digit_value d) b

size_on : (text : List ℕ) (d kept b : ℕ) → IsSize text d kept → is_hex b ≡ true → d < 16 → IsSize (text ++ b ∷ []) (d + 1) (keep_digit kept (digit_value b))
size_on text d kept b s h l = record {
  some = omega (arith, length-append text (b ∷ []));
  count_is = omega (arith, length-append text (b ∷ []), s.count_is);
  few = omega (arith, length-append text (b ∷ []), s.count_is, l);
  hexadecimal = snoc_all is_hex text b s.hexadecimal h;
  is_kept = subst (λ n. Kept n (keep_digit kept (digit_value b))) (sym (value_snoc text 0 b)) (kept_digit (digits_value 16 text) kept (digit_value b) s.is_kept);
}

-- a byte behind a size or white space
after_open : (text : List ℕ) (kept b : ℕ) (o : IsOpen text [] kept) (have : List ℕ) (s t u : Bool) → is_ows b ≡ s → (b == 59) ≡ t → (b == 13) ≡ u
    → Stands have (text ++ b ∷ []) (cond s (Pad kept) (cond t (Extension kept) (cond u (LineFeed kept) Bad))) have
after_open text kept b o have true t u e f g = (
  record {
    digits = o.digits;
    blanks = o.blanks ++ b ∷ [];
    some = o.some;
    few = o.few;
    hexadecimal = o.hexadecimal;
    white = snoc_all is_ows o.blanks b o.white e;
    extends = refl;
    is_kept = o.is_kept;
    spelled = ap (λ x. x ++ b ∷ []) (o.spelled ∙ ap (λ x. o.digits ++ x) (append-nil o.blanks)) ∙ append_assoc o.digits o.blanks (b ∷ []) ∙ ap (λ x. o.digits ++ x) (sym (append-nil (o.blanks ++ b ∷ [])));
  },
  refl,
)
after_open text kept b o have false true u e f g =
    let is : b ≡ 59 = grind (arith, nat_tests, f) in (
      (
        [],
        record {
          digits = o.digits;
          blanks = o.blanks;
          some = o.some;
          few = o.few;
          hexadecimal = o.hexadecimal;
          white = o.white;
          extends = refl;
          is_kept = o.is_kept;
          spelled = ap (λ x. text ++ x ∷ []) is ∙ ap (λ x. x ++ 59 ∷ []) (o.spelled ∙ ap (λ x. o.digits ++ x) (append-nil o.blanks)) ∙ append_assoc o.digits o.blanks (59 ∷ []);
        },
      ),
      refl,
    )
after_open text kept b o have false false true e f g =
    let is : b ≡ 13 = grind (arith, nat_tests, g) in
    (record { before = text; extension = []; is_open = o; spelled = ap (λ x. text ++ x ∷ []) is }, refl)
after_open text kept b o have false false false e f g = tt

size_next : (have text body : List ℕ) (d kept b : ℕ) (s : IsSize text d kept) (h m : Bool) → is_hex b ≡ h → nat_le 16 d ≡ m
    → Stands have (text ++ b ∷ []) (cond h (cond m Bad (cond (nat_lt body_limit kept) (Size (d + 1) kept) (Size (d + 1) (kept * 16 + digit_value b)))) (after_size kept b)) have
size_next have text body d kept b s true true e f = tt
size_next have text body d kept b s true false e f =
    let few : d < 16 = grind (arith, nat_tests, f) in
    let to : cond (nat_lt body_limit kept) (Size (d + 1) kept) (Size (d + 1) (kept * 16 + digit_value b)) ≡ Size (d + 1) (keep_digit kept (digit_value b)) = size_case d kept (digit_value b) (nat_lt body_limit kept) in
    subst (λ p. Stands have (text ++ b ∷ []) p have) (sym to) (size_on text d kept b s e few, refl)
size_next have text body d kept b s false m e f = after_open text kept b (opened text d kept s) have (is_ows b) (b == 59) (b == 13) refl refl refl

inner_on : (text inner : List ℕ) (kept b : ℕ) → IsOpen text (59 ∷ inner) kept → is_inner b ≡ true → IsOpen (text ++ b ∷ []) (59 ∷ (inner ++ b ∷ [])) kept
inner_on text inner kept b o h = record {
  digits = o.digits;
  blanks = o.blanks;
  some = o.some;
  few = o.few;
  hexadecimal = o.hexadecimal;
  white = o.white;
  extends = snoc_all is_inner inner b o.extends h;
  is_kept = o.is_kept;
  spelled = ap (λ x. x ++ b ∷ []) o.spelled ∙ append_assoc o.digits (o.blanks ++ 59 ∷ inner) (b ∷ []) ∙ ap (λ x. o.digits ++ x) (append_assoc o.blanks (59 ∷ inner) (b ∷ []));
}

extension_next : (have text inner : List ℕ) (kept b : ℕ) (o : IsOpen text (59 ∷ inner) kept) (s t : Bool) → (b == 13) ≡ s → (b == 10) ≡ t
    → Stands have (text ++ b ∷ []) (cond s (LineFeed kept) (cond t Bad (Extension kept))) have
extension_next have text inner kept b o true t e f =
    let is : b ≡ 13 = grind (arith, nat_tests, e) in
    (record { before = text; extension = 59 ∷ inner; is_open = o; spelled = ap (λ x. text ++ x ∷ []) is }, refl)
extension_next have text inner kept b o false true e f = tt
extension_next have text inner kept b o false false e f = ((inner ++ b ∷ [], inner_on text inner kept b o (ap (λ t. not t && not (b == 10)) e ∙ ap not f)), refl)

-- behind the line: its size as it is kept, and its place
feed_place : (have text : List ℕ) (size kept : ℕ) (s t : Bool) → (kept == 0) ≡ s → nat_lt (body_limit - length have) kept ≡ t → IsLine text size → Kept size kept
    → Stands have text (cond s Done (cond t Over (Data (kept - 1)))) have
feed_place have text size kept true t e f l k =
    let none : kept ≡ 0 = grind (arith, nat_tests, e) in
    let zero_size : size ≡ 0 = elim k [ inl is ↦ sym is ∙ none | inr h ↦ let g = h.0 in absurd (omega (arith, g, none)) ] in
    (subst (IsLine text) zero_size l, refl)
feed_place have text size kept false true e f l k =
    let large : body_limit - length have < kept = grind (arith, nat_tests, f) in
    let some : 0 < kept = grind (arith, nat_tests, e) in
    let fits : kept ≤ size = elim k [ inl is ↦ omega (arith, is) | inr h ↦ h.1 ] in
    record { size = size; is_line = l; some = omega (arith, some, fits); large = omega (arith, large, fits) }
feed_place have text size kept false false e f l k =
    let few : kept ≤ body_limit - length have = grind (arith, nat_tests, f) in
    let some : 0 < kept = grind (arith, nat_tests, e) in
    let same : kept ≡ size = elim k [ inl is ↦ is | inr h ↦ let g = h.0 in absurd (omega (arith, g, few)) ] in
    let whole : size ≡ 0 + (kept - 1 + 1) = omega (arith, same, some) in
    ([], record { line = text; is_line = subst (IsLine text) whole l; spelled = sym (append-nil text) }, sym (append-nil have))

feed_next : (have text : List ℕ) (kept b : ℕ) (r : HasReturn text kept) (t : Bool) → (b == 10) ≡ t → Stands have (text ++ b ∷ []) (cond t (chunk_place (length have) kept) Bad) have
feed_next have text kept b r true e =
    let is : b ≡ 10 = grind (arith, nat_tests, e) in
    let line = subst (λ t. IsLine t (size_of r.is_open)) (sym (ap (λ x. text ++ x ∷ []) is ∙ ap (λ t. t ++ 10 ∷ []) r.spelled ∙ append_assoc r.before (13 ∷ []) (10 ∷ []))) (closes r.before r.extension kept r.is_open) in
    feed_place have (text ++ b ∷ []) (size_of r.is_open) kept (kept == 0) (nat_lt (body_limit - length have) kept) refl refl line r.is_open.is_kept
feed_next have text kept b r false e = tt

part_on : (text contents : List ℕ) (left b : ℕ) → IsPart text contents (left + 1) → IsPart (text ++ b ∷ []) (contents ++ b ∷ []) left
part_on text contents left b p = record {
  line = p.line;
  is_line = subst (IsLine p.line) (omega (arith, length-append contents (b ∷ []))) p.is_line;
  spelled = ap (λ t. t ++ b ∷ []) p.spelled ∙ append_assoc p.line contents (b ∷ []);
}

data_next : (have text contents body : List ℕ) (more b : ℕ) → IsPart text contents (more + 1) → body ≡ have ++ contents → Stands have (text ++ b ∷ []) (cond (more == 0) DataReturn (Data (more - 1))) (body ++ b ∷ [])
data_next have text contents body zero b p e = (contents ++ b ∷ [], part_on text contents 0 b p, omega (arith, length-append contents (b ∷ [])), ap (λ t. t ++ b ∷ []) e ∙ append_assoc have contents (b ∷ []))
data_next have text contents body (suc n) b p e =
    let q : IsPart text contents (n + 1 + 1) = subst (IsPart text contents) (omega arith) p in
    subst (λ p. Stands have (text ++ b ∷ []) p (body ++ b ∷ [])) (sym (data_more (length body) n b))
    (contents ++ b ∷ [], part_on text contents (n + 1) b q, ap (λ t. t ++ b ∷ []) e ∙ append_assoc have contents (b ∷ []))

return_next : (have text body : List ℕ) (b : ℕ) (t : Bool) → (b == 13) ≡ t → Stands have text DataReturn body → Stands have (text ++ b ∷ []) (cond t DataFeed Bad) body
return_next have text body b true e s = let is : b ≡ 13 = grind (arith, nat_tests, e) in (s.0, record { before = text; part = s.1; spelled = ap (λ x. text ++ x ∷ []) is }, s.2, s.3)
return_next have text body b false e s = tt

feed_line : (have text body : List ℕ) (b : ℕ) (t : Bool) → (b == 10) ≡ t → (s : Stands have text DataFeed body) → t ≡ true → IsChunk (text ++ b ∷ []) s.0
feed_line have text body b true e s f =
    let is : b ≡ 10 = grind (arith, nat_tests, e) in
    let h = s.1 in
    let p = h.part in
    let size : length s.0 + 0 ≡ length s.0 = omega arith in
    record {
      line = p.line;
      is_line = subst (IsLine p.line) size p.is_line;
      some = s.2;
      spelled = ap (λ x. text ++ x ∷ []) is ∙ ap (λ t. t ++ 10 ∷ []) h.spelled ∙ append_assoc h.before (13 ∷ []) (10 ∷ []) ∙ ap (λ t. t ++ crlf) p.spelled ∙ append_assoc p.line s.0 crlf;
    }
feed_line have text body b false e s f = cc

-- the end of a chunk's line end
line_at : (z : List ℕ) (b : ℕ) (body : List ℕ) (t : Bool) → (b == 10) ≡ t → IsAt z DataFeed body → IsAt (z ++ b ∷ []) (cond t Line Bad) body
line_at z b body true e a =
    let s = a.stands in
    record {
      contents = a.contents ++ s.0 ∷ [];
      chunks = a.chunks ++ (a.text ++ b ∷ []);
      text = [];
      are_chunks = chunks_snoc a.contents a.chunks (a.text ++ b ∷ []) s.0 a.are_chunks (feed_line (concat a.contents) a.text body b true e s refl);
      stands = (refl, s.3 ∙ sym (concat_snoc a.contents s.0));
      bytes = ap (λ x. x ++ b ∷ []) a.bytes ∙ append_assoc a.chunks a.text (b ∷ []) ∙ sym (append-nil (a.chunks ++ (a.text ++ b ∷ [])));
    }
line_at z b body false e a = record { contents = a.contents; chunks = a.chunks; text = a.text ++ b ∷ []; are_chunks = a.are_chunks; stands = tt; bytes = ap (λ x. x ++ b ∷ []) a.bytes ∙ append_assoc a.chunks a.text (b ∷ []) }

stays_at : (z : List ℕ) (b : ℕ) (p q : Place) (body longer : List ℕ) (a : IsAt z p body) → Stands (concat a.contents) (a.text ++ b ∷ []) q longer → IsAt (z ++ b ∷ []) q longer
stays_at z b p q body longer a s = record { contents = a.contents; chunks = a.chunks; text = a.text ++ b ∷ []; are_chunks = a.are_chunks; stands = s; bytes = ap (λ x. x ++ b ∷ []) a.bytes ∙ append_assoc a.chunks a.text (b ∷ []) }

first_digit : (have text body : List ℕ) (b : ℕ) (t : Bool) → is_hex b ≡ t → text ≡ [] → body ≡ have → Stands have (text ++ b ∷ []) (cond t (Size 1 (digit_value b)) Bad) body
first_digit have text body b true h e f =
    let is : text ++ b ∷ [] ≡ b ∷ [] = ap (λ t. t ++ b ∷ []) e in
    (subst (λ t. IsSize t 1 (digit_value b)) (sym is) (record { some = omega arith; count_is = refl; few = omega arith; hexadecimal = and_both (is_hex b) true h refl; is_kept = inl (omega arith) }), f)
first_digit have text body b false h e f = tt

-- one more byte
pub next_at : (z : List ℕ) (b : ℕ) (p : Place) (body : List ℕ) → is_final p ≡ false → IsAt z p body → IsAt (z ++ b ∷ []) (next (length body) p b) (cond (is_data p) (body ++ b ∷ []) body)
next_at z b Line body f a = stays_at z b Line (next (length body) Line b) body body a (first_digit (concat a.contents) a.text body b (is_hex b) refl a.stands.0 a.stands.1)
next_at z b (Size d kept) body f a =
    stays_at z b (Size d kept) (next (length body) (Size d kept) b) body body a
    (subst (Stands (concat a.contents) (a.text ++ b ∷ []) (next (length body) (Size d kept) b)) (sym a.stands.1) (size_next (concat a.contents) a.text body d kept b a.stands.0 (is_hex b) (nat_le 16 d) refl refl))
next_at z b (Pad kept) body f a =
    stays_at z b (Pad kept) (next (length body) (Pad kept) b) body body a
    (subst (Stands (concat a.contents) (a.text ++ b ∷ []) (next (length body) (Pad kept) b)) (sym a.stands.1) (after_open a.text kept b a.stands.0 (concat a.contents) (is_ows b) (b == 59) (b == 13) refl refl refl))
next_at z b (Extension kept) body f a =
    stays_at z b (Extension kept) (next (length body) (Extension kept) b) body body a
    (subst (Stands (concat a.contents) (a.text ++ b ∷ []) (next (length body) (Extension kept) b)) (sym a.stands.1) (extension_next (concat a.contents) a.text a.stands.0.0 kept b a.stands.0.1 (b == 13) (b == 10) refl refl))
next_at z b (LineFeed kept) body f a =
    stays_at z b (LineFeed kept) (next (length body) (LineFeed kept) b) body body a
    (subst (λ o. Stands (concat a.contents) (a.text ++ b ∷ []) (next (length o) (LineFeed kept) b) o) (sym a.stands.1) (feed_next (concat a.contents) a.text kept b a.stands.0 (b == 10) refl))
next_at z b (Data more) body f a =
    stays_at z b (Data more) (next (length body) (Data more) b) body (body ++ b ∷ []) a (data_next (concat a.contents) a.text a.stands.0 body more b a.stands.1 a.stands.2)
next_at z b DataReturn body f a = stays_at z b DataReturn (next (length body) DataReturn b) body body a (return_next (concat a.contents) a.text body b (b == 13) refl a.stands)
next_at z b DataFeed body f a = line_at z b body (b == 10) refl a
next_at z b Done body f a = cc
next_at z b Over body f a = cc
next_at z b Bad body f a = cc

pub large_at : (z body : List ℕ) → IsAt z Over body → HasLargeChunk z
large_at z body a =
    let l = a.stands in
    record { contents = a.contents; chunks = a.chunks; line = a.text; size = l.size; rest = []; are_chunks = a.are_chunks; is_line = l.is_line; some = l.some; large = l.large; bytes = a.bytes ∙ sym (append-nil (a.chunks ++ a.text)) }

pub body_at : (z body : List ℕ) → IsAt z Done body → IsBody z body
body_at z body a = record { contents = a.contents; chunks = a.chunks; last = a.text; are_chunks = a.are_chunks; is_last = a.stands.0; spelled = a.bytes; body_is = a.stands.1 }
