-- From what came of an answer to its page.
use Rattle.std.proofs.Common.{◌≡◌, ◌≤◌, ◌<◌, ◌⊎◌, inl, inr, ℕ, ◌+◌, Bool, true, false, List, [], ◌++◌, length, take, drop, Some, None, Result, Ok, Err, refl, sym, ap, ◌∙◌, subst, arith, take_all, IfOk, MatchResult}
use Rattle.chunked_body.specs.declared.reader.Chunked.{Chunked}
use Rattle.chunked_body.specs.declared.reader.ChunkReader.{ChunkReader}
use Rattle.chunked_body.specs.Answers.{IsChunked}
use Rattle.chunked_body.specs.Grammar.{body_limit, form_limit}
use Rattle.chunked_body.specs.Readings.{is_final, run}
use Rattle.chunked_body.proofs.Decided.{undecided}
use Rattle.chunked_body.specs.Readers.{HasRead, is_over, room_of}
use Rattle.std.proofs.lemmas.List.{drop-append-le, length-append, length-drop}
use Rattle.fed_ports.specs.declared.page.Page.{Page}
use Rattle.fed_ports.specs.declared.page.Page.TheVariants.{Garbled}
use Rattle.http_plain.specs.declared.form.Form.{Form}
use Rattle.http_plain.specs.declared.form.Form.TheVariants.{Chunked as InChunks, Sized, ToEnd}
use Rattle.http_messages.specs.declared.inflow.Break.{Break}
use Rattle.http_messages.specs.declared.inflow.Break.TheVariants.{Memory}
use Rattle.http_messages.specs.Heads.{head_end, head_limit}
use Rattle.http_messages.specs.Flows.{Broken, HeadBroken, HeadComes, OnFailed}
use Rattle.http_plain.specs.Pages.{IsForm, IsBodyPage, chunked_page, chunks_limit, piece_limit}
use Rattle.http_plain.specs.Shown.{Lacks, LacksBody, LacksRest, Shows, ShowsBody, ShowsRest}
use Rattle.http_messages.proofs.Ends.{end_inside}
use Rattle.http_messages.proofs.Takings.{begins}
use Rattle.http_plain.proofs.Pages.{behind_none, early_none}

pub no_head : (flow : List ℕ → Bool → Type 0) (text : List ℕ) → HeadComes flow text None → Shows flow Garbled
no_head flow text h = record {
  got = text;
  ended = h.0;
  came = h.1;
  few = omega (arith, h.2);
  page = inl (ap head_end (take_all head_limit text h.2) ∙ h.3, elim h.4 [ inl e ↦ inl (omega (arith, e)) | inr e ↦ inr e ], refl);
}

whole : (flow more both : List ℕ → Bool → Type 0) (text : List ℕ) (len : ℕ) (form : Form) (p : Page)
    → ((x y : List ℕ) (e : Bool) → flow x false → more y e → both (x ++ y) e)
    → HeadComes flow text (Some len) → IsForm (take len text) form → ShowsBody more text len form p → Shows both p
unfolding begins
whole flow more both text len form p on h is b = record {
  got = text ++ b.got;
  ended = b.ended;
  came = on text b.got b.ended h.0 b.came;
  few = b.few;
  page = inr (record {
    head = take len text;
    begins = begins text b.got len h.1 h.2;
    form = form;
    is_form = is;
    page = subst (λ y. IsBodyPage form y b.ended p) (drop-append-le len text b.got (end_inside text len h.2)) b.page;
  });
}

pub shows : (flow more both : List ℕ → Bool → Type 0) (text : List ℕ) (len : ℕ) (form : Form) (r : Result Page Break)
    → ((x y : List ℕ) (e : Bool) → flow x false → more y e → both (x ++ y) e)
    → HeadComes flow text (Some len) → IsForm (take len text) form → IfOk r (λ p. ShowsBody more text len form p) → IfOk r (λ p. Shows both p)
shows flow more both text len form (Ok p) on h is b = whole flow more both text len form p on h is b
shows flow more both text len form (Err e) on h is b = tt

-- a reading to which nothing has come has room for a whole form
whole_room : (chunks : ChunkReader) → HasRead chunks [] → room_of chunks ≡ form_limit
unfolding run
whole_room chunks h = ap (λ c. c.room) h

-- what is left of it behind the first bytes
pub begun : (first chunks : ChunkReader) (text : List ℕ) → HasRead first [] → length text ≤ head_limit
    → (room_of chunks ≤ room_of first) × (is_over chunks ≡ false → room_of chunks + length text ≤ room_of first)
    → (is_over chunks ≡ false → length (text ++ []) + room_of chunks ≤ form_limit) × (length (text ++ []) ≤ chunks_limit)
begun first chunks text nothing small room = (λ goes. omega (arith, room.1 goes, whole_room first nothing, length-append text []), omega (arith, small, length-append text []))

-- and behind a piece more
pub spent_on : (old new : ChunkReader) (text x y : List ℕ) (most : ℕ) → is_over old ≡ false → most ≤ piece_limit → length y ≤ most → (is_over new ≡ false → room_of new + length y ≤ room_of old)
    → (is_over old ≡ false → length (text ++ x) + room_of old ≤ form_limit)
    → (is_over new ≡ false → length (text ++ (x ++ y)) + room_of new ≤ form_limit) × (length (text ++ (x ++ y)) ≤ chunks_limit)
spent_on old new text x y most more piece few spends so_far = (
  λ goes. omega (arith, so_far more, spends goes, length-append text x, length-append text (x ++ y), length-append x y),
  omega (arith, so_far more, piece, few, length-append text x, length-append text (x ++ y), length-append x y),
)

-- the page of a reading of chunks that is over, or whose bytes have ended
pub rest_shown : (flow : List ℕ → Bool → Type 0) (text got : List ℕ) (ended : Bool) (chunks : ChunkReader) (c : Chunked) → flow got ended → HasRead chunks (text ++ got) → length (text ++ got) ≤ chunks_limit
    → ((x : List ℕ) (e : Bool) → HasRead chunks x → (is_over chunks ≡ true) ⊎ (e ≡ true) → IsChunked x e c) → (is_over chunks ≡ true) ⊎ (ended ≡ true) → ShowsRest flow text (chunked_page c)
rest_shown flow text got ended chunks c came reads few decides done = record {
  got = got;
  ended = ended;
  came = came;
  few = few;
  page = (c, decides (text ++ got) ended reads done, refl);
}

-- what is shown behind a head is so of the whole text
pub body_shown : (flow : List ℕ → Bool → Type 0) (text : List ℕ) (len : ℕ) (r : Result Page Break) → len ≤ length text → len ≤ head_limit → IfOk r (λ p. ShowsRest flow (drop len text) p) → IfOk r (λ p. ShowsBody flow text len InChunks p)
body_shown flow text len (Ok p) inside small h = record {
  got = h.got;
  ended = h.ended;
  came = h.came;
  few = omega (arith, small, h.few, length-append text h.got, length-append (drop len text) h.got, length-drop len text);
  page = subst (λ y. IsBodyPage InChunks y h.ended p) (sym (drop-append-le len text h.got inside)) h.page;
}
body_shown flow text len (Err e) inside small h = tt

-- ---- where a call failed

-- bytes that end before their head does
pub lacks_head : (broke : List ℕ → Type 0) (text : List ℕ) → HeadBroken broke text → Lacks broke
lacks_head broke text h = record { got = text; came = h.0; none = early_none text h.2 h.1 }

-- what the body lacks the whole lacks
pub lacks : (flow : List ℕ → Bool → Type 0) (more both : List ℕ → Type 0) (text : List ℕ) (len : ℕ) (form : Form) → ((x y : List ℕ) → flow x false → more y → both (x ++ y))
    → HeadComes flow text (Some len) → IsForm (take len text) form → LacksBody more text len form → Lacks both
unfolding begins
lacks flow more both text len form on h is b = record {
  got = text ++ b.got;
  came = on text b.got h.0 b.came;
  none = behind_none (text ++ b.got) (take len text) (begins text b.got len h.1 h.2) form is
      (λ p page. b.none p (subst (λ y. IsBodyPage form y false p) (sym (drop-append-le len text b.got (end_inside text len h.2))) page));
}

behind : (text got : List ℕ) (len n : ℕ) → len ≤ length text → length (text ++ got) < len + n → length (drop len (text ++ got)) < n
behind text got len n inside short = omega (arith, short, inside, length-drop len (text ++ got), length-append text got)

sized_none : (n : ℕ) (y : List ℕ) → n ≤ body_limit → length y < n → (p : Page) → IsBodyPage (Sized n) y false p → ⊥
sized_none n y small short p (inl h) = omega (arith, small, h.0)
sized_none n y small short p (inr (inl h)) = omega (arith, short, h.1)
sized_none n y small short p (inr (inr h)) = let no : false ≡ true = h.2 in cc

-- a body that ends before the length that is stated
pub lacks_sized : (broke : List ℕ → Type 0) (text after : List ℕ) (len n until : ℕ) → len ≤ length text → n ≤ body_limit → until ≡ len + n → Broken broke text after → length after < until → LacksBody broke text len (Sized n)
lacks_sized broke text after len n until inside small is h short = record {
  got = h.got;
  came = h.broke;
  none = sized_none n (drop len (text ++ h.got)) small (behind text h.got len n inside (omega (arith, short, is, ap length h.adds)));
}

open_none : (y : List ℕ) → length y < body_limit + 1 → (p : Page) → IsBodyPage ToEnd y false p → ⊥
open_none y short p (inl h) = omega (arith, short, h.0)
open_none y short p (inr h) = let no : false ≡ true = h.1 in cc

-- one that goes to the end, and isn't too long so far
pub lacks_end : (broke : List ℕ → Type 0) (text after : List ℕ) (len until : ℕ) → len ≤ length text → until ≡ len + (body_limit + 1) → Broken broke text after → length after < until → LacksBody broke text len ToEnd
lacks_end broke text after len until inside is h short = record {
  got = h.got;
  came = h.broke;
  none = open_none (drop len (text ++ h.got)) (behind text h.got len (body_limit + 1) inside (omega (arith, short, is, ap length h.adds)));
}

-- chunks whose reading goes on
pub lacks_rest : (broke : List ℕ → Type 0) (rest got : List ℕ) (chunks : ChunkReader) → broke got → HasRead chunks (rest ++ got) → is_over chunks ≡ false → LacksRest broke rest
lacks_rest broke rest got chunks came reads goes = record {
  got = got;
  came = came;
  none = λ p h. undecided (rest ++ got) h.0 (sym (ap (λ c. is_final c.place) reads) ∙ goes) h.1;
}

-- what is behind a head is so of the whole text
pub lacks_chunks : (broke : List ℕ → Type 0) (text : List ℕ) (len : ℕ) → len ≤ length text → LacksRest broke (drop len text) → LacksBody broke text len InChunks
lacks_chunks broke text len inside h = record {
  got = h.got;
  came = h.came;
  none = λ p page. h.none p (subst (λ y. IsBodyPage InChunks y false p) (drop-append-le len text h.got inside) page);
}

-- a document isn't made for want of memory alone
pub memory_only : (P : Page → Type 0) (Q : Type 0) (r : Result Page Break) → MatchResult r P (λ fault. fault ≡ Memory) → OnFailed r Q
memory_only P Q (Ok p) h = tt
memory_only P Q (Err f) h = subst (λ e. OnFailed {T = Page} (Err e) Q) (sym h) tt
