-- What bytes are, by their reading.
use Rattle.std.proofs.Common.{◌≡◌, ◌≤◌, ◌<◌, ◌⊎◌, inl, inr, ℕ, ◌+◌, ◌-◌, ◌||◌, Bool, true, false, List, [], ◌∷◌, ◌++◌, length, cond, nat_lt, refl, sym, ap, ◌∙◌, subst, arith, append_assoc, append-nil}
use Rattle.std.proofs.lemmas.Bool.Decides.{nat_tests}
use Rattle.std.proofs.lemmas.List.{length-append}
use Rattle.chunked_body.specs.declared.place.Place.{Place}
use Rattle.chunked_body.specs.declared.place.Place.TheVariants.{Line, Size, Pad, Extension, LineFeed, Data, DataReturn, DataFeed, Done, Over, Bad}
use Rattle.chunked_body.specs.declared.reader.Chunked.{Chunked}
use Rattle.chunked_body.specs.declared.reader.Chunked.TheVariants.{Whole, TooLong, Broken}
use Rattle.chunked_body.specs.Grammar.{Begins, IsBody, form_limit}
use Rattle.chunked_body.specs.Answers.{BeginsWithBody, HasLargeChunk, IsChunked, IsTooLong}
use Rattle.chunked_body.specs.Readings.{is_final, is_bad, is_data, next, Chunking, start, step, run}
use Rattle.chunked_body.proofs.Running.{room_case, run_append, run_final}
use Rattle.chunked_body.proofs.Reached.{Goes, begins_not_bad, read_body, too_long_over}
use Rattle.chunked_body.proofs.Formed.{IsAt, begins, large_at, body_at, next_at}

-- what was read is of the form up to there, or there is too much of it
abbrev pub Meant : List ℕ → Chunking → Type 0
Meant z c = IsAt z c.place c.body ⊎ ((c.place ≡ Over) × IsTooLong z)

over_or : (p : Place) → (p ≡ Over) ⊎ (p ≡ Over → ⊥)
over_or Line = inr (λ e. cc)
over_or (Size d n) = inr (λ e. cc)
over_or (Pad n) = inr (λ e. cc)
over_or (Extension n) = inr (λ e. cc)
over_or (LineFeed n) = inr (λ e. cc)
over_or (Data n) = inr (λ e. cc)
over_or DataReturn = inr (λ e. cc)
over_or DataFeed = inr (λ e. cc)
over_or Done = inr (λ e. cc)
over_or Over = inl refl
over_or Bad = inr (λ e. cc)

too_long_by : (z : List ℕ) (p : Place) (body : List ℕ) → IsAt z p body → is_bad p ≡ false → form_limit < length z → (p ≡ Over) ⊎ (p ≡ Over → ⊥) → IsTooLong z
too_long_by z p body a b l (inl e) = inl (large_at z body (subst (λ q. IsAt z q body) e a))
too_long_by z p body a b l (inr n) = inr (record { form = z; rest = []; begins = begins z p body a b n; long = l; bytes = sym (append-nil z) })

step_case : (z : List ℕ) (room : ℕ) (p : Place) (body : List ℕ) (s t : Bool) → is_bad p ≡ s → nat_lt 0 room ≡ t → length z ≤ form_limit + 1 → room ≡ form_limit + 1 - length z → IsAt z p body
    → Meant z record { place = cond (s || t) p Over; room = room - 1; body = body }
step_case z room p body true t e f l r a = inl a
step_case z room p body false true e f l r a = inl a
step_case z room p body false false e f l r a = inr (refl, too_long_by z p body a e (let g = f in grind (arith, nat_tests, g, r, l)) (over_or p))

-- the bytes that were read, which are all where the reading goes on
pub record Reading (x : List ℕ) (c : Chunking) : Type 0 where
  pub used : List ℕ
  pub rest : List ℕ
  pub meant : Meant used c
  pub all : is_final c.place ≡ false → rest ≡ []
  pub bytes : x ≡ used ++ rest

going : (z : List ℕ) (c : Chunking) → is_final c.place ≡ false → Meant z c → IsAt z c.place c.body
going z c f (inl a) = a
going z c f (inr o) = let no : true ≡ false = sym (ap is_final o.0) ∙ f in cc

run_case : (z xs : List ℕ) (b : ℕ) (c m : Chunking) (t : Bool) → is_final c.place ≡ t → Meant z c → (is_final c.place ≡ false → Reading ((z ++ b ∷ []) ++ xs) m) → Reading (z ++ b ∷ xs) (cond t c m)
run_case z xs b c m true e h f = record { used = z; rest = b ∷ xs; meant = h; all = λ g. let no : true ≡ false = sym e ∙ g in cc; bytes = refl }
run_case z xs b c m false e h f = subst (λ x. Reading x m) (append_assoc z (b ∷ []) xs) (f e)

-- a reading of bytes of which some were read
read_on : (xs z : List ℕ) (c : Chunking) → Meant z c → (is_final c.place ≡ false → (length z ≤ form_limit) × (c.room ≡ form_limit - length z)) → Reading (z ++ xs) (run c xs)
unfolding run
read_on [] z c h r = record { used = z; rest = []; meant = h; all = λ g. refl; bytes = refl }
read_on (b ∷ xs) z c h r = run_case z xs b c (run (step c b) xs) (is_final c.place) refl h (λ f.
    let room = r f in
    let size = length-append z (b ∷ []) in
    let at_next = next_at z b c.place c.body f (going z c f h) in
    let p = next (length c.body) c.place b in
    let body = cond (is_data c.place) (c.body ++ b ∷ []) c.body in
    read_on xs (z ++ b ∷ []) (step c b)
    (step_case (z ++ b ∷ []) c.room p body (is_bad p) (nat_lt 0 c.room) refl refl (omega (arith, size, room.0)) (omega (arith, size, room.0, room.1)) at_next)
    (λ g. let had = room_case (is_bad p) (nat_lt 0 c.room) p refl g in let some : 0 < c.room = grind (arith, nat_tests, had) in (omega (arith, size, room.0, room.1, some), omega (arith, size, room.0, room.1, some))))

start_at : IsAt [] Line []
start_at = record { contents = []; chunks = []; text = []; are_chunks = refl; stands = (refl, refl); bytes = refl }

pub read_all : (x : List ℕ) → Reading x (run start x)
read_all x = read_on x [] start (inl start_at) (λ f. (omega arith, refl))

longer_large : (z rest : List ℕ) → HasLargeChunk z → HasLargeChunk (z ++ rest)
longer_large z rest h = record {
  contents = h.contents;
  chunks = h.chunks;
  line = h.line;
  size = h.size;
  rest = h.rest ++ rest;
  are_chunks = h.are_chunks;
  is_line = h.is_line;
  some = h.some;
  large = h.large;
  bytes = ap (λ y. y ++ rest) h.bytes ∙ append_assoc (h.chunks ++ h.line) h.rest rest;
}

longer : (z rest : List ℕ) → IsTooLong z → IsTooLong (z ++ rest)
longer z rest (inl h) = inl (longer_large z rest h)
longer z rest (inr h) = inr (record { form = h.form; rest = h.rest ++ rest; begins = h.begins; long = h.long; bytes = ap (λ y. y ++ rest) h.bytes ∙ append_assoc h.form h.rest rest })

-- what a reading answers
abbrev pub answer_of : Place → List ℕ → Chunked
answer_of Line body = Broken
answer_of (Size d n) body = Broken
answer_of (Pad n) body = Broken
answer_of (Extension n) body = Broken
answer_of (LineFeed n) body = Broken
answer_of (Data n) body = Broken
answer_of DataReturn body = Broken
answer_of DataFeed body = Broken
answer_of Done body = Whole body
answer_of Over body = TooLong
answer_of Bad body = Broken

pub neither : (p : Place) (body : List ℕ) → (p ≡ Done → ⊥) → (p ≡ Over → ⊥) → answer_of p body ≡ Broken
neither Line body d o = refl
neither (Size x n) body d o = refl
neither (Pad n) body d o = refl
neither (Extension n) body d o = refl
neither (LineFeed n) body d o = refl
neither (Data n) body d o = refl
neither DataReturn body d o = refl
neither DataFeed body d o = refl
neither Bad body d o = refl
neither Done body d o = absurd (d refl)
neither Over body d o = absurd (o refl)

meant_over : (z body : List ℕ) (room : ℕ) → Meant z record { place = Over; room = room; body = body } → IsTooLong z
meant_over z body room (inl a) = inl (large_at z body a)
meant_over z body room (inr h) = h.1

meant_done : (z body : List ℕ) (room : ℕ) → Meant z record { place = Done; room = room; body = body } → IsBody z body
meant_done z body room (inl a) = body_at z body a
meant_done z body room (inr h) = let no = h.0 in cc

-- a reading that is over too soon
pub over_long : (x body : List ℕ) (room : ℕ) → Reading x record { place = Over; room = room; body = body } → IsTooLong x
over_long x body room r = subst IsTooLong (sym r.bytes) (longer r.used r.rest (meant_over r.used body room r.meant))

pub done_begins : (x body : List ℕ) (room : ℕ) → Reading x record { place = Done; room = room; body = body } → BeginsWithBody x body
done_begins x body room r = record { text = r.used; rest = r.rest; is_body = meant_done r.used body room r.meant; bytes = r.bytes }

goes_whole : (text rest body : List ℕ) → Goes start text Done body → ((run start (text ++ rest)).place ≡ Over) ⊎ (((run start (text ++ rest)).place ≡ Done) × ((run start (text ++ rest)).body ≡ body))
goes_whole text rest body (inl e) = inl (ap (λ d. d.place) (run_append start text rest ∙ run_final (run start text) rest (ap is_final e)) ∙ e)
goes_whole text rest body (inr r) =
    let is = run_append start text rest ∙ run_final (run start text) rest (ap (λ d. is_final d.place) r.0) ∙ r.0 in
    inr (ap (λ d. d.place) is, ap (λ d. d.body) is)

-- what begins with a body is read so, or there is too much of it
pub begins_read : (x body : List ℕ) → BeginsWithBody x body → ((run start x).place ≡ Over) ⊎ (((run start x).place ≡ Done) × ((run start x).body ≡ body))
begins_read x body b =
    subst (λ y. ((run start y).place ≡ Over) ⊎ (((run start y).place ≡ Done) × ((run start y).body ≡ body))) (sym b.bytes) (goes_whole b.text b.rest body (read_body b.text body b.is_body))

none_begins : (x : List ℕ) (p : Place) → (run start x).place ≡ p → (p ≡ Over → ⊥) → (p ≡ Done → ⊥) → (body : List ℕ) → BeginsWithBody x body → ⊥
none_begins x p e o d body b = elim (begins_read x body b) [ inl h ↦ o (sym e ∙ h) | inr h ↦ d (sym e ∙ h.0) ]

not_long : (x : List ℕ) (p : Place) → (run start x).place ≡ p → (p ≡ Over → ⊥) → IsTooLong x → ⊥
not_long x p e o h = o (sym e ∙ too_long_over x h)

broken_end : (x : List ℕ) (ended : Bool) (p : Place) → (run start x).place ≡ p → (p ≡ Over → ⊥) → (p ≡ Done → ⊥) → ended ≡ true → IsChunked x ended Broken
broken_end x ended p e o d t = (not_long x p e o, record { none = none_begins x p e o d; cut = inl t })

not_final : (f ended : Bool) → f ≡ false → (f ≡ true) ⊎ (ended ≡ true) → ended ≡ true
not_final f ended e (inl h) = let no : true ≡ false = sym h ∙ e in cc
not_final f ended e (inr h) = h

found_case : (x : List ℕ) (ended : Bool) (p : Place) (room : ℕ) (body : List ℕ) → run start x ≡ record { place = p; room = room; body = body } → (is_final p ≡ true) ⊎ (ended ≡ true) → IsChunked x ended (answer_of p body)
found_case x ended Line room body e h = broken_end x ended Line (ap (λ d. d.place) e) (λ o. cc) (λ o. cc) (not_final false ended refl h)
found_case x ended (Size d n) room body e h = broken_end x ended (Size d n) (ap (λ d. d.place) e) (λ o. cc) (λ o. cc) (not_final false ended refl h)
found_case x ended (Pad n) room body e h = broken_end x ended (Pad n) (ap (λ d. d.place) e) (λ o. cc) (λ o. cc) (not_final false ended refl h)
found_case x ended (Extension n) room body e h = broken_end x ended (Extension n) (ap (λ d. d.place) e) (λ o. cc) (λ o. cc) (not_final false ended refl h)
found_case x ended (LineFeed n) room body e h = broken_end x ended (LineFeed n) (ap (λ d. d.place) e) (λ o. cc) (λ o. cc) (not_final false ended refl h)
found_case x ended (Data n) room body e h = broken_end x ended (Data n) (ap (λ d. d.place) e) (λ o. cc) (λ o. cc) (not_final false ended refl h)
found_case x ended DataReturn room body e h = broken_end x ended DataReturn (ap (λ d. d.place) e) (λ o. cc) (λ o. cc) (not_final false ended refl h)
found_case x ended DataFeed room body e h = broken_end x ended DataFeed (ap (λ d. d.place) e) (λ o. cc) (λ o. cc) (not_final false ended refl h)
found_case x ended Done room body e h = (not_long x Done (ap (λ d. d.place) e) (λ o. cc), done_begins x body room (subst (Reading x) e (read_all x)))
found_case x ended Over room body e h = over_long x body room (subst (Reading x) e (read_all x))
found_case x ended Bad room body e h =
    let is = ap (λ d. d.place) e in
    (not_long x Bad is (λ o. cc), record { none = none_begins x Bad is (λ o. cc) (λ o. cc); cut = inr (λ b. begins_not_bad x b is) })

-- what the reading answers is so
pub found : (x : List ℕ) (ended : Bool) (c : Chunking) → c ≡ run start x → (is_final c.place ≡ true) ⊎ (ended ≡ true) → IsChunked x ended (answer_of c.place c.body)
found x ended c e h = found_case x ended c.place c.room c.body (sym e) h

broken_case : (x : List ℕ) (ended : Bool) (p : Place) (room : ℕ) (body : List ℕ) → run start x ≡ record { place = p; room = room; body = body } → IsChunked x ended Broken → Broken ≡ answer_of p body
broken_case x ended Line room body e h = refl
broken_case x ended (Size d n) room body e h = refl
broken_case x ended (Pad n) room body e h = refl
broken_case x ended (Extension n) room body e h = refl
broken_case x ended (LineFeed n) room body e h = refl
broken_case x ended (Data n) room body e h = refl
broken_case x ended DataReturn room body e h = refl
broken_case x ended DataFeed room body e h = refl
broken_case x ended Bad room body e h = refl
broken_case x ended Done room body e h = absurd (h.1.none body (done_begins x body room (subst (Reading x) e (read_all x))))
broken_case x ended Over room body e h = absurd (h.0 (over_long x body room (subst (Reading x) e (read_all x))))

only_case : (x : List ℕ) (ended : Bool) (p : Place) (room : ℕ) (body : List ℕ) (a : Chunked) → run start x ≡ record { place = p; room = room; body = body } → IsChunked x ended a → a ≡ answer_of p body
only_case x ended p room body TooLong e h = ap (λ q. answer_of q body) (sym (sym (ap (λ d. d.place) e) ∙ too_long_over x h))
only_case x ended p room body (Whole b) e h = elim (begins_read x b h.1) [
  | inl o ↦ absurd (h.0 (over_long x body room (subst (Reading x) (e ∙ ap (λ q. record { place = q; room = room; body = body }) (sym (ap (λ d. d.place) e) ∙ o)) (read_all x))))
  | inr d ↦ ap Whole (sym (sym (ap (λ c. c.body) e) ∙ d.1)) ∙ ap (λ q. answer_of q body) (sym (sym (ap (λ c. c.place) e) ∙ d.0))
]
only_case x ended p room body Broken e h = broken_case x ended p room body e h

-- what is so is what the reading answers
pub only : (x : List ℕ) (ended : Bool) (a : Chunked) → IsChunked x ended a → a ≡ answer_of (run start x).place (run start x).body
only x ended a h = only_case x ended (run start x).place (run start x).room (run start x).body a refl h

not_bad : (p : Place) → is_final p ≡ false → is_bad p ≡ false
not_bad Line f = refl
not_bad (Size d n) f = refl
not_bad (Pad n) f = refl
not_bad (Extension n) f = refl
not_bad (LineFeed n) f = refl
not_bad (Data n) f = refl
not_bad DataReturn f = refl
not_bad DataFeed f = refl
not_bad Done f = cc
not_bad Over f = cc
not_bad Bad f = cc

-- bytes behind which the reading goes on begin the form
goes_begins : (x : List ℕ) (c : Chunking) → is_final c.place ≡ false → Reading x c → Begins x
goes_begins x c f r =
    let all = r.bytes ∙ ap (λ y. r.used ++ y) (r.all f) ∙ append-nil r.used in
    subst Begins (sym all) (begins r.used c.place c.body (going r.used c f r.meant) (not_bad c.place f) (λ o. let no : true ≡ false = sym (ap is_final o) ∙ f in cc))

-- they are nothing yet, as long as more can come
pub undecided : (x : List ℕ) (a : Chunked) → is_final (run start x).place ≡ false → IsChunked x false a → ⊥
undecided x (Whole body) f h = elim (begins_read x body h.1) [
  | inl o ↦ (let no : true ≡ false = sym (ap is_final o) ∙ f in cc)
  | inr d ↦ (let no : true ≡ false = sym (ap is_final d.0) ∙ f in cc)
]
undecided x TooLong f h = let no : true ≡ false = sym (ap is_final (too_long_over x h)) ∙ f in cc
undecided x Broken f h = elim h.1.cut [
  | inl e ↦ (let no : false ≡ true = e in cc)
  | inr none ↦ none (goes_begins x (run start x) f (read_all x))
]
