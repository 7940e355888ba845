-- A reading of chunks over several bytes.
use Rattle.std.proofs.Common.{◌≡◌, ◌≤◌, ◌<◌, ℕ, zero, suc, ◌+◌, ◌-◌, ◌||◌, ◌==◌, Bool, true, false, List, [], ◌∷◌, ◌++◌, length, drop, take, cond, nat_lt, slice_index, refl, sym, ap, ◌∙◌, arith, append_assoc}
use Rattle.std.proofs.lemmas.Bool.Decides.{nat_tests}
use Rattle.std.proofs.lemmas.List.{take-append-drop}
use Rattle.chunked_body.specs.declared.place.Place.{Place}
use Rattle.chunked_body.specs.declared.place.Place.TheVariants.{Line, Size, Pad, Extension, LineFeed, Data, DataReturn, DataFeed, Done, Over, Bad}
use Rattle.chunked_body.specs.Readings.{is_final, is_bad, counted, data_place, next, Chunking, step, run}

-- an ended reading stays
pub run_final : (c : Chunking) (ys : List ℕ) → is_final c.place ≡ true → run c ys ≡ c
unfolding run
run_final c [] h = refl
run_final c (y ∷ ys) h = ap (λ t. cond t c (run (step c y) ys)) h

append_case : (c m : Chunking) (x : ℕ) (xs ys : List ℕ) (t : Bool) → is_final c.place ≡ t → run m (xs ++ ys) ≡ run (run m xs) ys → cond t c (run m (xs ++ ys)) ≡ run (cond t c (run m xs)) ys
append_case c m x xs ys true e h = sym (run_final c ys e)
append_case c m x xs ys false e h = h

-- the bytes one behind the other
pub run_append : (c : Chunking) (xs ys : List ℕ) → run c (xs ++ ys) ≡ run (run c xs) ys
unfolding run
run_append c [] ys = refl
run_append c (x ∷ xs) ys = append_case c (step c x) x xs ys (is_final c.place) refl (run_append (step c x) xs ys)

-- the next byte of a reading that goes on
pub run_next : (c : Chunking) (x : ℕ) (xs : List ℕ) → is_final c.place ≡ false → run c (x ∷ xs) ≡ run (step c x) xs
unfolding run
run_next c x xs h = ap (λ t. cond t c (run (step c x) xs)) h

bad_final : (p : Place) → is_bad p ≡ true → is_final p ≡ true
bad_final Line e = cc
bad_final (Size d n) e = cc
bad_final (Pad n) e = cc
bad_final (Extension n) e = cc
bad_final (LineFeed n) e = cc
bad_final (Data n) e = cc
bad_final DataReturn e = cc
bad_final DataFeed e = cc
bad_final Done e = refl
bad_final Over e = refl
bad_final Bad e = refl

pub room_case : (b t : Bool) (p : Place) → is_bad p ≡ b → is_final (cond (b || t) p Over) ≡ false → t ≡ true
room_case true t p e h = let no : true ≡ false = sym (bad_final p e) ∙ h in cc
room_case false true p e h = refl
room_case false false p e h = cc

-- a reading that goes on had room for its byte
pub counted_room : (room : ℕ) (p : Place) → is_final (counted room p) ≡ false → 0 < room
counted_room room p h = let t = room_case (is_bad p) (nat_lt 0 room) p refl h in grind (arith, nat_tests, t)

-- where there is room
pub counted_in : (room : ℕ) (p : Place) → 0 < room → counted room p ≡ p
counted_in room p h = grind (arith, nat_tests, h)

-- what holds of a reading before a byte, from what holds behind it
open_case : (c m : Chunking) (n : ℕ) (t : Bool) → is_final c.place ≡ t → is_final (cond t c m).place ≡ false → (is_final m.place ≡ false → (m.room + n ≤ c.room - 1) × (0 < c.room)) → (cond t c m).room + suc n ≤ c.room
open_case c m n true e h f = let no : true ≡ false = sym e ∙ h in cc
open_case c m n false e h f = let g = f h in omega (arith, g.0, g.1)

first_case : (c : Chunking) (xs : List ℕ) (t : Bool) → is_final c.place ≡ t → is_final (run c xs).place ≡ false → t ≡ false
first_case c xs true e h = let no : true ≡ false = sym (ap (λ d. is_final d.place) (run_final c xs e) ∙ e) ∙ h in cc
first_case c xs false e h = refl

started : (c : Chunking) (xs : List ℕ) → is_final (run c xs).place ≡ false → is_final c.place ≡ false
started c xs h = first_case c xs (is_final c.place) refl h

-- each byte of a reading that goes on took one of those that may come
pub run_open : (c : Chunking) (xs : List ℕ) → is_final (run c xs).place ≡ false → (run c xs).room + length xs ≤ c.room
unfolding run
run_open c [] h = omega arith
run_open c (x ∷ xs) h =
    open_case c (run (step c x) xs) (length xs) (is_final c.place) refl h
    (λ g. (run_open (step c x) xs g, counted_room c.room (next (length c.body) c.place x) (started (step c x) xs g)))

falls_case : (c m : Chunking) (t : Bool) → m.room ≤ c.room - 1 → (cond t c m).room ≤ c.room
falls_case c m true h = omega arith
falls_case c m false h = omega (arith, h)

pub run_falls : (c : Chunking) (xs : List ℕ) → (run c xs).room ≤ c.room
unfolding run
run_falls c [] = omega arith
run_falls c (x ∷ xs) = falls_case c (run (step c x) xs) (is_final c.place) (run_falls (step c x) xs)

-- the first byte of a piece
pub run_first : (c : Chunking) (y : List ℕ) → 0 < length y → is_final c.place ≡ false → step c (slice_index y 0) ≡ run c (take 1 y)
unfolding run
run_first c [] some h = absurd (omega (arith, some))
run_first c (x ∷ xs) some h = sym (run_next c x [] h)

-- a piece in two parts
pub run_parts : (c d : Chunking) (y : List ℕ) (n : ℕ) → d ≡ run c (take n y) → run d (drop n y) ≡ run c y
run_parts c d y n e = ap (λ s. run s (drop n y)) e ∙ sym (run_append c (take n y) (drop n y)) ∙ ap (run c) (take-append-drop n y)

not_zero : (m : ℕ) → (suc m == 0) ≡ false
not_zero m = grind (arith, nat_tests)

not_below : (m : ℕ) → nat_lt (suc m) 1 ≡ false
not_below m = grind (arith, nat_tests)

-- one byte of a chunk, behind which more come
pub data_more : (have more b : ℕ) → next have (Data (suc more)) b ≡ Data more
data_more have more b = ap (λ t. cond t DataReturn (Data (suc more - 1))) (not_zero more) ∙ ap Data (omega arith)

data_one : (more : ℕ) → cond (more == 0) DataReturn (Data (more - 1)) ≡ data_place more 1
data_one zero = refl
data_one (suc more) = ap (λ t. cond t DataReturn (Data (suc more - 1))) (not_zero more ∙ sym (not_below more))

shift_case : (more n : ℕ) (s t : Bool) → nat_lt more n ≡ s → nat_lt (suc more) (suc n) ≡ t → cond s DataReturn (Data (more - n)) ≡ cond t DataReturn (Data (suc more - suc n))
shift_case more n true true e f = refl
shift_case more n true false e f = absurd (grind (arith, nat_tests, e, f))
shift_case more n false true e f = absurd (grind (arith, nat_tests, e, f))
shift_case more n false false e f = ap Data (omega arith)

shift : (more n : ℕ) → data_place more n ≡ data_place (suc more) (suc n)
shift more n = shift_case more n (nat_lt more n) (nat_lt (suc more) (suc n)) refl refl

-- a run of bytes of a chunk
pub run_data : (more room : ℕ) (body y : List ℕ) → 0 < length y → length y ≤ more + 1 → length y ≤ room
    → run record { place = Data more; room = room; body = body } y ≡ record { place = data_place more (length y); room = room - length y; body = body ++ y }
unfolding run
run_data more room body [] some few fits = absurd (omega (arith, some))
run_data more room body (y ∷ []) some few fits =
    ap (λ p. record { place = p; room = room - 1; body = body ++ y ∷ [] }) (counted_in room (next (length body) (Data more) y) (omega (arith, fits)) ∙ data_one more)
run_data zero room body (y ∷ z ∷ ys) some few fits = absurd (omega (arith, few))
run_data (suc more) room body (y ∷ z ∷ ys) some few fits =
    ap (λ p. run record { place = p; room = room - 1; body = body ++ y ∷ [] } (z ∷ ys)) (counted_in room (next (length body) (Data (suc more)) y) (omega (arith, fits)) ∙ data_more (length body) more y)
    ∙ run_data more (room - 1) (body ++ y ∷ []) (z ∷ ys) (omega arith) (omega (arith, few)) (omega (arith, fits))
    ∙ ap (λ b. record { place = data_place more (length (z ∷ ys)); room = room - 1 - length (z ∷ ys); body = b }) (append_assoc body (y ∷ []) (z ∷ ys))
    ∙ ap (λ r. record { place = data_place more (length (z ∷ ys)); room = r; body = body ++ y ∷ z ∷ ys }) (omega arith)
    ∙ ap (λ p. record { place = p; room = room - length (y ∷ z ∷ ys); body = body ++ y ∷ z ∷ ys }) (shift more (length (z ∷ ys)))
