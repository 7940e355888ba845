-- Lists of which some items are another list's, in their order; and what a filter leaves of mapped lists.
use Rattle.std.proofs.Common.{◌≡◌, ◌<◌, ◌≤◌, ◌⊎◌, ℕ, zero, suc, List, [], ◌∷◌, ◌++◌, length, get_or, map, drop, filter_map, Bool, true, false, Option, Some, None, refl, sym, ap, ◌∙◌, subst, inl, inr, ⊎_elim, arith}
use Rattle.std.specs.Prelude.{AllPairs, slice_get}
use Rattle.std.specs.List.{cons_option}
use Rattle.turn_log.specs.Places.{IsIn, Rising}
use Rattle.chain_climb.specs.Elements.{Among}

pub by-bool : {P : Type 0} (b : Bool) → (b ≡ true → P) → (b ≡ false → P) → P
by-bool true holds fails = holds refl
by-bool false holds fails = fails refl

-- ---- filters

module _ {X Y : Type 0} (f : X → Option Y) where
  pub keeps-first : (x : X) (y : Y) (xs : List X) → f x ≡ Some y → filter_map f (x ∷ xs) ≡ y ∷ filter_map f xs
  keeps-first x y xs is = ap (λ o. cons_option o (filter_map f xs)) is

  pub drops-first : (x : X) (xs : List X) → f x ≡ None → filter_map f (x ∷ xs) ≡ filter_map f xs
  drops-first x xs is = ap (λ o. cons_option o (filter_map f xs)) is

  pub keeps-none : (xs : List X) → ((x : X) → Among x xs → f x ≡ None) → filter_map f xs ≡ []
  keeps-none [] none = refl
  keeps-none (x ∷ xs) none = drops-first x xs (none x (inl refl)) ∙ keeps-none xs (λ y among. none y (inr among))

  pub keeps-all : (g : Y → X) → ((y : Y) → f (g y) ≡ Some y) → (ys : List Y) → filter_map f (map g ys) ≡ ys
  keeps-all g gives [] = refl
  keeps-all g gives (y ∷ ys) = keeps-first (g y) y (map g ys) (gives y) ∙ ap (λ l. y ∷ l) (keeps-all g gives ys)

module _ {X Y Z : Type 0} (f : X → Option Y) (g : Z → X) where
  pub keeps-no-map : ((z : Z) → f (g z) ≡ None) → (zs : List Z) → filter_map f (map g zs) ≡ []
  keeps-no-map none [] = refl
  keeps-no-map none (z ∷ zs) = drops-first f (g z) (map g zs) (none z) ∙ keeps-no-map none zs

  pub keeps-map : (k : Z → Y) → ((z : Z) → f (g z) ≡ Some (k z)) → (zs : List Z) → filter_map f (map g zs) ≡ map k zs
  keeps-map k gives [] = refl
  keeps-map k gives (z ∷ zs) = keeps-first f (g z) (k z) (map g zs) (gives z) ∙ ap (λ l. k z ∷ l) (keeps-map k gives zs)

-- ---- places that rise

at-place : (xs : List ℕ) (p d : ℕ) → IsIn p xs → (k : ℕ) × (k < length xs) × (get_or xs k d ≡ p)
at-place [] p d h = absurd h
at-place (x ∷ xs) p d h = ⊎_elim (λ e. (0, omega arith, sym e)) (λ t. let f = at-place xs p d t in let l = f.1 in (suc f.0, omega (arith, l), f.2)) h

pub rise : (xs : List ℕ) → AllPairs ◌<◌ xs → Rising xs
rise [] h = tt
rise (x ∷ xs) h = (
  (λ p k. let f = at-place xs p 0 k in let l = f.1 in subst (λ (q : ℕ). x < q) f.2 (h 0 (suc f.0) 0 (omega arith) (omega (arith, l)))),
  rise xs (λ i j d less in_list. h (suc i) (suc j) d (omega (arith, less)) (omega (arith, in_list))),
)

pub rise-later : (xs ys : List ℕ) → Rising (xs ++ ys) → Rising ys
rise-later [] ys rising = rising
rise-later (x ∷ xs) ys rising = rise-later xs ys rising.1

-- ---- the items of a list that stand at such places

module _ {X : Type 0} where
  -- these items stand in the list, in their order
  abbrev pub Embeds : List X → List X → Type 0
  Embeds [] whole = Unit {0}
  Embeds (x ∷ xs) whole = (front : List X) × (rest : List X) × (whole ≡ front ++ x ∷ rest) × Embeds xs rest

  pub none-there : {P : Type 0} (x : X) → None ≡ Some x → P
  none-there x is = absurd (cc is)

  -- what stands behind a place begins so up to an item at a later one
  cut-at : (whole : List X) (n p : ℕ) (x : X) → n ≤ p → slice_get whole p ≡ Some x → (front : List X) × (drop n whole ≡ front ++ x ∷ drop (suc p) whole)
  cut-at [] n p x low there = none-there x there
  cut-at (y ∷ whole) zero zero x low there = let same : y ≡ x = cc there in ([], ap (λ z. z ∷ whole) same)
  cut-at (y ∷ whole) zero (suc p) x low there = let later = cut-at whole zero p x (omega arith) there in (y ∷ later.0, ap (λ l. y ∷ l) later.1)
  cut-at (y ∷ whole) (suc n) zero x low there = absurd (omega (arith, low))
  cut-at (y ∷ whole) (suc n) (suc p) x low there = cut-at whole n p x (omega (arith, low)) there

  embeds-from : (whole : List X) (n : ℕ) (places : List ℕ) (xs : List X) → Rising places → ((p : ℕ) → IsIn p places → n ≤ p) → map (slice_get whole) places ≡ map Some xs
      → Embeds xs (drop n whole)
  embeds-from whole n [] [] rising low are = tt
  embeds-from whole n [] (x ∷ xs) rising low are = absurd (cc are)
  embeds-from whole n (p ∷ places) [] rising low are = absurd (cc are)
  embeds-from whole n (p ∷ places) (x ∷ xs) rising low are =
      let head : slice_get whole p ≡ Some x = cc are in
      let tail : map (slice_get whole) places ≡ map Some xs = cc are in
      let at = cut-at whole n p x (low p (inl refl)) head in
      (at.0, drop (suc p) whole, at.1, embeds-from whole (suc p) places xs rising.1 (λ q k. let later = rising.0 q k in omega (arith, later)) tail)

  -- what stands at rising places stands in the list
  pub embeds : (whole : List X) (places : List ℕ) (xs : List X) → Rising places → map (slice_get whole) places ≡ map Some xs → Embeds xs whole
  embeds whole places xs rising are = embeds-from whole 0 places xs rising (λ p k. omega arith) are
