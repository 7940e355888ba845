-- A pass that is alone has seen its own calls, and no others.
use Rattle.std.proofs.Common.{◌≡◌, ◌≤◌, ◌<◌, ℕ, zero, suc, List, [], ◌∷◌, ◌++◌, length, map, Some, refl, sym, ap, ap₂, ◌∙◌, arith}
use Rattle.std.specs.Prelude.{slice_get, take}
use Rattle.std.proofs.lemmas.List.{map-append}
use Rattle.turn_log.specs.Passes.{unused}
use Rattle.turn_log.specs.Places.{places_below}
use Rattle.turn_log.specs.Runs.{Account, Adds}

module _ {X : Type 0} where
  stands : (xs : List X) (n : ℕ) → n < length xs → (x : X) × (slice_get xs n ≡ Some x) × (take (suc n) xs ≡ take n xs ++ x ∷ [])
  stands [] n less = absurd (omega (arith, less))
  stands (x ∷ xs) zero less = (x, refl, refl)
  stands (x ∷ xs) (suc n) less = let rest = stands xs n (omega (arith, less)) in (rest.0, rest.1, ap (λ l. x ∷ l) rest.2)

  -- what stands at the first places
  firsts : (xs : List X) (n : ℕ) → n ≤ length xs → map (slice_get xs) (places_below n) ≡ map Some (take n xs)
  firsts xs zero low = refl
  firsts xs (suc n) low =
      let here = stands xs n (omega (arith, low)) in
      map-append (slice_get xs) (places_below n) (n ∷ [])
      ∙ ap₂ (λ a b. a ++ b) (firsts xs n (omega (arith, low))) (ap (λ o. o ∷ []) here.1)
      ∙ sym (map-append Some (take n xs) (here.0 ∷ []))
      ∙ ap (map Some) (sym here.2)

  whole : (xs : List X) → take (length xs) xs ≡ xs
  whole [] = refl
  whole (x ∷ xs) = ap (λ l. x ∷ l) (whole xs)

  same-items : (xs ys : List X) → map Some xs ≡ map Some ys → xs ≡ ys
  same-items [] [] same = refl
  same-items [] (y ∷ ys) same = cc same
  same-items (x ∷ xs) [] same = cc same
  same-items (x ∷ xs) (y ∷ ys) same =
      let head : x ≡ y = cc same in
      let rest : map Some xs ≡ map Some ys = cc same in
      ap₂ (λ a b. a ∷ b) head (same-items xs ys rest)

pub own-seen : {C R : Type 0} (old new : Account C R) (calls : List (C × R)) → old ≡ unused → Adds old new calls → new.mine ≡ places_below (length new.seen) → new.seen ≡ calls
own-seen {C} {R} old new calls none adds all =
    let places : adds.places ≡ places_below (length new.seen) = sym (adds.mine ∙ ap (λ (a : Account C R). a.mine ++ adds.places) none) ∙ all in
    same-items new.seen calls
    (sym (firsts new.seen (length new.seen) (omega arith) ∙ ap (map Some) (whole new.seen)) ∙ ap (map (slice_get new.seen)) (sym places) ∙ adds.are)
