-- The first answer that items give, and what stands unless there is one.
use Rattle.std.proofs.Common.{◌≡◌, ◌<◌, ◌+◌, ℕ, List, [], ◌∷◌, ◌++◌, Option, Some, None, Ok, Err, drop, length, get_or, refl, sym, ap, ◌∙◌}
use Rattle.std.specs.Option.{option_map_or}
use Rattle.std.proofs.lemmas.List.{drop_more}
use Rattle.fed_base.specs.Answers.{unless}
use Rattle.fed_json.specs.Tables.{first}

module _ {X Y : Type 0} (answer : X → Option Y) where
  -- an item that gives no answer is passed over
  pub first_more : (xs : List X) (i : ℕ) (x : X) → i < length xs → x ≡ get_or xs i x → answer x ≡ None → first answer (drop i xs) ≡ first answer (drop (i + 1) xs)
  first_more xs i x lt is none =
      ap (first answer) (drop_more xs i x lt ∙ ap (λ y. y ∷ drop (i + 1) xs) (sym is)) ∙ ap (λ o. option_map_or Some o (first answer (drop (i + 1) xs))) none

  -- an item that gives one ends the search
  pub first_found : (xs : List X) (i : ℕ) (x : X) (y : Y) → i < length xs → x ≡ get_or xs i x → answer x ≡ Some y → first answer (drop i xs) ≡ Some y
  first_found xs i x y lt is some =
      ap (first answer) (drop_more xs i x lt ∙ ap (λ y. y ∷ drop (i + 1) xs) (sym is)) ∙ ap (λ o. option_map_or Some o (first answer (drop (i + 1) xs))) some

  pub first-append : (xs ys : List X) → first answer xs ≡ None → first answer (xs ++ ys) ≡ first answer ys
  first-append [] ys none = refl
  first-append (x ∷ xs) ys none = by (answer x) none (first-append xs ys)
    where
      by : (o : Option Y) → option_map_or Some o (first answer xs) ≡ None → (first answer xs ≡ None → first answer (xs ++ ys) ≡ first answer ys)
          → option_map_or Some o (first answer (xs ++ ys)) ≡ first answer ys
      by None none later = later none
      by (Some y) none later = absurd (cc)

  pub first-append_none : (xs : List X) (x : X) → first answer xs ≡ None → answer x ≡ None → first answer (xs ++ x ∷ []) ≡ None
  first-append_none xs x none here = first-append xs (x ∷ []) none ∙ ap (λ o. option_map_or Some o None) here

-- what `unless` answers
pub unless_ok : {T E : Type 0} (o : Option E) (value got : T) → unless o value ≡ Ok got → (o ≡ None) × (value ≡ got)
unless_ok None value got e = (refl, (cc))
unless_ok (Some f) value got e = absurd (cc)

pub unless_err : {T E : Type 0} (o : Option E) (value : T) (f : E) → unless o value ≡ Err f → o ≡ Some f
unless_err None value f e = absurd (cc)
unless_err (Some g) value f e = (cc)

pub unless_none : {T E : Type 0} (o : Option E) (value : T) → o ≡ None → unless o value ≡ Ok value
unless_none o value e = ap (λ p. unless p value) e

pub unless_some : {T E : Type 0} (o : Option E) (value : T) (f : E) → o ≡ Some f → unless o value ≡ Err f
unless_some o value f e = ap (λ p. unless p value) e
