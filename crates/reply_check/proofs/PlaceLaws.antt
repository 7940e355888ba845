-- A fact of the elements of a list, place by place.
use Rattle.std.proofs.Common.{◌≡◌, ◌<◌, ◌≤◌, ℕ, List, length, get_or, Some, refl, sym, ◌∙◌, subst, arith}
use Rattle.std.specs.Prelude.{slice_get}
use Rattle.std.proofs.lemmas.Option.{slice_get_read}
use Rattle.fed_base.specs.Places.{HoldsBelow}

-- the element at a place is the one that is read there
pub there-at : {X : Type 0} (xs : List X) (i : ℕ) (x : X) → i < length xs → x ≡ get_or xs i x → slice_get xs i ≡ Some x
there-at xs i x less is = slice_get_read xs (length xs) i x refl less is

same-at : {X : Type 0} (xs : List X) (i : ℕ) (x y : X) → i < length xs → x ≡ get_or xs i x → slice_get xs i ≡ Some y → x ≡ y
same-at xs i x y less is there = let both = sym (there-at xs i x less is) ∙ there in cc both

-- a fact of the element at a place is one of each that stands there
pub at-place : {X : Type 0} (P : X → Type 0) (xs : List X) (i : ℕ) (x : X) → i < length xs → x ≡ get_or xs i x → P x → (y : X) → slice_get xs i ≡ Some y → P y
at-place P xs i x less is holds = λ y there. subst P (same-at xs i x y less is there) holds

-- up to the end
pub holds-all : (P : ℕ → Type 0) (i n : ℕ) → HoldsBelow P i → n ≤ i → HoldsBelow P n
holds-all P i n before past = λ j within. before j (omega (arith, within, past))
