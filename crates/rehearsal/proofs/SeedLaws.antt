-- Seeds, set one after the other.
use Rattle.std.proofs.Common.{◌≡◌, ◌<◌, ◌+◌, ℕ, zero, suc, List, [], ◌∷◌, ◌++◌, length, take, add-one, refl, sym, ap, ◌∙◌, arith}
use Rattle.std.specs.Prelude.{slice_set}
use Rattle.rehearsal.specs.Keys.{numbers_from}

set-next : (xs : List ℕ) (i v : ℕ) → i < length xs → take (suc i) (slice_set xs i v) ≡ take i xs ++ v ∷ []
set-next [] i v inside = absurd (omega (arith, inside))
set-next (x ∷ xs) zero v inside = refl
set-next (x ∷ xs) (suc i) v inside = ap (λ l. x ∷ l) (set-next xs i v (omega (arith, inside)))

-- one number more stands behind those that were set
pub set-more : (xs : List ℕ) (first i v : ℕ) → i < length xs → v ≡ first + i → take i xs ≡ numbers_from first i → take (i + 1) (slice_set xs i v) ≡ numbers_from first (i + 1)
unfolding numbers_from
set-more xs first i v inside is so_far =
    ap (λ n. take n (slice_set xs i v)) (add-one i) ∙ set-next xs i v inside ∙ ap (λ l. l ++ v ∷ []) so_far ∙ ap (λ w. numbers_from first i ++ w ∷ []) is ∙ ap (numbers_from first) (sym (add-one i))
