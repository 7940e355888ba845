-- What stands in by a margin.
use Rattle.std.proofs.Common.{◌≡◌, ℕ, List, [], ◌∷◌, ◌++◌, Bool, true, false, nat_eq, cond, refl, ap₂, ◌∙◌}
use Rattle.std.proofs.lemmas.Grind.{flat_map-append}
use Rattle.cli_show.specs.Indented.{inset, inset_by, inset_byte, level}

-- what stands in by a margin, one behind another
pub inset-append : (m xs ys : List ℕ) → inset_by m (xs ++ ys) ≡ inset_by m xs ++ inset_by m ys
inset-append m xs ys = flat_map-append (inset_byte m) xs ys

same : (b : Bool) (xs : List ℕ) → cond b xs xs ≡ xs
same true xs = refl
same false xs = refl

-- by no margin
pub inset-none : (xs : List ℕ) → inset_by [] xs ≡ xs
inset-none [] = refl
inset-none (x ∷ xs) = ap₂ (λ a b. x ∷ (a ++ b)) (same (nat_eq x 10) []) (inset-none xs)

further : (b : Bool) (m : List ℕ) → cond b m [] ++ inset_by m (cond b level []) ≡ cond b (m ++ level) []
further true m = refl
further false m = refl

-- a level further in
pub inset-deeper : (m xs : List ℕ) → inset_by m (inset xs) ≡ inset_by (m ++ level) xs
inset-deeper m [] = refl
inset-deeper m (x ∷ xs) =
    inset-append m (inset_byte level x) (inset xs) ∙ ap₂ (λ a b. (x ∷ a) ++ b) (further (nat_eq x 10) m) (inset-deeper m xs)

-- a byte that is no line end stands in by nothing
abbrev pub Stays : ℕ → Type 0
Stays b = (m rest : List ℕ) → inset_by m (b ∷ rest) ≡ b ∷ inset_by m rest
