-- The first of a list of which something is true.
use Rattle.std.proofs.Common.{◌≡◌, ◌<◌, ◌+◌, ℕ, List, ◌∷◌, ◌++◌, length, get_or, take, drop, drop-cons, ap₂, suc, nat_lt, cond, Bool, true, false, Some, None, sym, ap, ◌∙◌, arith}
use Rattle.std.specs.List.{All, position, position_or_len}
use Rattle.std.proofs.lemmas.List.{take-append-drop, get_or-take, length-take}
use Rattle.std.proofs.lemmas.List.Quantifiers.{position-Some}
use Rattle.std.proofs.lemmas.List.Sums.{fails_before_first}
use Rattle.waiting_callers.specs.Waiters.{IsTaken}

past : (n len k : ℕ) → cond (nat_lt n len) (Some n) None ≡ None → k < len → k < n
past n len k none below = grind arith

-- where no place is found, it is true of none
pub none_due : {A : Type 0} (p : A → Bool) (xs : List A) → position p xs ≡ None → All (λ x. p x ≡ false) xs
none_due p xs none k d below = fails_before_first p xs k d (past (position_or_len p xs) (length xs) k none below)

within : {A : Type 0} (xs : List A) (i k : ℕ) → k < length (take i xs) → k < i
within xs i k below = omega (arith, length-take i xs, below)

next_is : (i : ℕ) → suc i ≡ i + 1
next_is i = omega arith

-- the one at the place that is found is the first, and taking it away leaves those before it and those behind it
pub taken_at : {A : Type 0} (p : A → Bool) (xs : List A) (i : ℕ) (x : A) (new : List A) → position p xs ≡ Some i → x ≡ get_or xs i x → new ≡ take i xs ++ drop (i + 1) xs → IsTaken p xs x new
taken_at p xs i x new found is left =
    let at = position-Some p xs i x found in
    record {
      front = take i xs;
      back = drop (i + 1) xs;
      was = sym (take-append-drop i xs) ∙ ap (λ rest. take i xs ++ rest) (drop-cons xs i x at.0 ∙ ap₂ (λ y rest. y ∷ rest) (sym is) (ap (λ n. drop n xs) (next_is i)));
      stay = left;
      due = ap p is ∙ at.1;
      first = λ k d below. ap p (get_or-take i xs k d (within xs i k below)) ∙ (position-Some p xs i d found).2 k (within xs i k below);
    }

-- the same of a list that is seen as another
pub taken_of : {A : Type 0} (p : A → Bool) (xs ys : List A) (i : ℕ) (x : A) (new : List A) → xs ≡ ys → position p xs ≡ Some i → x ≡ get_or ys i x → new ≡ take i ys ++ drop (i + 1) ys → IsTaken p xs x new
taken_of p xs ys i x new same found is left =
    taken_at p xs i x new found (is ∙ ap (λ l. get_or l i x) (sym same)) (left ∙ ap (λ l. take i l ++ drop (i + 1) l) (sym same))
