-- UTF-8 as a test, beside what `from_utf8` answers.
use Rattle.std.proofs.Common.{◌≡◌, ℕ, List, Bool, true, false, Result, Ok, Err, is_ok, MatchResult, sym, refl, ◌∷◌, not, nat_cmp, Ordering, Less, Equal, Greater}
use Rattle.std.specs.Cmp.Lexicographic.{slice_partial_cmp}
use Rattle.std.specs.Ordering.{is_some_and, is_ge, as_partial_cmp, MatchOrdering}
use Rattle.std.proofs.lemmas.Cmp.{same_from_slice_cmp_tested}
use Rattle.fed_json.specs.Forms.{is_before}
use Rattle.std.specs.Str.{IsUtf8, is_utf8}
use Rattle.std.proofs.lemmas.Str.{is_utf8-from_IsUtf8, IsUtf8-from_is_utf8}

not_text : (bytes : List ℕ) (b : Bool) → is_utf8 bytes ≡ b → ¬ IsUtf8 bytes → is_utf8 bytes ≡ false
not_text bytes true e no_text = absurd (no_text (IsUtf8-from_is_utf8 bytes e))
not_text bytes false e no_text = e

pub is_ok-from_utf8 : {A E : Type 0} (P : A → Type 0) (Q : E → Type 0) (bytes : List ℕ) (r : Result A E)
    → MatchResult r (λ x. P x × IsUtf8 bytes) (λ e. ¬ IsUtf8 bytes × Q e) → is_ok r ≡ is_utf8 bytes
is_ok-from_utf8 P Q bytes (Ok x) is = sym (is_utf8-from_IsUtf8 bytes is.1)
is_ok-from_utf8 P Q bytes (Err e) is = sym (not_text bytes _ refl is.0)

-- `a >= b` of two texts
pub ge_decides : (a b : List ℕ) (r : Bool) → r ≡ is_some_and is_ge (slice_partial_cmp (as_partial_cmp nat_cmp) a b) → r ≡ not (is_before a b)
ge_decides = same_from_slice_cmp_tested nat_cmp is_ge (λ a b. not (is_before a b)) refl (λ y ys. refl) (λ x xs. refl) more
  where
    more : (x y : ℕ) (xs ys : List ℕ) (o : Ordering) → o ≡ nat_cmp x y
        → MatchOrdering o (not (is_before (x ∷ xs) (y ∷ ys)) ≡ false) (not (is_before (x ∷ xs) (y ∷ ys)) ≡ not (is_before xs ys)) (not (is_before (x ∷ xs) (y ∷ ys)) ≡ true)
    more x y xs ys Less e = rw (sym e) refl
    more x y xs ys Equal e = rw (sym e) refl
    more x y xs ys Greater e = rw (sym e) refl
