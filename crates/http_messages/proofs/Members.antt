-- The members of a list that commas part.
use Rattle.std.proofs.Common.{◌≡◌, ◌≤◌, ◌<◌, ◌||◌, ℕ, ◌+◌, Bool, true, false, List, [], ◌∷◌, length, take, drop, nat_lt, refl, sym, ap, ◌∙◌, subst, arith, take_all}
use Rattle.std.specs.List.{list_any, position_or_len}
use Rattle.std.proofs.lemmas.Bool.Decides.{nat_tests}
use Rattle.std.proofs.lemmas.List.Splits.{slice_split_first, slice_split_none}
use Rattle.std.proofs.lemmas.List.Sums.{fails_before_first}
use Rattle.http_messages.specs.Connections.{has_member, is_comma, is_word, members}

no_comma : (x : List ℕ) → length x ≤ position_or_len is_comma x → members x ≡ x ∷ []
no_comma x h = slice_split_none is_comma x (λ k d l. fails_before_first is_comma x k d (omega (arith, h, l)))

first_member : (x : List ℕ) (n : ℕ) → n ≡ position_or_len is_comma x → n < length x → members x ≡ take n x ∷ members (drop (n + 1) x)
first_member x n e h = slice_split_first is_comma x 0 (subst (λ k. k < length x) e h) ∙ ap (λ k. take k x ∷ members (drop (k + 1) x)) (sym e)

or_false : (b : Bool) → (b || false) ≡ b
or_false true = refl
or_false false = refl

-- the only member
only : (word x : List ℕ) (n : ℕ) → n ≡ position_or_len is_comma x → length x ≤ n → has_member word x ≡ is_word word (take n x)
only word x n e h =
    ap (list_any (is_word word)) (no_comma x (subst (λ k. length x ≤ k) e h)) ∙ or_false (is_word word x) ∙ ap (is_word word) (sym (take_all n x h))

first : (word x : List ℕ) (n : ℕ) → n ≡ position_or_len is_comma x → n < length x → has_member word x ≡ (is_word word (take n x) || has_member word (drop (n + 1) x))
first word x n e h = ap (list_any (is_word word)) (first_member x n e h)

-- where the first member isn't the word, it is one of those behind it
pub past : (word x : List ℕ) (n : ℕ) → n ≡ position_or_len is_comma x → is_word word (take n x) ≡ false → n < length x → has_member word (drop (n + 1) x) ≡ has_member word x
past word x n e other h = sym (first word x n e h ∙ ap (λ b. b || has_member word (drop (n + 1) x)) other)

pub none_past : (word x : List ℕ) (n : ℕ) → n ≡ position_or_len is_comma x → is_word word (take n x) ≡ false → length x ≤ n → false ≡ has_member word x
none_past word x n e other h = sym (only word x n e h ∙ other)

either : (word x : List ℕ) (n : ℕ) (t : Bool) → nat_lt n (length x) ≡ t → n ≡ position_or_len is_comma x → is_word word (take n x) ≡ true → true ≡ has_member word x
either word x n true l e is = sym (first word x n e (grind (arith, nat_tests, l)) ∙ ap (λ b. b || has_member word (drop (n + 1) x)) is)
either word x n false l e is = sym (only word x n e (grind (arith, nat_tests, l)) ∙ is)

-- where it is, the list has it
pub is_first : (word x : List ℕ) (n : ℕ) → n ≡ position_or_len is_comma x → is_word word (take n x) ≡ true → true ≡ has_member word x
is_first word x n e is = either word x n (nat_lt n (length x)) refl e is
