-- The parts of a text between its full stops.
use Rattle.std.proofs.Common.{◌≡◌, ◌<◌, ℕ, ◌+◌, List, [], ◌∷◌, ◌++◌, length, take, drop, None, refl, sym, ap, ◌∙◌, arith, append_assoc, length-append}
use Rattle.std.proofs.lemmas.List.{take_at}
use Rattle.std.specs.List.{position_or_len, slice_split, join_with_byte}
use Rattle.std.proofs.lemmas.List.Sums.{fails_before_first}
use Rattle.std.proofs.lemmas.List.Splits.{slice_split_none, slice_split_first, length-slice_split, join_with_byte-slice_split}
use Rattle.jws_form.specs.Compact.{stop}
use Rattle.jws_form.specs.Splitting.{is_stop, parts_of, three_of}

-- the first part ends at the first full stop
pub parts_of-cut : (x : List ℕ) (i : ℕ) → i < length x → position_or_len is_stop x ≡ i → parts_of x ≡ take i x ∷ parts_of (drop (i + 1) x)
unfolding parts_of
parts_of-cut x i within at = let lt : position_or_len is_stop x < length x = omega arith in slice_split_first is_stop x 0 lt ∙ ap (λ n. take n x ∷ slice_split is_stop (drop (n + 1) x)) at

-- without a full stop the text is one part
pub parts_of-uncut : (x : List ℕ) → position_or_len is_stop x ≡ length x → parts_of x ≡ x ∷ []
unfolding parts_of
parts_of-uncut x none = slice_split_none is_stop x (λ k e m. let n : k < position_or_len is_stop x = omega arith in fails_before_first is_stop x k e n)

four_parts : (a b c : List ℕ) (rest : List (List ℕ)) → 0 < length rest → three_of (a ∷ b ∷ c ∷ rest) ≡ None
four_parts a b c [] some = absurd (omega arith)
four_parts a b c (d ∷ rest) some = refl

-- a further full stop makes a fourth part
pub three_of_more : (a b c y : List ℕ) → three_of (a ∷ b ∷ c ∷ parts_of y) ≡ None
unfolding parts_of
three_of_more a b c y = four_parts a b c (slice_split is_stop y) (omega (arith, length-slice_split is_stop y))

-- three parts are joined by two full stops
pub joined_parts : (x a b c : List ℕ) → parts_of x ≡ a ∷ b ∷ c ∷ [] → x ≡ (a ++ stop ∷ b) ++ stop ∷ c
unfolding parts_of
joined_parts x a b c are = sym (join_with_byte-slice_split stop x) ∙ ap (join_with_byte stop) are ∙ sym (append_assoc a (stop ∷ b) (stop ∷ c))

-- the text of the first two parts, by their lengths
pub taken_parts : (x a b c : List ℕ) → x ≡ (a ++ stop ∷ b) ++ stop ∷ c → take (length a + 1 + length b) x ≡ a ++ stop ∷ b
taken_parts x a b c is = ap (take (length a + 1 + length b)) is ∙ take_at (a ++ stop ∷ b) (stop ∷ c) (length a + 1 + length b) (omega (arith, length-append a (stop ∷ b)))

-- the parts, a cut at a time
pub parts_cut_twice : (x a y b c : List ℕ) → parts_of x ≡ a ∷ parts_of y → parts_of y ≡ b ∷ parts_of c → parts_of x ≡ a ∷ b ∷ parts_of c
parts_cut_twice x a y b c first second = first ∙ ap (λ rest. a ∷ rest) second

pub not_three : (x a y b z c d : List ℕ) → parts_of x ≡ a ∷ parts_of y → parts_of y ≡ b ∷ parts_of z → parts_of z ≡ c ∷ parts_of d → None ≡ three_of (parts_of x)
not_three x a y b z c d first second third = sym (ap three_of (parts_cut_twice x a y b z first second ∙ ap (λ rest. a ∷ b ∷ rest) third) ∙ three_of_more a b c d)

pub are_three : (x a y b c : List ℕ) → parts_of x ≡ a ∷ parts_of y → parts_of y ≡ b ∷ parts_of c → parts_of c ≡ c ∷ [] → parts_of x ≡ a ∷ b ∷ c ∷ []
are_three x a y b c first second third = parts_cut_twice x a y b c first second ∙ ap (λ rest. a ∷ b ∷ rest) third
