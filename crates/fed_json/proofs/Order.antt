-- The byte order of names.
use Rattle.std.proofs.Common.{◌≡◌, List, [], ◌∷◌, Bool, true, false, true≢false, refl, sym, ap, ◌∙◌, Less, Equal, Greater, nat_cmp, bytes_eq}
use Rattle.std.specs.Ordering.{is_lt, is_eq, ordering_reverse}
use Rattle.std.specs.List.{list_all}
use Rattle.std.specs.Cmp.Lexicographic.{slice_cmp}
use Rattle.std.proofs.lemmas.Cmp.{nat_list_cmp_total, tied_itself}
use Rattle.std.proofs.lemmas.Map.Text.{is_eq-slice_cmp}
use Rattle.std.proofs.lemmas.Slice.Eq.{bytes_eq-Decides}
use Rattle.fed_json.specs.Forms.{is_before, rising}
use Rattle.fed_json.specs.Tables.{Name}
use Rattle.fed_json.proofs.Booleans.{left_true, right_true, both_true}
use Rattle.fed_json.proofs.Names.{less, is_before-trans}

-- what `cmp` answers where the first name stands before the second
pub cmp-before : (a b : Name) → is_before a b ≡ true → slice_cmp nat_cmp a b ≡ Less
cmp-before a b e = less _ e

pub cmp-behind : (a b : Name) → is_before b a ≡ true → slice_cmp nat_cmp a b ≡ Greater
cmp-behind a b e = nat_list_cmp_total.antisymm a b ∙ ap ordering_reverse (less _ e)

pub cmp-itself : (a : Name) → slice_cmp nat_cmp a a ≡ Equal
cmp-itself a = tied_itself nat_list_cmp_total a

pub before-cmp_less : (a b : Name) → slice_cmp nat_cmp a b ≡ Less → is_before a b ≡ true
before-cmp_less a b e = ap is_lt e

pub before-cmp_greater : (a b : Name) → slice_cmp nat_cmp a b ≡ Greater → is_before b a ≡ true
before-cmp_greater a b e = ap is_lt (nat_list_cmp_total.antisymm b a ∙ ap ordering_reverse e)

-- of two names of which one stands before the other neither is the other
pub other_before : (a b : Name) → is_before a b ≡ true → bytes_eq a b ≡ false
other_before a b e = sym (is_eq-slice_cmp a b) ∙ ap is_eq (cmp-before a b e)

pub other_behind : (a b : Name) → is_before b a ≡ true → bytes_eq a b ≡ false
other_behind a b e = sym (is_eq-slice_cmp a b) ∙ ap is_eq (cmp-behind a b e)

pub bytes_eq-itself : (a : Name) → bytes_eq a a ≡ true
bytes_eq-itself a = sym (is_eq-slice_cmp a a) ∙ ap is_eq (cmp-itself a)

pub equal-bytes_eq : (a b : Name) → bytes_eq a b ≡ true → a ≡ b
equal-bytes_eq a b e = (bytes_eq-Decides a b).0 e

-- the test answers the same of the two the other way round
pub bytes_eq-back : (b : Bool) (m n : Name) → bytes_eq m n ≡ b → bytes_eq n m ≡ b
bytes_eq-back true m n e = ap (λ x. bytes_eq n x) (equal-bytes_eq m n e) ∙ bytes_eq-itself n
bytes_eq-back false m n e = by (bytes_eq n m) refl
  where
    by : (c : Bool) → bytes_eq n m ≡ c → bytes_eq n m ≡ false
    by true is = absurd (true≢false (sym (ap (bytes_eq m) (equal-bytes_eq n m is) ∙ bytes_eq-itself m) ∙ e))
    by false is = is

pub equal-cmp : (a b : Name) → slice_cmp nat_cmp a b ≡ Equal → a ≡ b
equal-cmp a b e = equal-bytes_eq a b (sym (is_eq-slice_cmp a b) ∙ ap is_eq e)

-- what stands behind a name stands behind each name before that
pub all_behind : (a b : Name) (names : List Name) → is_before a b ≡ true → list_all (is_before b) names ≡ true → list_all (is_before a) names ≡ true
all_behind a b [] e all = refl
all_behind a b (n ∷ names) e all =
    both_true (is_before-trans a b n e (left_true (is_before b n) _ all)) (all_behind a b names e (right_true (is_before b n) _ all))

-- the first of names that rise stands before the others
pub first_before : (a : Name) (names : List Name) → rising (a ∷ names) ≡ true → list_all (is_before a) names ≡ true
first_before a [] rise = refl
first_before a (b ∷ names) rise =
    let e = left_true (is_before a b) _ rise in
    both_true e (all_behind a b names e (first_before b names (right_true (is_before a b) _ rise)))

pub rising-cons : (a : Name) (names : List Name) → list_all (is_before a) names ≡ true → rising names ≡ true → rising (a ∷ names) ≡ true
rising-cons a [] all rise = refl
rising-cons a (b ∷ names) all rise = both_true (left_true (is_before a b) _ all) rise
