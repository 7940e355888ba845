-- Lists as sets, by tests.
use Rattle.std.proofs.Common.{◌≡◌, List, [], ◌∷◌, ◌++◌, Bool, true, false, not, cond, filter, refl, ◌∙◌}
use Rattle.std.specs.Bool.{Decides}
use Rattle.std.specs.List.{All, Contains, list_all}
use Rattle.std.proofs.lemmas.List.Folds.{list_all-append}
use Rattle.std.proofs.lemmas.Bool.Decides.{Decides-by_and, same_from_decides}
use Rattle.fed_json.specs.declared.tree.Json.{Json}
use Rattle.fed_json.specs.Sets.{same, is_among, are_among, once, union_of, intersection_of}
use Rattle.fed_json.proofs.Booleans.{left_true, right_true, both_true}
use Rattle.fed_json.proofs.Onces.{is_among-Decides}
use Rattle.fed_json.proofs.Sames.{same-Decides}

pub are_among-Decides : (list part : List Json) → Decides (are_among list part) (All (Contains list) part)
are_among-Decides list part = Decides-by_and (is_among list) (Contains list) (are_among list) (is_among-Decides list) refl (λ _ _. refl) part

-- what two tests of one fact answer
pub among_from_contains : (list : List Json) (tree : Json) (r : Bool) → Decides r (Contains list tree) → r ≡ is_among list tree
among_from_contains list tree r d = same_from_decides r _ d (is_among-Decides list tree)

pub among_from_all : (list part : List Json) (r : Bool) → Decides r (All (Contains list) part) → r ≡ are_among list part
among_from_all list part r d = same_from_decides r _ d (are_among-Decides list part)

pub same_from_equal : (a b : Json) (r : Bool) → Decides r (a ≡ b) → r ≡ same a b
same_from_equal a b r d = same_from_decides r _ d (same-Decides a b)

-- ---- what all values of a list pass

list_all-filter : (p q : Json → Bool) (xs : List Json) → list_all p xs ≡ true → list_all p (filter q xs) ≡ true
list_all-filter p q [] all = refl
list_all-filter p q (x ∷ xs) all = by (q x) (list_all-filter p q xs (right_true (p x) _ all))
  where
    by : (b : Bool) → list_all p (filter q xs) ≡ true → list_all p (cond b (x ∷ filter q xs) (filter q xs)) ≡ true
    by true rest = both_true (left_true (p x) _ all) rest
    by false rest = rest

list_all-once : (p : Json → Bool) (xs : List Json) → list_all p xs ≡ true → list_all p (once xs) ≡ true
list_all-once p [] all = refl
list_all-once p (x ∷ xs) all = both_true (left_true (p x) _ all) (list_all-filter p (λ y. not (same y x)) (once xs) (list_all-once p xs (right_true (p x) _ all)))

pub all-union : (p : Json → Bool) (xs ys : List Json) → list_all p xs ≡ true → list_all p ys ≡ true → list_all p (union_of xs ys) ≡ true
all-union p xs ys all_xs all_ys = list_all-once p (xs ++ ys) (list_all-append p xs ys ∙ both_true all_xs all_ys)

pub all-intersection : (p : Json → Bool) (xs ys : List Json) → list_all p xs ≡ true → list_all p (intersection_of xs ys) ≡ true
all-intersection p xs ys all_xs = list_all-once p (filter (is_among ys) xs) (list_all-filter p (is_among ys) xs all_xs)
