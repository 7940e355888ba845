-- Lists as sets, by what is among them.
use Rattle.std.proofs.Common.{◌≡◌, inl, inr, List, [], ◌∷◌, ◌++◌, Bool, true, false, ◌||◌, not, cond, filter, refl, sym, ap, ◌∙◌, append_assoc, append-nil}
use Rattle.std.specs.List.{list_all, list_any}
use Rattle.std.proofs.lemmas.List.Folds.{list_any-append}
use Rattle.fed_json.specs.declared.tree.Json.{Json}
use Rattle.fed_json.specs.Sets.{same, is_among, once, union_of, intersection_of}
use Rattle.fed_json.proofs.Sames.{same-Decides}
use Rattle.fed_json.proofs.Onces.{is_among-Decides, once-push, Contains-union_of, Contains-intersection_of}
use Rattle.fed_json.specs.Sets.{are_among}
use Rattle.fed_json.proofs.Booleans.{left_true, right_true, both_true}

-- each value of the first is in the second
abbrev pub Within : List Json → List Json → Type 0
Within part list = (x : Json) → is_among part x ≡ true → is_among list x ≡ true

same_itself : (x : Json) → same x x ≡ true
same_itself x = (same-Decides x x).1 refl

or_left : (a b : Bool) → a ≡ true → (a || b) ≡ true
or_left a b e = ap (λ a. a || b) e

or_right : (a b : Bool) → b ≡ true → (a || b) ≡ true
or_right true b e = refl
or_right false b e = e

pub within-all : (list part : List Json) → Within part list → are_among list part ≡ true
within-all list [] within = refl
within-all list (x ∷ part) within =
    both_true (within x (or_left (same x x) (is_among part x) (same_itself x))) (within-all list part (λ y e. within y (or_right (same y x) (is_among part y) e)))

pub all-within : (list part : List Json) → are_among list part ≡ true → Within part list
all-within list [] all y e = absurd (cc)
all-within list (x ∷ part) all y e = by (same y x) refl e (all-within list part (right_true (is_among list x) _ all) y)
  where
    by : (b : Bool) → same y x ≡ b → (b || is_among part y) ≡ true → (is_among part y ≡ true → is_among list y ≡ true) → is_among list y ≡ true
    by true is e later = ap (is_among list) ((same-Decides y x).0 is) ∙ left_true (is_among list x) _ all
    by false is e later = later e

pub within-trans : (a b c : List Json) → Within a b → Within b c → Within a c
within-trans a b c f g x e = g x (f x e)

-- ---- unions

pub left-union : (a b : List Json) → Within a (union_of a b)
left-union a b x e = (is_among-Decides (union_of a b) x).1 ((Contains-union_of a b x).1 (inl ((is_among-Decides a x).0 e)))

pub right-union : (a b : List Json) → Within b (union_of a b)
right-union a b x e = (is_among-Decides (union_of a b) x).1 ((Contains-union_of a b x).1 (inr ((is_among-Decides b x).0 e)))

pub union-within : (a b c : List Json) → Within a c → Within b c → Within (union_of a b) c
union-within a b c f g x e = elim ((Contains-union_of a b x).0 ((is_among-Decides (union_of a b) x).0 e)) [
  | inl l ↦ f x ((is_among-Decides a x).1 l)
  | inr r ↦ g x ((is_among-Decides b x).1 r)
]

-- ---- intersections

pub intersection-left : (a b : List Json) → Within (intersection_of a b) a
intersection-left a b x e = (is_among-Decides a x).1 ((Contains-intersection_of a b x).0 ((is_among-Decides (intersection_of a b) x).0 e)).0

pub intersection-right : (a b : List Json) → Within (intersection_of a b) b
intersection-right a b x e = (is_among-Decides b x).1 ((Contains-intersection_of a b x).0 ((is_among-Decides (intersection_of a b) x).0 e)).1

pub within-intersection : (a b c : List Json) → Within c a → Within c b → Within c (intersection_of a b)
within-intersection a b c f g x e =
    (is_among-Decides (intersection_of a b) x).1 ((Contains-intersection_of a b x).1 ((is_among-Decides a x).0 (f x e), (is_among-Decides b x).0 (g x e)))

-- ---- each once, again

filter_swap : (p q : Json → Bool) (xs : List Json) → filter p (filter q xs) ≡ filter q (filter p xs)
filter_swap p q [] = refl
filter_swap p q (x ∷ xs) = by (p x) (q x) refl refl (filter_swap p q xs)
  where
    by : (a b : Bool) → p x ≡ a → q x ≡ b → filter p (filter q xs) ≡ filter q (filter p xs)
        → filter p (cond b (x ∷ filter q xs) (filter q xs)) ≡ filter q (cond a (x ∷ filter p xs) (filter p xs))
    by true true a b rest = ap (λ c. cond c (x ∷ filter p (filter q xs)) (filter p (filter q xs))) a ∙ ap (λ ys. x ∷ ys) rest ∙ sym (ap (λ c. cond c (x ∷ filter q (filter p xs)) (filter q (filter p xs))) b)
    by true false a b rest = rest ∙ sym (ap (λ c. cond c (x ∷ filter q (filter p xs)) (filter q (filter p xs))) b)
    by false true a b rest = ap (λ c. cond c (x ∷ filter p (filter q xs)) (filter p (filter q xs))) a ∙ rest
    by false false a b rest = rest

filter_same : (p : Json → Bool) (xs : List Json) → list_all p xs ≡ true → filter p xs ≡ xs
filter_same p [] all = refl
filter_same p (x ∷ xs) all = ap (λ b. cond b (x ∷ filter p xs) (filter p xs)) (left_true (p x) _ all) ∙ ap (λ ys. x ∷ ys) (filter_same p xs (right_true (p x) _ all))

filter_passed : (p : Json → Bool) (xs : List Json) → list_all p (filter p xs) ≡ true
filter_passed p [] = refl
filter_passed p (x ∷ xs) = by (p x) refl (filter_passed p xs)
  where
    by : (b : Bool) → p x ≡ b → list_all p (filter p xs) ≡ true → list_all p (cond b (x ∷ filter p xs) (filter p xs)) ≡ true
    by true is rest = both_true is rest
    by false is rest = rest

abbrev other_than : Json → Json → Bool
other_than x y = not (same y x)

-- a value that the test refuses may be taken out before
filter_without : (p : Json → Bool) (x : Json) (ys : List Json) → p x ≡ false → filter p (filter (other_than x) ys) ≡ filter p ys
filter_without p x [] refused = refl
filter_without p x (y ∷ ys) refused = by (same y x) refl (filter_without p x ys refused)
  where
    by : (b : Bool) → same y x ≡ b → filter p (filter (other_than x) ys) ≡ filter p ys → filter p (cond (not b) (y ∷ filter (other_than x) ys) (filter (other_than x) ys)) ≡ cond (p y) (y ∷ filter p ys) (filter p ys)
    by true is rest = rest ∙ sym (ap (λ c. cond c (y ∷ filter p ys) (filter p ys)) (ap p ((same-Decides y x).0 is) ∙ refused))
    by false is rest = ap (λ zs. cond (p y) (y ∷ zs) zs) rest

once-filter : (p : Json → Bool) (xs : List Json) → once (filter p xs) ≡ filter p (once xs)
once-filter p [] = refl
once-filter p (x ∷ xs) = by (p x) refl (once-filter p xs)
  where
    by : (b : Bool) → p x ≡ b → once (filter p xs) ≡ filter p (once xs) → once (cond b (x ∷ filter p xs) (filter p xs)) ≡ cond (p x) (x ∷ filter p (filter (other_than x) (once xs))) (filter p (filter (other_than x) (once xs)))
    by true is rest =
        ap (λ ys. x ∷ filter (other_than x) ys) rest ∙ ap (λ ys. x ∷ ys) (filter_swap (other_than x) p (once xs))
        ∙ sym (ap (λ c. cond c (x ∷ filter p (filter (other_than x) (once xs))) (filter p (filter (other_than x) (once xs)))) is)
    by false is rest =
        rest ∙ sym (ap (λ c. cond c (x ∷ filter p (filter (other_than x) (once xs))) (filter p (filter (other_than x) (once xs)))) is ∙ filter_without p x (once xs) is)

once-once : (xs : List Json) → once (once xs) ≡ once xs
once-once [] = refl
once-once (x ∷ xs) =
    ap (λ ys. x ∷ filter (other_than x) ys) (once-filter (other_than x) (once xs) ∙ ap (filter (other_than x)) (once-once xs))
    ∙ ap (λ ys. x ∷ ys) (filter_same (other_than x) (filter (other_than x) (once xs)) (filter_passed (other_than x) (once xs)))

-- values that are there already add nothing
once-known : (xs more : List Json) → list_all (is_among xs) more ≡ true → once (xs ++ more) ≡ once xs
once-known xs [] all = ap once (append-nil xs)
once-known xs (y ∷ more) all =
    ap once (sym (append_assoc xs (y ∷ []) more)) ∙ once-known (xs ++ y ∷ []) more (weaker more (right_true (is_among xs y) _ all))
    ∙ once-push xs y ∙ ap (λ b. cond b (once xs) (once xs ++ y ∷ [])) (left_true (is_among xs y) _ all)
  where
    weaker : (zs : List Json) → list_all (is_among xs) zs ≡ true → list_all (is_among (xs ++ y ∷ [])) zs ≡ true
    weaker [] all = refl
    weaker (z ∷ zs) all =
        both_true (list_any-append (same z) xs (y ∷ []) ∙ or_left (is_among xs z) (list_any (same z) (y ∷ [])) (left_true (is_among xs z) _ all)) (weaker zs (right_true (is_among xs z) _ all))

-- a list of each value once, joined with a part of it, and cut by a list that has it all
pub union-known : (zs list : List Json) → are_among (once zs) list ≡ true → union_of (once zs) list ≡ once zs
union-known zs list all = once-known (once zs) list all ∙ once-once zs

pub intersection-known : (zs list : List Json) → are_among list (once zs) ≡ true → intersection_of (once zs) list ≡ once zs
intersection-known zs list all = ap once (filter_same (is_among list) (once zs) all) ∙ once-once zs
