-- Warnings that are gathered piece by piece.
use Rattle.std.proofs.Common.{rules, OnOk, ◌≡◌, ◌<◌, ◌≤◌, ℕ, ◌+◌, List, [], ◌∷◌, ◌++◌, length, take, map, get_or, refl, sym, ap, ap₂, ◌∙◌, append_assoc, append-nil, arith, subst, Option, Some, None, Result, Ok, Err, MatchOption}
use Rattle.std.proofs.lemmas.List.{map-append, take_more, length-map, length-take-le}
use Rattle.fed_base.specs.Answers.{unless}
use Rattle.policy_merge.specs.declared.fault.PolicyFault.{PolicyFault}
use Rattle.config_warnings.specs.Places.{each_from, warn}
use Rattle.config_warnings.specs.Twice.{closed, front_of, last_of}
use Rattle.config_warnings.specs.declared.scan.Scan.{Scan}
use Rattle.config_warnings.specs.declared.warning.Kind.{Kind}
use Rattle.config_warnings.specs.declared.warning.Warning.{Warning}

-- ---- the items of a list

at-sum : {X : Type 0} (f : ℕ → X → List Warning) (i j : ℕ) (x : X) → i ≡ j → f i x ≡ f j x
at-sum f i j x is = ap (λ n. f n x) is

-- what is warned of one item more
pub each_push : {X : Type 0} (f : ℕ → X → List Warning) (i : ℕ) (xs : List X) (x : X) → each_from f i (xs ++ x ∷ []) ≡ each_from f i xs ++ f (i + length xs) x
unfolding each_from
each_push f i [] x = let none : i ≡ i + 0 = omega arith in append-nil (f i x) ∙ at-sum f i (i + 0) x none
each_push f i (y ∷ ys) x =
    let sum : i + 1 + length ys ≡ i + length (y ∷ ys) = omega arith in
    ap (λ r. f i y ++ r) (each_push f (i + 1) ys x ∙ ap (λ r. each_from f (i + 1) ys ++ r) (at-sum f (i + 1 + length ys) (i + length (y ∷ ys)) x sum))
    ∙ sym (append_assoc (f i y) (each_from f (i + 1) ys) (f (i + length (y ∷ ys)) x))

pub each_more : {X : Type 0} (f : ℕ → X → List Warning) (xs : List X) (i : ℕ) (x : X) (start out new : List Warning) → i < length xs → x ≡ get_or xs i x
    → out ≡ start ++ each_from f 0 (take i xs) → new ≡ out ++ f i x → new ≡ start ++ each_from f 0 (take (i + 1) xs)
each_more f xs i x start out new within is so_far more =
    let longer : take (i + 1) xs ≡ take i xs ++ x ∷ [] = take_more xs i x within ∙ ap (λ y. take i xs ++ y ∷ []) (sym is) in
    let below : i ≤ length xs = omega (arith, within) in
    let count : 0 + length (take i xs) ≡ i = omega (arith, length-take-le i xs below) in
    more ∙ ap (λ o. o ++ f i x) so_far ∙ append_assoc start (each_from f 0 (take i xs)) (f i x)
    ∙ ap (λ ws. start ++ ws) (sym (ap (each_from f 0) longer ∙ each_push f 0 (take i xs) x ∙ ap (λ r. each_from f 0 (take i xs) ++ r) (at-sum f (0 + length (take i xs)) i x count)))

-- the same of things that say something else
pub told_more : {X Y : Type 0} (f : ℕ → Y → List Warning) (g : X → Y) (xs : List X) (i : ℕ) (x : X) (start out new : List Warning) → i < length xs → x ≡ get_or xs i x
    → out ≡ start ++ each_from f 0 (map g (take i xs)) → new ≡ out ++ f i (g x) → new ≡ start ++ each_from f 0 (map g (take (i + 1) xs))
told_more f g xs i x start out new within is so_far more =
    let longer : take (i + 1) xs ≡ take i xs ++ x ∷ [] = take_more xs i x within ∙ ap (λ y. take i xs ++ y ∷ []) (sym is) in
    let below : i ≤ length xs = omega (arith, within) in
    let same : length (map g (take i xs)) ≡ length (take i xs) = search (rules, length-map) in
    let count : 0 + length (map g (take i xs)) ≡ i = omega (arith, same, length-take-le i xs below) in
    let told : map g (take (i + 1) xs) ≡ map g (take i xs) ++ g x ∷ [] = ap (map g) longer ∙ map-append g (take i xs) (x ∷ []) in
    more ∙ ap (λ o. o ++ f i (g x)) so_far ∙ append_assoc start (each_from f 0 (map g (take i xs))) (f i (g x))
    ∙ ap (λ ws. start ++ ws) (sym (ap (each_from f 0) told ∙ each_push f 0 (map g (take i xs)) (g x) ∙ ap (λ r. each_from f 0 (map g (take i xs)) ++ r) (at-sum f (0 + length (map g (take i xs))) i (g x) count)))

-- ---- the last of a list that one thing was put behind, and those before it

pub last_pushed : {X : Type 0} (xs : List X) (x : X) → last_of (xs ++ x ∷ []) ≡ Some x
unfolding last_of
last_pushed [] x = refl
last_pushed (y ∷ []) x = refl
last_pushed (y ∷ z ∷ zs) x = last_pushed (z ∷ zs) x

pub front_pushed : {X : Type 0} (xs : List X) (x : X) → front_of (xs ++ x ∷ []) ≡ xs
unfolding front_of
front_pushed [] x = refl
front_pushed (y ∷ []) x = refl
front_pushed (y ∷ z ∷ zs) x = ap (λ r. y ∷ r) (front_pushed (z ∷ zs) x)

pub popped_name : {X : Type 0} (r : Option X) (old new : List X) → MatchOption r ((old ≡ []) × (new ≡ [])) (λ item. old ≡ new ++ item ∷ []) → r ≡ last_of old
unfolding last_of
popped_name None old new is = sym (ap last_of is.0)
popped_name (Some x) old new is = sym (ap last_of is ∙ last_pushed new x)

pub popped_left : {X : Type 0} (r : Option X) (old new : List X) → MatchOption r ((old ≡ []) × (new ≡ [])) (λ item. old ≡ new ++ item ∷ []) → new ≡ front_of old
unfolding front_of
popped_left None old new is = is.1 ∙ sym (ap front_of is.0)
popped_left (Some x) old new is = sym (ap front_of is ∙ front_pushed new x)

-- the innermost object is taken away
abbrev left : Scan → List (List (List ℕ)) → Scan
left s os = record { objects = os; quoted = s.quoted; escaped = s.escaped; word = s.word; twice = s.twice }

pub popped_scan : (s : Scan) (r : Option (List (List ℕ))) (new : List (List (List ℕ))) → MatchOption r ((s.objects ≡ []) × (new ≡ [])) (λ item. s.objects ≡ new ++ item ∷ [])
    → left s new ≡ closed s
popped_scan s r new is = ap (left s) (popped_left r s.objects new is)

-- ---- answers

-- the place is written otherwise
pub same_place : {X E : Type 0} (r : Result X E) (out new : List Warning) (kind : Kind) (place other name : List ℕ) → OnOk r (new ≡ out ++ warn kind place name) → place ≡ other
    → OnOk r (new ≡ out ++ warn kind other name)
same_place (Ok x) out new kind place other name is same = is ∙ ap (λ p. out ++ warn kind p name) same
same_place (Err e) out new kind place other name is same = tt

-- the fault of an answer
abbrev fault_in : Result (Unit {0}) PolicyFault → Option PolicyFault
fault_in (Ok x) = None
fault_in (Err fault) = Some fault

-- what is said where there is a fault, or none
pub unless_failed : (named : Option PolicyFault) (fault : PolicyFault) → unless {X = Unit {0}} named tt ≡ Err fault → named ≡ Some fault
unless_failed None fault is = cc is
unless_failed (Some named) fault is = ap fault_in is

pub unless_done : (named : Option PolicyFault) → unless {X = Unit {0}} named tt ≡ Ok tt → named ≡ None
unless_done None is = refl
unless_done (Some named) is = cc is
