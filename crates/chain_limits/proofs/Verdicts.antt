-- The first place at which a limit isn't met.
use Rattle.std.proofs.Common.{◌≡◌, ◌<◌, ◌≤◌, ◌+◌, ◌-◌, ℕ, zero, suc, List, [], ◌∷◌, length, take, Bool, true, false, refl, sym, ap, ◌∙◌, subst, ⊎_elim, arith, get_or}
use Rattle.std.specs.Prelude.{Some, IfSome, slice_get}
use Rattle.std.specs.List.{list_all}
use Rattle.std.proofs.lemmas.Bool.{and_cases, and_parts, both_ways, cases_lt, cases_order, true≢false}
use Rattle.std.proofs.lemmas.Option.{slice_get-get_or}
use Rattle.chain_limits.specs.declared.place.Place.{Place}
use Rattle.chain_limits.specs.declared.verdict.LimitVerdict.{LimitVerdict}
use Rattle.chain_limits.specs.declared.verdict.LimitVerdict.TheVariants.{Met, PathLength, Name}
use Rattle.chain_limits.specs.Limits.{admits, PathFits, NameFits, Fits, FitsBelow, IsReached, IsVerdict}

-- two places at one index are one
same_place : (places : List Place) (j : ℕ) (a b : Place) → slice_get places j ≡ Some a → slice_get places j ≡ Some b → a ≡ b
same_place places j a b at_a at_b = let e : Some a ≡ Some b = sym at_a ∙ at_b in cc e

-- the path at place j, and a subject under the names of a place
abbrev Reaches : Place → ℕ → Type 0
Reaches place j = IfSome place.limits.max_path (λ most. j - 1 ≤ most)

abbrev Admits : Place → Place → Bool
Admits place subject = admits place.limits subject.host

-- ---- tests of the first items of a list

-- an item of the first n is an item, and the other way round
slice_get-take : {X : Type 0} (n : ℕ) (xs : List X) (k : ℕ) (x : X) → slice_get (take n xs) k ≡ Some x → (k < n) × (slice_get xs k ≡ Some x)
slice_get-take zero xs k x at = cc at
slice_get-take (suc n) [] k x at = cc at
slice_get-take (suc n) (y ∷ xs) zero x at = (omega arith, at)
slice_get-take (suc n) (y ∷ xs) (suc k) x at = let rest = slice_get-take n xs k x at in (omega (arith, rest.0), rest.1)

take-slice_get : {X : Type 0} (n : ℕ) (xs : List X) (k : ℕ) (x : X) → k < n → slice_get xs k ≡ Some x → slice_get (take n xs) k ≡ Some x
take-slice_get zero xs k x below at = absurd (omega arith)
take-slice_get (suc n) [] k x below at = cc at
take-slice_get (suc n) (y ∷ xs) zero x below at = at
take-slice_get (suc n) (y ∷ xs) (suc k) x below at = let less : k < n = omega arith in take-slice_get n xs k x less at

-- an item of a list that passes
passes : {X : Type 0} (test : X → Bool) (xs : List X) (k : ℕ) (x : X) → list_all test xs ≡ true → slice_get xs k ≡ Some x → test x ≡ true
passes test [] k x all at = cc at
passes test (y ∷ xs) zero x all at = let same : y ≡ x = cc at in ap test (sym same) ∙ (and_parts (test y) (list_all test xs) all).0
passes test (y ∷ xs) (suc k) x all at = passes test xs k x (and_parts (test y) (list_all test xs) all).1 at

-- some item fails the test
abbrev Failing : {X : Type 0} → (X → Bool) → List X → Type 0
Failing {X} test xs = (k : ℕ) × (x : X) × (slice_get xs k ≡ Some x) × (test x ≡ false)

-- a list that doesn't pass has a failing item
failing : {X : Type 0} (test : X → Bool) (xs : List X) → list_all test xs ≡ false → Failing test xs
failing test [] none = absurd (true≢false none)
failing test (y ∷ xs) some =
    ⊎_elim (λ here. (0, y, refl, here)) (λ later. let rest = failing test xs later in (suc rest.0, rest.1, rest.2, rest.3)) (and_cases (test y) (list_all test xs) some)

-- ---- one place

-- the limits of one place, from their tests
PathFits-at : (places : List Place) (j : ℕ) (place : Place) → slice_get places j ≡ Some place → Reaches place j → PathFits places j
PathFits-at places j place at reaches other at_other = subst (λ p. Reaches p j) (same_place places j place other at at_other) reaches

NameFits-at : (places : List Place) (j : ℕ) (place : Place) → slice_get places j ≡ Some place → list_all (Admits place) (take (j + 1) places) ≡ true
    → (i : ℕ) → i ≤ j → NameFits places i j
NameFits-at places j place at all i within subject other at_subject at_other =
    let below : i < j + 1 = omega arith in
    let admitted = passes (Admits place) (take (j + 1) places) i subject all (take-slice_get (j + 1) places i subject below at_subject) in
    subst (λ p. Admits p subject ≡ true) (same_place places j place other at at_other) admitted

NameFits-not : (places : List Place) (j : ℕ) (place : Place) → slice_get places j ≡ Some place → list_all (Admits place) (take (j + 1) places) ≡ false
    → (i : ℕ) × (i ≤ j) × ¬ NameFits places i j
NameFits-not places j place at some =
    let first = failing (Admits place) (take (j + 1) places) some in
    let taken = slice_get-take (j + 1) places first.0 first.1 first.2 in
    (first.0, omega (arith, taken.0), λ fits. both_ways (Admits place first.1) first.3 (fits first.1 place taken.1 at))

-- ---- the walk, where the place at j is read with some default

abbrev At : List Place → ℕ → Place → Place
At places j default = get_or places j default

-- the walk ends at a path that is too long
pub IsVerdict-path : (places : List Place) (j : ℕ) (default : Place) → 1 ≤ j → j < length places → FitsBelow places j → ¬ Reaches (At places j default) j
    → IsVerdict places (PathLength j)
IsVerdict-path places j default superior within least short =
    (record { superior = superior; within = within; below = least }, λ fits. short (fits (At places j default) (slice_get-get_or places j default within)))

-- it ends at a name that doesn't fit
pub IsVerdict-name : (places : List Place) (j : ℕ) (default : Place) → 1 ≤ j → j < length places → FitsBelow places j → Reaches (At places j default) j
    → list_all (Admits (At places j default)) (take (j + 1) places) ≡ false → IsVerdict places (Name j)
IsVerdict-name places j default superior within least reaches some =
    let is = slice_get-get_or places j default within in
    (record { superior = superior; within = within; below = least }, PathFits-at places j (At places j default) is reaches, NameFits-not places j (At places j default) is some)

-- it goes on
pub FitsBelow-more : (places : List Place) (j : ℕ) (default : Place) → j < length places → FitsBelow places j → Reaches (At places j default) j
    → list_all (Admits (At places j default)) (take (j + 1) places) ≡ true → FitsBelow places (j + 1)
FitsBelow-more places j default within least reaches all k superior below =
    let is = slice_get-get_or places j default within in
    let here : Fits places j = record { path = PathFits-at places j (At places j default) is reaches; names = NameFits-at places j (At places j default) is all } in
    ⊎_elim (λ less. least k superior less) (λ past. let same : j ≡ k = omega arith in subst (λ n. Fits places n) same here) (cases_lt k j)

-- ---- there is one answer

-- the place that an answer tells, and what it says of it
abbrev FailsAt : List Place → ℕ → Type 0
FailsAt places j = IsReached places j × ¬ Fits places j

-- two failing places are one
one_place : (places : List Place) (i j : ℕ) → FailsAt places i → FailsAt places j → i ≡ j
one_place places i j at_i at_j =
    ⊎_elim (λ same. same)
    (λ apart. ⊎_elim (λ below. absurd (at_i.1 (at_j.0.below i at_i.0.superior below))) (λ above. absurd (at_j.1 (at_i.0.below j at_j.0.superior above))) apart)
    (cases_order i j)

-- each answer fails at its place, and no place fails where all are met
path_fails : (places : List Place) (j : ℕ) → IsVerdict places (PathLength j) → FailsAt places j
path_fails places j is = (is.0, λ fits. is.1 fits.path)

name_fails : (places : List Place) (j : ℕ) → IsVerdict places (Name j) → FailsAt places j
name_fails places j is = (is.0, λ fits. is.2.2 (fits.names is.2.0 is.2.1))

none_fails : (places : List Place) (j : ℕ) → IsVerdict places Met → ¬ FailsAt places j
none_fails places j met at = at.1 (met j at.0.superior at.0.within)

-- a path that is too long isn't one that is short enough
path_or_name : (places : List Place) (i j : ℕ) → IsVerdict places (PathLength i) → IsVerdict places (Name j) → ⊥
path_or_name places i j path name =
    let same = one_place places i j (path_fails places i path) (name_fails places j name) in
    path.1 (subst (PathFits places) (sym same) name.1)

-- two answers on the same places are one
pub IsVerdict-unique : (places : List Place) (a b : LimitVerdict) → IsVerdict places a → IsVerdict places b → a ≡ b
IsVerdict-unique places Met Met is_a is_b = refl
IsVerdict-unique places Met (PathLength j) is_a is_b = absurd (none_fails places j is_a (path_fails places j is_b))
IsVerdict-unique places Met (Name j) is_a is_b = absurd (none_fails places j is_a (name_fails places j is_b))
IsVerdict-unique places (PathLength i) Met is_a is_b = absurd (none_fails places i is_b (path_fails places i is_a))
IsVerdict-unique places (PathLength i) (PathLength j) is_a is_b = ap PathLength (one_place places i j (path_fails places i is_a) (path_fails places j is_b))
IsVerdict-unique places (PathLength i) (Name j) is_a is_b = absurd (path_or_name places i j is_a is_b)
IsVerdict-unique places (Name i) Met is_a is_b = absurd (none_fails places i is_b (name_fails places i is_a))
IsVerdict-unique places (Name i) (PathLength j) is_a is_b = absurd (path_or_name places j i is_b is_a)
IsVerdict-unique places (Name i) (Name j) is_a is_b = ap Name (one_place places i j (name_fails places i is_a) (name_fails places j is_b))
