-- What is left of a leaf's metadata.
use Rattle.std.proofs.Common.{◌≡◌, ℕ, List, [], ◌∷◌, Bool, true, false, ◌&&◌, cond, map, bytes_eq, refl, sym, ap, ◌∙◌, subst, ⊎_elim, arith, Ordering, Less, Equal, Greater}
use Rattle.std.specs.Prelude.{Option, Some, None, option_map, unwrap_or, IfSome, codes, filter, All, Contains, Result, Ok, Err, IfOk}
use Rattle.std.specs.Bool.{Decides}
use Rattle.std.specs.Option.{option_map_or}
use Rattle.std.specs.Ordering.{is_lt}
use Rattle.std.specs.Cmp.Lexicographic.{nat_list_eq_equiv}
use Rattle.std.specs.List.{list_all, list_any, AllPass}
use Rattle.std.specs.Str.{is_utf8}
use Rattle.std.proofs.lemmas.Bool.{and_from, and_parts, both_ways, cond_both}
use Rattle.std.proofs.lemmas.Bool.Decides.{Decides-or}
use Rattle.std.proofs.lemmas.Cmp.{nat_list_cmp_total}
use Rattle.std.proofs.lemmas.List.Elements.{All-filter, All-weaker, Contains-append_cases, Contains-append_left, Contains-append_right, Contains-push_cases}
use Rattle.std.proofs.lemmas.List.Folds.{list_all-map}
use Rattle.std.proofs.lemmas.List.Sums.{AllPass-from_list_all, list_all-from_AllPass}
use Rattle.std.proofs.lemmas.Map.Views.{Contains-from_any, list_any-from_Contains}
use Rattle.std.proofs.lemmas.Slice.Eq.{bytes_eq-Decides}
use Rattle.fed_base.specs.declared.faults.Memory.{Memory}
use Rattle.fed_json.specs.declared.tree.Json.{Json, Object}
use Rattle.fed_json.specs.declared.tree.Member.{Member}
use Rattle.fed_json.specs.Forms.{IsWellFormed, is_before, members_well_formed, rising, well_formed}
use Rattle.fed_json.specs.Trees.{as_object}
use Rattle.fed_json.proofs.Accessors.{as_object-Object, Object-as_object}
use Rattle.fed_json.proofs.Layers.{well_formed-Object}
use Rattle.chain_limits.specs.declared.place.Place.{Place}
use Rattle.chain_limits.specs.Types.{names_type, is_allowed, members_allowed, types_allowed, IsAllowed, KeepsAllowed}

-- ---- which types are allowed

-- one list names a type, or there is none
types-Decides : (entity_type : List ℕ) (types : Option (List (List ℕ)))
    → Decides (option_map_or (list_any (bytes_eq entity_type)) types true) (IfSome types (λ ts. Contains ts entity_type))
types-Decides entity_type None = (λ _. tt, λ _. refl)
types-Decides entity_type (Some types) =
    (Contains-from_any (λ x y. (bytes_eq-Decides x y).0) entity_type types, list_any-from_Contains nat_list_eq_equiv entity_type types)

-- the test and its meaning
pub IsAllowed-Decides : (places : List Place) (entity_type : List ℕ) → Decides (is_allowed places entity_type) (IsAllowed places entity_type)
IsAllowed-Decides places entity_type =
    let each = λ (place : Place). types-Decides entity_type place.limits.types in
    let all : Decides (list_all (λ place. names_type entity_type place.limits) places) (All (λ place. IfSome place.limits.types (λ types. Contains types entity_type)) places) = (
      λ passes. All-weaker _ _ (λ place passed. (each place).0 passed) places (AllPass-from_list_all (λ place. names_type entity_type place.limits) places passes),
      λ named. list_all-from_AllPass (λ place. names_type entity_type place.limits) places (All-weaker _ _ (λ place is. (each place).1 is) places named),
    ) in
    Decides-or _ _ (bytes_eq-Decides entity_type (codes "federation_entity")) all

-- ---- what a filter keeps

-- a list of one
contains_only : {X : Type 0} (y x : X) → Contains (y ∷ []) x → y ≡ x
contains_only y x one = ⊎_elim (λ none. absurd (omega (arith, none.1))) (λ same. same) (Contains-push_cases [] y x one)

-- one item more, which the filter keeps or doesn't
kept_or_not : {X : Type 0} (p : X → Bool) (y : X) (xs kept : List X) (x : X) (b : Bool) → p y ≡ b → (Contains kept x → Contains xs x × (p x ≡ true))
    → Contains (cond b (y ∷ kept) kept) x → Contains (y ∷ xs) x × (p x ≡ true)
kept_or_not p y xs kept x true passes rest there =
    ⊎_elim (λ here. (Contains-append_left (y ∷ []) xs x here, ap p (sym (contains_only y x here)) ∙ passes))
    (λ later. let found = rest later in (Contains-append_right (y ∷ []) xs x found.0, found.1)) (Contains-append_cases (y ∷ []) kept x there)
kept_or_not p y xs kept x false fails rest there = let found = rest there in (Contains-append_right (y ∷ []) xs x found.0, found.1)

-- what is kept was there and passes, and the other way round
Contains-filter : {X : Type 0} (p : X → Bool) (xs : List X) (x : X) → Contains (filter p xs) x → Contains xs x × (p x ≡ true)
Contains-filter p [] x there = absurd (omega (arith, there.1))
Contains-filter p (y ∷ xs) x there = kept_or_not p y xs (filter p xs) x (p y) refl (λ later. Contains-filter p xs x later) there

filter-Contains : {X : Type 0} (p : X → Bool) (xs : List X) (x : X) → Contains xs x → p x ≡ true → Contains (filter p xs) x
filter-Contains p [] x there passes = absurd (omega (arith, there.1))
filter-Contains {X} p (y ∷ xs) x there passes =
    let P : List X → Type 0 = λ zs. Contains zs x in
    cond_both (p y) (y ∷ filter p xs) (filter p xs) P
    (λ _. ⊎_elim (λ here. Contains-append_left (y ∷ []) (filter p xs) x here) (λ later. Contains-append_right (y ∷ []) (filter p xs) x (filter-Contains p xs x later passes)) (Contains-append_cases (y ∷ []) xs x there))
    (λ fails. ⊎_elim (λ here. absurd (both_ways (p y) fails (ap p (contains_only y x here) ∙ passes))) (λ later. filter-Contains p xs x later passes) (Contains-append_cases (y ∷ []) xs x there))

-- a test that all items pass
list_all-filter : {X : Type 0} (test p : X → Bool) (xs : List X) → list_all test xs ≡ true → list_all test (filter p xs) ≡ true
list_all-filter test p xs all = list_all-from_AllPass test (filter p xs) (All-filter p (λ x. test x ≡ true) xs (AllPass-from_list_all test xs all))

-- ---- names that rise

-- one name stands before another
less : (o : Ordering) → is_lt o ≡ true → o ≡ Less
less Less e = refl
less Equal e = cc e
less Greater e = cc e

is_before-trans : (a b c : List ℕ) → is_before a b ≡ true → is_before b c ≡ true → is_before a c ≡ true
is_before-trans a b c e f = ap is_lt (nat_list_cmp_total.trans a b c (less _ e) (less _ f))

abbrev names : List Member → List (List ℕ)
names = map (λ m. m.name)

-- the first of names that rise stands before each of the others
first_before : (a : List ℕ) (ns : List (List ℕ)) → rising (a ∷ ns) ≡ true → list_all (is_before a) ns ≡ true
first_before a [] rise = refl
first_before a (b ∷ ns) rise =
    let parts = and_parts (is_before a b) (rising (b ∷ ns)) rise in
    let later : AllPass (is_before a) ns = All-weaker (λ n. is_before b n ≡ true) (λ n. is_before a n ≡ true) (λ n after. is_before-trans a b n parts.0 after) ns (AllPass-from_list_all (is_before b) ns (first_before b ns parts.1)) in
    and_from _ _ parts.0 (list_all-from_AllPass (is_before a) ns later)

-- a name in front of names that rise
rising-cons : (a : List ℕ) (ns : List (List ℕ)) → list_all (is_before a) ns ≡ true → rising ns ≡ true → rising (a ∷ ns) ≡ true
rising-cons a [] before rise = refl
rising-cons a (b ∷ ns) before rise = and_from _ _ (and_parts (is_before a b) (list_all (is_before a) ns) before).0 rise

rising-tail : (a : List ℕ) (ns : List (List ℕ)) → rising (a ∷ ns) ≡ true → rising ns ≡ true
rising-tail a [] rise = refl
rising-tail a (b ∷ ns) rise = (and_parts (is_before a b) (rising (b ∷ ns)) rise).1

-- names that rise still do where some are dropped
rising-filter : (p : Member → Bool) (ms : List Member) → rising (names ms) ≡ true → rising (names (filter p ms)) ≡ true
rising-filter p [] rise = refl
rising-filter p (m ∷ ms) rise =
    let rest = rising-filter p ms (rising-tail m.name (names ms) rise) in
    let before : list_all (is_before m.name) (names (filter p ms)) ≡ true =
    list_all-map (is_before m.name) (λ n. n.name) (filter p ms) ∙ list_all-filter (λ n. is_before m.name n.name) p ms (sym (list_all-map (is_before m.name) (λ n. n.name) ms) ∙ first_before m.name (names ms) rise) in
    cond_both (p m) (m ∷ filter p ms) (filter p ms) (λ kept. rising (names kept) ≡ true) (λ _. rising-cons m.name (names (filter p ms)) before rest) (λ _. rest)

members_well_formed-filter : (p : Member → Bool) (ms : List Member) → members_well_formed ms ≡ true → members_well_formed (filter p ms) ≡ true
members_well_formed-filter p ms formed =
    let parts = and_parts (rising (names ms)) (list_all (λ m. is_utf8 m.name && well_formed m.value) ms) formed in
    and_from _ _ (rising-filter p ms parts.0) (list_all-filter (λ m. is_utf8 m.name && well_formed m.value) p ms parts.1)

-- ---- the metadata that is left

-- an object, and any other tree
pub types_allowed-Object : (places : List Place) (metadata : Json) (members : List Member) → as_object metadata ≡ Some members → types_allowed places metadata ≡ Object (members_allowed places members)
unfolding types_allowed
types_allowed-Object places metadata members object = ap (λ o. unwrap_or (option_map (λ ms. Object (members_allowed places ms)) o) metadata) object

types_allowed-none : (places : List Place) (metadata : Json) → as_object metadata ≡ None → types_allowed places metadata ≡ metadata
unfolding types_allowed
types_allowed-none places metadata none = ap (λ o. unwrap_or (option_map (λ ms. Object (members_allowed places ms)) o) metadata) none

-- the tree is an object, or it isn't
abbrev IsOther : Json → Type 0
IsOther tree = (members : List Member) → ¬ (tree ≡ Object members)

no_object : (tree : Json) → IsOther tree → as_object tree ≡ None
no_object tree other = cases (as_object tree) refl
  where
    cases : (o : Option (List Member)) → as_object tree ≡ o → as_object tree ≡ None
    cases None is = is
    cases (Some members) is = absurd (other members (Object-as_object tree members is))

-- the two promises on the definition
KeepsAllowed-types_allowed : (places : List Place) (metadata : Json) → KeepsAllowed places metadata (types_allowed places metadata)
KeepsAllowed-types_allowed places metadata members object =
    let kept = members_allowed places members in
    let test = λ (m : Member). is_allowed places m.name in (
      kept,
      ap as_object (types_allowed-Object places metadata members object) ∙ as_object-Object kept,
      λ m. (
        λ there. let found = Contains-filter test members m there in (found.0, (IsAllowed-Decides places m.name).0 found.1),
        λ found. filter-Contains test members m found.0 ((IsAllowed-Decides places m.name).1 found.1),
      ),
    )

well_formed-types_allowed : (places : List Place) (metadata : Json) → IsWellFormed metadata → IsWellFormed (types_allowed places metadata)
well_formed-types_allowed places metadata formed = cases (as_object metadata) refl
  where
    cases : (o : Option (List Member)) → as_object metadata ≡ o → IsWellFormed (types_allowed places metadata)
    cases None is = ap well_formed (types_allowed-none places metadata is) ∙ formed
    cases (Some members) is =
        let whole : members_well_formed members ≡ true = sym (well_formed-Object members) ∙ ap well_formed (sym (Object-as_object metadata members is)) ∙ formed in
        ap well_formed (types_allowed-Object places metadata members is) ∙ well_formed-Object (members_allowed places members)
        ∙ members_well_formed-filter (λ m. is_allowed places m.name) members whole

-- ---- the answers

-- a copy of what is no object
pub copied : (answer : Result Json Memory) (places : List Place) (metadata : Json) → IsOther metadata → IfOk answer (λ copy. copy ≡ metadata)
    → IfOk answer (λ tree. tree ≡ types_allowed places metadata)
copied (Ok copy) places metadata other same = same ∙ sym (types_allowed-none places metadata (no_object metadata other))
copied (Err e) places metadata other same = tt

-- what an answer by the definition keeps
pub keeps : (answer : Result Json Memory) (places : List Place) (metadata : Json) → IfOk answer (λ tree. tree ≡ types_allowed places metadata)
    → IfOk answer (KeepsAllowed places metadata)
keeps (Ok tree) places metadata is = subst (KeepsAllowed places metadata) (sym is) (KeepsAllowed-types_allowed places metadata)
keeps (Err e) places metadata is = tt

pub stays_formed : (answer : Result Json Memory) (places : List Place) (metadata : Json) → IfOk answer (λ tree. tree ≡ types_allowed places metadata)
    → IsWellFormed metadata → IfOk answer IsWellFormed
stays_formed (Ok tree) places metadata is formed = subst IsWellFormed (sym is) (well_formed-types_allowed places metadata formed)
stays_formed (Err e) places metadata is formed = tt
