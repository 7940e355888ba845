-- The types that all lists name, as they are gathered in a set.
use Rattle.std.proofs.Common.{◌≡◌, ◌<◌, ◌+◌, ℕ, List, [], ◌∷◌, ◌++◌, Bool, true, false, ◌&&◌, ◌||◌, Ordering, Less, Equal, Greater, nat_cmp, bytes_eq, filter, cond, take, length, get_or, Vec, Option, Some, None, refl, sym, ap, ap₂, ◌∙◌, codes}
use Rattle.std.specs.BTreeSet.{BTreeSet, insert_key}
use Rattle.std.specs.Cmp.Lexicographic.{slice_cmp}
use Rattle.std.specs.List.{list_all, list_any}
use Rattle.std.specs.Option.{option_map_or}
use Rattle.std.specs.Ordering.{is_eq, match_ordering}
use Rattle.std.proofs.lemmas.List.{take_more}
use Rattle.std.proofs.lemmas.List.Folds.{list_all-append, list_any-append}
use Rattle.std.proofs.lemmas.Map.Lookups.{exact_bytes}
use Rattle.std.proofs.lemmas.Map.Text.{is_eq-slice_cmp}
use Rattle.std.proofs.lemmas.Slice.Eq.{bytes_eq-Decides}
use Rattle.fed_json.specs.declared.tree.Member.{Member}
use Rattle.chain_limits.specs.declared.place.Place.{Place}
use Rattle.chain_limits.specs.Types.{in_set, is_allowed, members_allowed, names_type, stays}

-- ---- tests of lists

filter-same : {X : Type 0} (p q : X → Bool) → ((x : X) → p x ≡ q x) → (xs : List X) → filter p xs ≡ filter q xs
filter-same p q same [] = refl
filter-same p q same (x ∷ xs) = ap₂ (λ b rest. cond b (x ∷ rest) rest) (same x) (filter-same p q same xs)

any_more : {X : Type 0} (p : X → Bool) (xs : List X) (i : ℕ) (x : X) → i < length xs → x ≡ get_or xs i x → list_any p (take (i + 1) xs) ≡ (list_any p (take i xs) || (p x || false))
any_more p xs i x within at =
    ap (list_any p) (take_more xs i x within ∙ ap (λ y. take i xs ++ y ∷ []) (sym at)) ∙ list_any-append p (take i xs) (x ∷ [])

all_more : {X : Type 0} (p : X → Bool) (xs : List X) (i : ℕ) (x : X) → i < length xs → x ≡ get_or xs i x → list_all p (take (i + 1) xs) ≡ (list_all p (take i xs) && (p x && true))
all_more p xs i x within at =
    ap (list_all p) (take_more xs i x within ∙ ap (λ y. take i xs ++ y ∷ []) (sym at)) ∙ list_all-append p (take i xs) (x ∷ [])

and_true : (b : Bool) → (b && true) ≡ b
and_true true = refl
and_true false = refl

or_false : (b : Bool) → (b || false) ≡ b
or_false true = refl
or_false false = refl

or_true : (b : Bool) → (b || true) ≡ true
or_true true = refl
or_true false = refl

or_same : (a c : Bool) → (a || c) ≡ (a || (a || c))
or_same true c = refl
or_same false c = refl

or_swap : (a b c : Bool) → (a || (b || c)) ≡ (b || (a || c))
or_swap true true c = refl
or_swap true false c = refl
or_swap false b c = refl

-- ---- one name more in a set

any-insert_key : {K : Type 0} (cmp : K → K → Ordering) (test : K → Bool) (k : K) → ((x : K) → cmp k x ≡ Equal → test x ≡ test k) → (ks : List K)
    → list_any test (insert_key cmp ks k) ≡ (test k || list_any test ks)
any-insert_key cmp test k alike [] = refl
any-insert_key cmp test k alike (x ∷ ks) = by (cmp k x) refl (any-insert_key cmp test k alike ks)
  where
    by : (o : Ordering) → cmp k x ≡ o → list_any test (insert_key cmp ks k) ≡ (test k || list_any test ks)
        → list_any test (match_ordering o (k ∷ x ∷ ks) (x ∷ ks) (x ∷ insert_key cmp ks k)) ≡ (test k || (test x || list_any test ks))
    by Less is rest = refl
    by Equal is rest = ap (λ b. b || list_any test ks) (alike x is) ∙ or_same (test k) (list_any test ks) ∙ ap (λ b. test k || (b || list_any test ks)) (sym (alike x is))
    by Greater is rest = ap (λ b. test x || b) rest ∙ or_swap (test x) (test k) (list_any test ks)

-- the order of a set's keys
abbrev pub key_cmp : {Z : Type 0} → Vec ℕ Z → Vec ℕ Z → Ordering
key_cmp x y = slice_cmp nat_cmp x.items y.items

in_set-insert : {Z : Type 0} (set next : BTreeSet (Vec ℕ Z)) (key : Vec ℕ Z) → next.keys ≡ insert_key key_cmp set.keys key → (name : List ℕ)
    → in_set (Some next) name ≡ (bytes_eq name key.items || in_set (Some set) name)
in_set-insert set next key put name =
    let test = λ (k : Vec _ _). is_eq (slice_cmp nat_cmp name k.items) in
    ap (list_any test) put
    ∙ any-insert_key key_cmp test key (λ x same. ap (λ items. is_eq (slice_cmp nat_cmp name items)) (sym (exact_bytes key.items x.items same))) set.keys
    ∙ ap (λ b. b || list_any test set.keys) (is_eq-slice_cmp name key.items)

added : (b n a : Bool) → (b ≡ true → n ≡ true) → (b || (n && a)) ≡ (n && (a || (b || false)))
added true n a here = sym (ap₂ (λ m c. m && c) (here refl) (or_true a))
added false n a here = ap (λ c. n && c) (sym (or_false a))

passed_over : (b n a : Bool) → (b ≡ true → n ≡ false) → (n && a) ≡ (n && (a || (b || false)))
passed_over true n a none = ap (λ m. m && a) (none refl) ∙ sym (ap (λ m. m && (a || true)) (none refl))
passed_over false n a none = ap (λ c. n && c) (sym (or_false a))

-- a set of the names that are in a list too, as far as the list was read
abbrev pub Both : {Y Z : Type 0} → Option (BTreeSet (Vec ℕ Y)) → List (List ℕ) → BTreeSet (Vec ℕ Z) → Type 0
Both names types both = (name : List ℕ) → in_set (Some both) name ≡ (in_set names name && list_any (bytes_eq name) types)

module _ {Y : Type 0} (names : Option (BTreeSet (Vec ℕ Y))) (types : List (List ℕ)) (i : ℕ) (t : List ℕ) (within : i < length types) (at : t ≡ get_or types i t) where
  named : (name : List ℕ) (b : Bool) → in_set names t ≡ b → bytes_eq name t ≡ true → in_set names name ≡ b
  named name b is same = ap (in_set names) ((bytes_eq-Decides name t).0 same) ∙ is

  pub both-more : {Z : Type 0} (both next : BTreeSet (Vec ℕ Z)) (key : Vec ℕ Z) → next.keys ≡ insert_key key_cmp both.keys key → key.items ≡ t → in_set names t ≡ true
      → Both names (take i types) both → Both names (take (i + 1) types) next
  both-more both next key put is there so_far name =
      in_set-insert both next key put name ∙ ap₂ (λ items b. bytes_eq name items || b) is (so_far name)
      ∙ added (bytes_eq name t) (in_set names name) (list_any (bytes_eq name) (take i types)) (named name true there)
      ∙ ap (λ b. in_set names name && b) (sym (any_more (bytes_eq name) types i t within at))

  pub both-same : {Z : Type 0} (both : BTreeSet (Vec ℕ Z)) → in_set names t ≡ false → Both names (take i types) both → Both names (take (i + 1) types) both
  both-same both none so_far name =
      so_far name ∙ passed_over (bytes_eq name t) (in_set names name) (list_any (bytes_eq name) (take i types)) (named name false none)
      ∙ ap (λ b. in_set names name && b) (sym (any_more (bytes_eq name) types i t within at))

-- ---- one place more

abbrev pub All : {Z : Type 0} → List Place → Option (BTreeSet (Vec ℕ Z)) → Type 0
All places names = (name : List ℕ) → in_set names name ≡ list_all (λ place. names_type name place.limits) places

module _ {Z : Type 0} (places : List Place) (i : ℕ) (place : Place) (within : i < length places) (at : place ≡ get_or places i place) where
  pub all-narrowed : (names : Option (BTreeSet (Vec ℕ Z))) (both : BTreeSet (Vec ℕ Z)) (types : List (List ℕ)) → place.limits.types ≡ Some types
      → Both names types both → All (take i places) names → All (take (i + 1) places) (Some both)
  all-narrowed names both types is narrowed so_far name =
      narrowed name
      ∙ ap₂ (λ a b. a && b) (so_far name) (sym (ap (λ (o : Option (List (List ℕ))). option_map_or (list_any (bytes_eq name)) o true) is) ∙ sym (and_true (names_type name place.limits)))
      ∙ sym (all_more (λ (p : Place). names_type name p.limits) places i place within at)

  pub all-same : (names : Option (BTreeSet (Vec ℕ Z))) → place.limits.types ≡ None → All (take i places) names → All (take (i + 1) places) names
  all-same names is so_far name =
      so_far name ∙ sym (and_true _)
      ∙ ap (λ b. list_all (λ (p : Place). names_type name p.limits) (take i places) && b) (sym (ap (λ (o : Option (List (List ℕ))). option_map_or (list_any (bytes_eq name)) o true) is) ∙ sym (and_true (names_type name place.limits)))
      ∙ sym (all_more (λ (p : Place). names_type name p.limits) places i place within at)

-- ---- the members that stay

pub members-stay : {Z : Type 0} (places all : List Place) (names : Option (BTreeSet (Vec ℕ Z))) (members items : List Member) → all ≡ places → items ≡ members → All all names
    → filter (λ m. stays names m.name) items ≡ members_allowed places members
members-stay places all names members items same_places same_members known =
    filter-same (λ (m : Member). stays names m.name) (λ m. is_allowed all m.name) (λ m. ap (λ b. bytes_eq m.name (codes "federation_entity") || b) (known m.name)) items
    ∙ ap₂ members_allowed same_places same_members
