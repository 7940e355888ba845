-- The names of two lists side by side, what each side passes, and what stands at a name.
use Rattle.std.proofs.Common.{◌≡◌, List, [], ◌∷◌, Option, Some, None, Bool, true, false, ◌&&◌, ◌||◌, cond, map, bytes_eq, refl, sym, ap, ap₂, ◌∙◌, Ordering, Less, Equal, Greater, nat_cmp}
use Rattle.std.specs.Option.{option_map_or}
use Rattle.std.specs.Ordering.{match_ordering}
use Rattle.std.specs.List.{list_all, list_any}
use Rattle.std.specs.Cmp.Lexicographic.{slice_cmp}
use Rattle.fed_base.specs.Values.{if_there}
use Rattle.fed_json.specs.Forms.{is_before, rising}
use Rattle.fed_json.specs.Tables.{Name, with_name, names_of_both, item_of, Side, side_at, sides, first}
use Rattle.fed_json.proofs.Booleans.{left_true, right_true, both_true}
use Rattle.fed_json.proofs.Names.{rising-tail}
use Rattle.fed_json.proofs.Order.{before-cmp_less, before-cmp_greater, first_before, rising-cons, equal-bytes_eq, equal-cmp, bytes_eq-back}
use Rattle.fed_json.proofs.SideBySide.{all_with_name, all_names_of_both}

-- ---- the names of both rise

rising-with_name : (a : Name) (names : List Name) → rising names ≡ true → rising (with_name a names) ≡ true
rising-with_name a [] rise = refl
rising-with_name a (b ∷ names) rise = by (slice_cmp nat_cmp a b) refl (rising-with_name a names (rising-tail b names rise))
  where
    by : (o : Ordering) → slice_cmp nat_cmp a b ≡ o → rising (with_name a names) ≡ true → rising (match_ordering o (a ∷ b ∷ names) (b ∷ names) (b ∷ with_name a names)) ≡ true
    by Less o rest = both_true (before-cmp_less a b o) rise
    by Equal o rest = rise
    by Greater o rest = rising-cons b (with_name a names) (all_with_name (is_before b) a names (before-cmp_greater a b o) (first_before b names rise)) rest

pub rising-names_of_both : (us bs : List Name) → rising bs ≡ true → rising (names_of_both us bs) ≡ true
unfolding names_of_both
rising-names_of_both [] bs rise = rise
rising-names_of_both (a ∷ us) bs rise = rising-with_name a _ (rising-names_of_both us bs rise)

-- ---- a test that items pass

pub item_of-passes : {X : Type 0} (name_of : X → Name) (p : X → Bool) (name : Name) (xs : List X) → list_all p xs ≡ true → if_there p (item_of name_of name xs) ≡ true
item_of-passes name_of p name [] all = refl
item_of-passes name_of p name (x ∷ xs) all = by (bytes_eq (name_of x) name) (item_of-passes name_of p name xs (right_true (p x) _ all))
  where
    by : (b : Bool) → if_there p (item_of name_of name xs) ≡ true → if_there p (cond b (Some x) (item_of name_of name xs)) ≡ true
    by true rest = left_true (p x) _ all
    by false rest = rest

module _ {U L : Type 0} (u : U → Name) (l : L → Name) (p : Name → Bool) (q : U → Bool) (r : L → Bool) where
  -- a side's name, upper and lower item pass
  abbrev pub side_passes : Side U L → Bool
  side_passes s = p s.name && (if_there q s.upper && if_there r s.lower)

  passes_at : (us : List U) (ls : List L) → list_all q us ≡ true → list_all r ls ≡ true → (names : List Name) → list_all p names ≡ true
      → list_all side_passes (map (side_at u l us ls) names) ≡ true
  passes_at us ls all_us all_ls [] all = refl
  passes_at us ls all_us all_ls (n ∷ names) all =
      both_true (both_true (left_true (p n) _ all) (both_true (item_of-passes u q n us all_us) (item_of-passes l r n ls all_ls)))
      (passes_at us ls all_us all_ls names (right_true (p n) _ all))

  pub sides-pass : (us : List U) (ls : List L) → list_all p (map u us) ≡ true → list_all p (map l ls) ≡ true → list_all q us ≡ true → list_all r ls ≡ true
      → list_all side_passes (sides u l us ls) ≡ true
  unfolding sides
  sides-pass us ls names_us names_ls all_us all_ls = passes_at us ls all_us all_ls _ (all_names_of_both p (map u us) (map l ls) names_us names_ls)

names_of_sides : {U L : Type 0} (u : U → Name) (l : L → Name) (us : List U) (ls : List L) (names : List Name) → map (λ (s : Side U L). s.name) (map (side_at u l us ls) names) ≡ names
names_of_sides u l us ls [] = refl
names_of_sides u l us ls (n ∷ names) = ap (λ rest. n ∷ rest) (names_of_sides u l us ls names)

-- the names of the sides are those of both, in their order
pub name-sides : {U L : Type 0} (u : U → Name) (l : L → Name) (us : List U) (ls : List L) → map (λ s. s.name) (sides u l us ls) ≡ names_of_both (map u us) (map l ls)
unfolding sides
name-sides u l us ls = names_of_sides u l us ls _

-- ---- a name of either

or_swap : (a b c : Bool) → (a || (b || c)) ≡ (b || (a || c))
or_swap true true c = refl
or_swap true false c = refl
or_swap false b c = refl

or_same : (a c : Bool) → (a || c) ≡ (a || (a || c))
or_same true c = refl
or_same false c = refl

or_assoc : (a b c : Bool) → ((a || b) || c) ≡ (a || (b || c))
or_assoc true b c = refl
or_assoc false b c = refl

unfoldable pub is_name : Name → List Name → Bool
is_name name names = list_any (bytes_eq name) names

any-with_name : (n a : Name) (names : List Name) → is_name n (with_name a names) ≡ (bytes_eq n a || is_name n names)
unfolding is_name
any-with_name n a [] = refl
any-with_name n a (b ∷ names) = by (slice_cmp nat_cmp a b) refl (any-with_name n a names)
  where
    by : (o : Ordering) → slice_cmp nat_cmp a b ≡ o → list_any (bytes_eq n) (with_name a names) ≡ (bytes_eq n a || list_any (bytes_eq n) names)
        → list_any (bytes_eq n) (match_ordering o (a ∷ b ∷ names) (b ∷ names) (b ∷ with_name a names)) ≡ (bytes_eq n a || (bytes_eq n b || list_any (bytes_eq n) names))
    by Less o rest = refl
    by Equal o rest = or_same (bytes_eq n b) (list_any (bytes_eq n) names) ∙ ap (λ c. bytes_eq n c || (bytes_eq n b || list_any (bytes_eq n) names)) (sym (equal-cmp a b o))
    by Greater o rest = ap (λ c. bytes_eq n b || c) rest ∙ or_swap (bytes_eq n b) (bytes_eq n a) (list_any (bytes_eq n) names)

any-names_of_both : (n : Name) (us ls : List Name) → is_name n (names_of_both us ls) ≡ (is_name n us || is_name n ls)
unfolding is_name names_of_both
any-names_of_both n [] ls = refl
any-names_of_both n (a ∷ us) ls = any-with_name n a (names_of_both us ls) ∙ ap (λ c. bytes_eq n a || c) (any-names_of_both n us ls) ∙ sym (or_assoc (bytes_eq n a) (list_any (bytes_eq n) us) (list_any (bytes_eq n) ls))

or_none : (a b : Bool) → (a || b) ≡ false → (a ≡ false) × (b ≡ false)
or_none true b e = absurd (cc)
or_none false b e = (refl, e)

-- a name that no item has
item_of-absent : {X : Type 0} (name_of : X → Name) (n : Name) (xs : List X) → is_name n (map name_of xs) ≡ false → item_of name_of n xs ≡ None
unfolding is_name
item_of-absent name_of n [] e = refl
item_of-absent name_of n (x ∷ xs) e =
    let parts = or_none (bytes_eq n (name_of x)) (list_any (bytes_eq n) (map name_of xs)) e in
    ap (λ b. cond b (Some x) (item_of name_of n xs)) (bytes_eq-back false n (name_of x) parts.0) ∙ item_of-absent name_of n xs parts.1

-- a name of neither list has nothing beside it
pub side_at-absent : {U L : Type 0} (u : U → Name) (l : L → Name) (us : List U) (ls : List L) (n : Name) → is_name n (names_of_both (map u us) (map l ls)) ≡ false
    → side_at u l us ls n ≡ record { name = n; upper = None; lower = None }
side_at-absent {U} {L} u l us ls n e =
    let parts = or_none (is_name n (map u us)) (is_name n (map l ls)) (sym (any-names_of_both n (map u us) (map l ls)) ∙ e) in
    ap₂ (λ (a : Option U) (b : Option L). record { name = n; upper = a; lower = b }) (item_of-absent u n us parts.0) (item_of-absent l n ls parts.1)

-- ---- what holds of each side holds at each name

none_each : {S F : Type 0} (f : S → Option F) (at : Name → S) (n : Name) (names : List Name) → first f (map at names) ≡ None → is_name n names ≡ true → f (at n) ≡ None
unfolding is_name
none_each f at n [] none is = absurd (cc)
none_each {F = F} f at n (m ∷ names) none is = by (f (at m)) refl none (bytes_eq n m) refl is (none_each f at n names)
  where
    by : (o : Option F) → f (at m) ≡ o → option_map_or Some o (first f (map at names)) ≡ None → (b : Bool) → bytes_eq n m ≡ b → (b || list_any (bytes_eq n) names) ≡ true
        → (first f (map at names) ≡ None → list_any (bytes_eq n) names ≡ true → f (at n) ≡ None) → f (at n) ≡ None
    by (Some y) is_o none b is_b is later = absurd (cc)
    by None is_o none true is_b is later = ap (λ x. f (at x)) (equal-bytes_eq n m is_b) ∙ is_o
    by None is_o none false is_b is later = later none is

pub none_at : {U L F : Type 0} (u : U → Name) (l : L → Name) (f : Side U L → Option F) (us : List U) (ls : List L) (n : Name)
    → first f (sides u l us ls) ≡ None → f (record { name = n; upper = None; lower = None }) ≡ None → f (side_at u l us ls n) ≡ None
unfolding sides
none_at u l f us ls n none empty = by (is_name n (names_of_both (map u us) (map l ls))) refl
  where
    by : (b : Bool) → is_name n (names_of_both (map u us) (map l ls)) ≡ b → f (side_at u l us ls n) ≡ None
    by true is = none_each f (side_at u l us ls) n _ none is
    by false is = ap f (side_at-absent u l us ls n is) ∙ empty
