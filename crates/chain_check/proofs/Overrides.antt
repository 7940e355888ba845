-- Metadata with a superior's put over it, and without some types, is metadata.
use Rattle.std.proofs.Common.{◌≡◌, ◌<◌, ◌≤◌, ◌++◌, ◌∷◌, [], List, Bool, true, false, ◌&&◌, not, map, filter, bytes_eq, length, take, get_or, refl, sym, ap, ◌∙◌, append-nil, append_assoc}
use Rattle.std.specs.Prelude.{ℕ, Option, Some, None, unwrap_or}
use Rattle.std.specs.Borrow.{Bor}
use Rattle.std.specs.Option.{option_copied, option_map_or, option_or}
use Rattle.std.specs.List.{cons_option, filter_map, list_all}
use Rattle.std.specs.Str.{is_utf8}
use Rattle.std.proofs.lemmas.Bool.{cond_both}
use Rattle.std.proofs.lemmas.List.{take_all}
use Rattle.std.proofs.lemmas.List.Elements.{All-get_or}
use Rattle.std.proofs.lemmas.List.Sums.{AllPass-from_list_all}
use Rattle.fed_json.specs.declared.tree.Json.{Json, Object}
use Rattle.fed_json.specs.declared.tree.Member.{Member}
use Rattle.fed_json.specs.Forms.{is_before, members_whole, rising, whole}
use Rattle.fed_json.specs.Trees.{as_object, find, member_name, object_members}
use Rattle.fed_json.proofs.Accessors.{as_object-Object, Object-as_object}
use Rattle.fed_json.proofs.Layers.{whole-Object}
use Rattle.fed_json.specs.Metadata.{IsMetadata, is_metadata, is_object_of}
use Rattle.fed_base.specs.Values.{if_there}
use Rattle.fed_json.specs.Trees.{is_null}
use Rattle.fed_json.specs.Tables.{Name, Side, item_of, side_at, sides}
use Rattle.fed_json.proofs.Booleans.{left_true, right_true, both_true}
use Rattle.fed_json.proofs.Names.{rising-tail}
use Rattle.fed_json.proofs.Order.{first_before, rising-cons, equal-bytes_eq}
use Rattle.fed_json.proofs.NamesOfBoth.{item_of-passes, rising-names_of_both}
use Rattle.chain_limits.specs.declared.place.Place.{Place}
use Rattle.chain_limits.specs.Types.{is_allowed, members_allowed, types_allowed}
use Rattle.chain_limits.proofs.Kept.{types_allowed-Object}
use Rattle.chain_check.specs.Metadata.{parameters_over, put_over, type_over, upper_first}

-- a member whose value has a text and passes
abbrev pub passes : (Json → Bool) → Member → Bool
passes test m = is_utf8 m.name && (whole m.value && test m.value)

-- members that rise, each of which passes
abbrev pub formed : (Json → Bool) → List Member → Bool
formed test ms = rising (map member_name ms) && list_all (passes test) ms

-- what a parameter's value, and an entity type's, must be besides
abbrev pub is_value : Json → Bool
is_value tree = not (is_null tree)

abbrev pub is_type : Json → Bool
is_type tree = is_object_of is_value tree

-- ---- an object whose members are formed

join_all : (test : Json → Bool) (ms : List Member) → list_all (λ m. is_utf8 m.name && whole m.value) ms ≡ true → list_all (λ m. test m.value) ms ≡ true → list_all (passes test) ms ≡ true
join_all test [] a b = refl
join_all test (m ∷ ms) a b =
    let one = left_true (is_utf8 m.name && whole m.value) _ a in
    both_true (both_true (left_true (is_utf8 m.name) _ one) (both_true (right_true (is_utf8 m.name) _ one) (left_true (test m.value) _ b)))
    (join_all test ms (right_true (is_utf8 m.name && whole m.value) _ a) (right_true (test m.value) _ b))

split_all : (test : Json → Bool) (ms : List Member) → list_all (passes test) ms ≡ true → (list_all (λ m. is_utf8 m.name && whole m.value) ms ≡ true) × (list_all (λ m. test m.value) ms ≡ true)
split_all test [] all = (refl, refl)
split_all test (m ∷ ms) all =
    let one = left_true (passes test m) _ all in
    let rest = split_all test ms (right_true (passes test m) _ all) in
    let values = right_true (is_utf8 m.name) _ one in
    (both_true (both_true (left_true (is_utf8 m.name) _ one) (left_true (whole m.value) _ values)) rest.0, both_true (right_true (whole m.value) _ values) rest.1)

-- a tree that has a text and is an object of what passes
abbrev pub is_formed : (Json → Bool) → Json → Bool
is_formed test tree = whole tree && is_object_of test tree

pub is_formed-Object : (test : Json → Bool) (ms : List Member) → formed test ms ≡ true → is_formed test (Object ms) ≡ true
is_formed-Object test ms good =
    let parts = split_all test ms (right_true (rising (map member_name ms)) _ good) in
    both_true (whole-Object ms ∙ both_true (left_true (rising (map member_name ms)) _ good) parts.0)
    (ap (λ o. option_map_or (list_all (λ m. test m.value)) o false) (as_object-Object ms) ∙ parts.1)

formed-of : (test : Json → Bool) (tree : Json) (o : Option (List Member)) → as_object tree ≡ o → is_formed test tree ≡ true → formed test (unwrap_or o []) ≡ true
formed-of test tree None is good =
    let bad : false ≡ true = sym (ap (λ o. option_map_or (list_all (λ m. test m.value)) o false) is) ∙ right_true (whole tree) _ good in cc bad
formed-of test tree (Some ms) is good =
    let whole_ms : members_whole ms ≡ true = sym (whole-Object ms) ∙ ap whole (sym (Object-as_object tree ms is)) ∙ left_true (whole tree) _ good in
    let all : list_all (λ m. test m.value) ms ≡ true = sym (ap (λ o. option_map_or (list_all (λ m. test m.value)) o false) is) ∙ right_true (whole tree) _ good in
    both_true (left_true (rising (map member_name ms)) _ whole_ms) (join_all test ms (right_true (rising (map member_name ms)) _ whole_ms) all)

pub formed-members_in : (test : Json → Bool) (tree : Json) → is_formed test tree ≡ true → formed test (object_members tree) ≡ true
formed-members_in test tree good = formed-of test tree (as_object tree) refl good

-- what stands under a name is formed, and nothing where nothing stands there
find-passes : (test : Json → Bool) (name : List ℕ) (ms : List Member) → list_all (passes test) ms ≡ true → if_there (λ tree. whole tree && test tree) (find name ms) ≡ true
find-passes test name [] all = refl
find-passes test name (m ∷ ms) all =
    cond_both (bytes_eq m.name name) (Some m.value) (find name ms) (λ o. if_there (λ tree. whole tree && test tree) o ≡ true)
    (λ same. right_true (is_utf8 m.name) _ (left_true (passes test m) _ all)) (λ other. find-passes test name ms (right_true (passes test m) _ all))

pub formed-found : (test : Json → Bool) (o : Option Json) → if_there (is_formed test) o ≡ true → formed test (option_map_or object_members o []) ≡ true
formed-found test None good = refl
formed-found test (Some tree) good = formed-members_in test tree good

pub formed-find : (name : List ℕ) (ms : List Member) → formed is_type ms ≡ true → formed is_value (option_map_or object_members (find name ms) []) ≡ true
formed-find name ms good = formed-found is_value (find name ms) (find-passes is_type name ms (right_true (rising (map member_name ms)) _ good))

pub rises : (test : Json → Bool) (ms : List Member) → formed test ms ≡ true → rising (map member_name ms) ≡ true
rises test ms good = left_true (rising (map member_name ms)) _ good

-- ---- members picked of two lists side by side

picked-passes : (p : Member → Bool) (a b : Option Member) → if_there p a ≡ true → if_there p b ≡ true → if_there p (option_or a b) ≡ true
picked-passes p (Some m) b good_a good_b = good_a
picked-passes p None b good_a good_b = good_b

cons_passes : (p : Member → Bool) (o : Option Member) (rest : List Member) → if_there p o ≡ true → list_all p rest ≡ true → list_all p (cons_option o rest) ≡ true
cons_passes p None rest good all = all
cons_passes p (Some m) rest good all = both_true good all

all_picked : (p : Member → Bool) (us ls : List Member) (names : List Name) → list_all p us ≡ true → list_all p ls ≡ true
    → list_all p (filter_map upper_first (map (side_at member_name member_name us ls) names)) ≡ true
all_picked p us ls [] all_u all_l = refl
all_picked p us ls (n ∷ names) all_u all_l =
    cons_passes p (option_or (item_of member_name n us) (item_of member_name n ls)) _
    (picked-passes p (item_of member_name n us) (item_of member_name n ls) (item_of-passes member_name p n us all_u) (item_of-passes member_name p n ls all_l))
    (all_picked p us ls names all_u all_l)

-- the name of what is found under a name
item_of-name : (n : Name) (ms : List Member) → if_there (λ m. bytes_eq m.name n) (item_of member_name n ms) ≡ true
item_of-name n [] = refl
item_of-name n (m ∷ ms) = cond_both (bytes_eq m.name n) (Some m) (item_of member_name n ms) (λ o. if_there (λ x. bytes_eq x.name n) o ≡ true) (λ same. same) (λ other. item_of-name n ms)

cons_before : (a n : Name) (o : Option Member) (rest : List Member) → is_before a n ≡ true → if_there (λ m. bytes_eq m.name n) o ≡ true → list_all (is_before a) (map member_name rest) ≡ true
    → list_all (is_before a) (map member_name (cons_option o rest)) ≡ true
cons_before a n None rest before named all = all
cons_before a n (Some m) rest before named all = both_true (ap (is_before a) (equal-bytes_eq m.name n named) ∙ before) all

before_picked : (a : Name) (us ls : List Member) (names : List Name) → list_all (is_before a) names ≡ true
    → list_all (is_before a) (map member_name (filter_map upper_first (map (side_at member_name member_name us ls) names))) ≡ true
before_picked a us ls [] all = refl
before_picked a us ls (n ∷ names) all =
    cons_before a n (option_or (item_of member_name n us) (item_of member_name n ls)) _ (left_true (is_before a n) _ all)
    (picked-passes (λ m. bytes_eq m.name n) (item_of member_name n us) (item_of member_name n ls) (item_of-name n us) (item_of-name n ls))
    (before_picked a us ls names (right_true (is_before a n) _ all))

cons_rises : (n : Name) (o : Option Member) (rest : List Member) → if_there (λ m. bytes_eq m.name n) o ≡ true → list_all (is_before n) (map member_name rest) ≡ true → rising (map member_name rest) ≡ true
    → rising (map member_name (cons_option o rest)) ≡ true
cons_rises n None rest named before rise = rise
cons_rises n (Some m) rest named before rise = rising-cons m.name (map member_name rest) (ap (λ x. list_all (is_before x) (map member_name rest)) (equal-bytes_eq m.name n named) ∙ before) rise

rising_picked : (us ls : List Member) (names : List Name) → rising names ≡ true → rising (map member_name (filter_map upper_first (map (side_at member_name member_name us ls) names))) ≡ true
rising_picked us ls [] rise = refl
rising_picked us ls (n ∷ names) rise =
    cons_rises n (option_or (item_of member_name n us) (item_of member_name n ls)) _
    (picked-passes (λ m. bytes_eq m.name n) (item_of member_name n us) (item_of member_name n ls) (item_of-name n us) (item_of-name n ls))
    (before_picked n us ls names (first_before n names rise)) (rising_picked us ls names (rising-tail n names rise))

pub formed-parameters_over : (test : Json → Bool) (us ls : List Member) → formed test us ≡ true → formed test ls ≡ true → formed test (parameters_over us ls) ≡ true
unfolding parameters_over sides
formed-parameters_over test us ls good_u good_l =
    both_true (rising_picked us ls _ (rising-names_of_both (map member_name us) (map member_name ls) (rises test ls good_l)))
    (all_picked (passes test) us ls _ (right_true (rising (map member_name us)) _ good_u) (right_true (rising (map member_name ls)) _ good_l))

-- ---- entity types

type_over-passes : (upper : List Member) (m : Member) → formed is_type upper ≡ true → passes is_type m ≡ true → passes is_type (type_over upper m) ≡ true
type_over-passes upper m good_u good =
    let own : formed is_value (object_members m.value) ≡ true = formed-members_in is_value m.value (right_true (is_utf8 m.name) _ good) in
    both_true (left_true (is_utf8 m.name) _ good)
    (is_formed-Object is_value (parameters_over (option_map_or object_members (find m.name upper) []) (object_members m.value)) (formed-parameters_over is_value _ _ (formed-find m.name upper good_u) own))

all_types_over : (upper ms : List Member) → formed is_type upper ≡ true → list_all (passes is_type) ms ≡ true → list_all (passes is_type) (map (type_over upper) ms) ≡ true
all_types_over upper [] good_u all = refl
all_types_over upper (m ∷ ms) good_u all = both_true (type_over-passes upper m good_u (left_true (passes is_type m) _ all)) (all_types_over upper ms good_u (right_true (passes is_type m) _ all))

names_over : (upper ms : List Member) → map member_name (map (type_over upper) ms) ≡ map member_name ms
names_over upper [] = refl
names_over upper (m ∷ ms) = ap (λ names. m.name ∷ names) (names_over upper ms)

pub formed-types_over : (upper ms : List Member) → formed is_type upper ≡ true → formed is_type ms ≡ true → formed is_type (map (type_over upper) ms) ≡ true
formed-types_over upper ms good_u good = both_true (ap rising (names_over upper ms) ∙ rises is_type ms good) (all_types_over upper ms good_u (right_true (rising (map member_name ms)) _ good))

pub metadata-put_over : (upper metadata : Json) → IsMetadata upper → IsMetadata metadata → IsMetadata (put_over upper metadata)
unfolding put_over
metadata-put_over upper metadata good_u good =
    is_formed-Object is_type _ (formed-types_over (object_members upper) (object_members metadata) (formed-members_in is_type upper good_u) (formed-members_in is_type metadata good))

-- ---- types that are allowed

filter_all : (q p : Member → Bool) (ms : List Member) → list_all q ms ≡ true → list_all q (filter p ms) ≡ true
filter_all q p [] all = refl
filter_all q p (m ∷ ms) all =
    let rest = filter_all q p ms (right_true (q m) _ all) in
    cond_both (p m) (m ∷ filter p ms) (filter p ms) (λ kept. list_all q kept ≡ true) (λ _. both_true (left_true (q m) _ all) rest) (λ _. rest)

filter_before : (a : Name) (p : Member → Bool) (ms : List Member) → list_all (is_before a) (map member_name ms) ≡ true → list_all (is_before a) (map member_name (filter p ms)) ≡ true
filter_before a p [] all = refl
filter_before a p (m ∷ ms) all =
    let rest = filter_before a p ms (right_true (is_before a m.name) _ all) in
    cond_both (p m) (m ∷ filter p ms) (filter p ms) (λ kept. list_all (is_before a) (map member_name kept) ≡ true) (λ _. both_true (left_true (is_before a m.name) _ all) rest) (λ _. rest)

filter_rises : (p : Member → Bool) (ms : List Member) → rising (map member_name ms) ≡ true → rising (map member_name (filter p ms)) ≡ true
filter_rises p [] rise = refl
filter_rises p (m ∷ ms) rise =
    let rest = filter_rises p ms (rising-tail m.name (map member_name ms) rise) in
    cond_both (p m) (m ∷ filter p ms) (filter p ms) (λ kept. rising (map member_name kept) ≡ true)
    (λ _. rising-cons m.name (map member_name (filter p ms)) (filter_before m.name p ms (first_before m.name (map member_name ms) rise)) rest) (λ _. rest)

formed-filter : (test : Json → Bool) (p : Member → Bool) (ms : List Member) → formed test ms ≡ true → formed test (filter p ms) ≡ true
formed-filter test p ms good = both_true (filter_rises p ms (rises test ms good)) (filter_all (passes test) p ms (right_true (rising (map member_name ms)) _ good))

-- metadata is an object
allowed-of : (places : List Place) (metadata : Json) (o : Option (List Member)) → as_object metadata ≡ o → IsMetadata metadata → IsMetadata (types_allowed places metadata)
allowed-of places metadata None is good =
    let bad : false ≡ true = sym (ap (λ o. option_map_or (list_all (λ m. is_type m.value)) o false) is) ∙ right_true (whole metadata) _ good in cc bad
allowed-of places metadata (Some ms) is good =
    let own : formed is_type ms ≡ true = ap (λ o. formed is_type (unwrap_or o [])) (sym is) ∙ formed-members_in is_type metadata good in
    ap is_metadata (types_allowed-Object places metadata ms is) ∙ is_formed-Object is_type (members_allowed places ms) (formed-filter is_type (λ m. is_allowed places m.name) ms own)

pub metadata-types_allowed : (places : List Place) (metadata : Json) → IsMetadata metadata → IsMetadata (types_allowed places metadata)
metadata-types_allowed places metadata good = allowed-of places metadata (as_object metadata) refl good

-- ---- the walk of two lists side by side

copied-or : (a b : Option (Bor Member)) → option_or (option_copied a) (option_copied b) ≡ option_copied (option_or a b)
copied-or (Some m) b = refl
copied-or None b = refl

module _ (us ls us' ls' : List Member) (name : Name) (upper lower : Option (Bor Member)) where
  abbrev side : Side Member Member
  side = record { name = name; upper = option_copied upper; lower = option_copied lower }

  over-step : sides member_name member_name us ls ≡ side ∷ sides member_name member_name us' ls' → parameters_over us ls ≡ cons_option (upper_first side) (parameters_over us' ls')
  unfolding parameters_over
  over-step next = ap (filter_map upper_first) next

  pub over-more : (m : Bor Member) (whole all more : List Member) → sides member_name member_name us ls ≡ side ∷ sides member_name member_name us' ls' → option_or upper lower ≡ Some m
      → whole ≡ all ++ parameters_over us ls → more ≡ all ++ m.now ∷ [] → whole ≡ more ++ parameters_over us' ls'
  over-more m whole all more next picked so_far pushed =
      let one : upper_first side ≡ Some m.now = copied-or upper lower ∙ ap option_copied picked in
      so_far ∙ ap (λ rest. all ++ rest) (over-step next ∙ ap (λ o. cons_option o (parameters_over us' ls')) one) ∙ sym (append_assoc all (m.now ∷ []) (parameters_over us' ls'))
      ∙ ap (λ xs. xs ++ parameters_over us' ls') (sym pushed)

  pub over-same : (whole all : List Member) → sides member_name member_name us ls ≡ side ∷ sides member_name member_name us' ls' → option_or upper lower ≡ None
      → whole ≡ all ++ parameters_over us ls → whole ≡ all ++ parameters_over us' ls'
  over-same whole all next picked so_far =
      let none : upper_first side ≡ None = copied-or upper lower ∙ ap option_copied picked in
      so_far ∙ ap (λ rest. all ++ rest) (over-step next ∙ ap (λ o. cons_option o (parameters_over us' ls')) none)

pub over-end : (us ls whole all : List Member) → sides member_name member_name us ls ≡ [] → whole ≡ all ++ parameters_over us ls → all ≡ whole
unfolding parameters_over
over-end us ls whole all end so_far = sym (so_far ∙ ap (λ rest. all ++ filter_map upper_first rest) end ∙ append-nil all)

-- ---- the walk of a leaf's types

pub own-rises : (ms : List Member) (i : ℕ) (d : Member) → i < length ms → formed is_type ms ≡ true → rising (map member_name (object_members (get_or ms i d).value)) ≡ true
own-rises ms i d short good =
    let each = All-get_or (λ m. passes is_type m ≡ true) ms i d short (AllPass-from_list_all (passes is_type) ms (right_true (rising (map member_name ms)) _ good)) in
    rises is_value (object_members (get_or ms i d).value) (formed-members_in is_value (get_or ms i d).value (right_true (is_utf8 (get_or ms i d).name) _ each))

pub upper-rises : (name : List ℕ) (ms : List Member) → formed is_type ms ≡ true → rising (map member_name (option_map_or object_members (find name ms) [])) ≡ true
upper-rises name ms good = rises is_value (option_map_or object_members (find name ms) []) (formed-find name ms good)

pub put-all : (upper metadata : Json) (us ms types : List Member) (i : ℕ) → us ≡ object_members upper → ms ≡ object_members metadata → length ms ≤ i
    → types ≡ map (type_over us) (take i ms) → Object types ≡ put_over upper metadata
unfolding put_over
put-all upper metadata us ms types i is_us is_ms all so_far = ap Object (so_far ∙ ap (map (type_over us)) (take_all i ms all ∙ is_ms) ∙ ap (λ u. map (type_over u) (object_members metadata)) is_us)

pub formed-types : (tree : Json) (ms : List Member) → ms ≡ object_members tree → IsMetadata tree → formed is_type ms ≡ true
formed-types tree ms is good = ap (formed is_type) is ∙ formed-members_in is_type tree good
