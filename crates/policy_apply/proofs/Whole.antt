-- What is left of metadata is metadata.
use Rattle.std.proofs.Common.{◌≡◌, ℕ, List, [], ◌∷◌, Option, Some, None, option_map, unwrap_or, Ok, Err, Bool, true, false, ◌&&◌, not, cond, map, refl, sym, ap, ◌∙◌, rules, inl, inr, arith, zero, suc}
use Rattle.std.specs.Option.{option_map_or, option_or}
use Rattle.std.specs.List.{list_all, join_with_byte, filter_map, cons_option}
use Rattle.std.specs.Str.{IsUtf8, IsAscii, is_utf8}
use Rattle.std.proofs.lemmas.Str.{IsUtf8-append, IsUtf8-from_ascii, IsUtf8-nil, is_utf8-from_IsUtf8, IsUtf8-from_is_utf8}
use Rattle.fed_json.specs.Forms.{is_before, rising, whole, members_whole}
use Rattle.fed_json.specs.Reading.{member_of}
use Rattle.fed_json.specs.Trees.{as_object, object_members, member_name}
use Rattle.fed_json.specs.Sets.{union_of, intersection_of}
use Rattle.fed_json.specs.declared.tree.Json.{Json, Text, List as ListOf, Object, the_lemmas}
use Rattle.fed_json.specs.declared.tree.Member.{Member}
use Rattle.fed_json.proofs.Layers.{whole-Text, whole-List, whole-Object}
use Rattle.fed_json.specs.declared.named.Named.{Named}
use Rattle.policy_merge.specs.declared.operator.Operator.TheVariants.{Add, SubsetOf}
use Rattle.policy_merge.specs.declared.operators.Operators.{Operators}
use Rattle.fed_json.specs.Tables.{Name, Side}
use Rattle.policy_merge.specs.Policies.{Parameters, Types, no_operators, table_formed, operators_formed, parameters_formed, types_formed}
use Rattle.fed_json.specs.Trees.{is_null}
use Rattle.fed_base.specs.Values.{if_there}
use Rattle.fed_json.specs.Metadata.{is_object_of, is_metadata}
use Rattle.policy_merge.specs.Shapes.{as_default}
use Rattle.policy_merge.specs.Scope.{members_of}
use Rattle.policy_merge.specs.Merging.{name_of, value_or}
use Rattle.fed_json.proofs.Booleans.{left_true, right_true, both_true}
use Rattle.fed_json.proofs.Names.{rising-tail}
use Rattle.fed_json.proofs.Order.{first_before, rising-cons}
use Rattle.fed_json.proofs.Accessors.{as_object-Object, whole-members}
use Rattle.fed_json.proofs.Among.{all-union, all-intersection}
use Rattle.fed_json.proofs.NamesOfBoth.{side_passes, sides-pass, rising-names_of_both, name-sides}
use Rattle.policy_merge.proofs.MergedTables.{table-names, table-values}
use Rattle.policy_merge.proofs.Words.{members-whole}
use Rattle.policy_apply.specs.Acting.{Outcome, made, acted, by_add, by_subset_of, with_added, with_kept}
use Rattle.policy_apply.specs.Applying.{beside_members, left_of, outcome_at, applied_parameters, applied_types}
use Rattle.policy_apply.proofs.Courses.{course, set_first}
use Rattle.policy_apply.proofs.Made.{Made, made-ok, texts-list}
use Rattle.policy_apply.proofs.Walking.{members-rise, members-split}
use Rattle.policy_apply.proofs.Places.{type_at, types_given}

-- a parameter's value: it can be written, and isn't null
abbrev pub is_parameter : Json → Bool
is_parameter tree = whole tree && not (is_null tree)

is_null-Text : (bytes : List ℕ) → is_null (Text bytes) ≡ false
is_null-Text bytes = search (rules, the_lemmas)

is_null-List : (list : List Json) → is_null (ListOf list) ≡ false
is_null-List list = search (rules, the_lemmas)

space-ascii : IsAscii (32 ∷ [])
space-ascii zero = omega arith
space-ascii (suc i) = omega arith

space-utf8 : IsUtf8 (32 ∷ [])
space-utf8 = IsUtf8-from_ascii (32 ∷ []) space-ascii

words-utf8 : (ws : List (List ℕ)) → list_all whole (map Text ws) ≡ true → IsUtf8 (join_with_byte 32 ws)
words-utf8 [] good = IsUtf8-nil
words-utf8 (w ∷ []) good = IsUtf8-from_is_utf8 w (sym (whole-Text w) ∙ left_true (whole (Text w)) _ good)
words-utf8 (w ∷ v ∷ ws) good =
    IsUtf8-append w (32 ∷ join_with_byte 32 (v ∷ ws)) (IsUtf8-from_is_utf8 w (sym (whole-Text w) ∙ left_true (whole (Text w)) _ good))
    (IsUtf8-append (32 ∷ []) (join_with_byte 32 (v ∷ ws)) space-utf8 (words-utf8 (v ∷ ws) (right_true (whole (Text w)) _ good)))

made-whole : (p : Name) (before : Option Json) (list : List Json) (y : Option Json) → list_all whole list ≡ true → Made p before list y → if_there is_parameter y ≡ true
made-whole p before list y good (inl is) = ap (if_there is_parameter) is ∙ both_true (whole-List list ∙ good) (ap not (is_null-List list))
made-whole p before list y good (inr m) =
    ap (if_there is_parameter) m.3
    ∙ both_true (whole-Text (join_with_byte 32 m.1) ∙ is_utf8-from_IsUtf8 _ (words-utf8 m.1 (ap (list_all whole) (texts-list list m.1 m.2) ∙ good))) (ap not (is_null-Text (join_with_byte 32 m.1)))

set-good : (o : Operators) (x : Option Json) → if_there whole o.value ≡ true → if_there is_parameter x ≡ true → if_there is_parameter (set_first o x) ≡ true
set-good o x good_v good_x = by o.value good_v
  where
    set : (v : Json) (b : Bool) → is_null v ≡ b → whole v ≡ true → if_there is_parameter (cond b None (Some v)) ≡ true
    set v true is good = refl
    set v false is good = both_true good (ap not is)

    by : (v : Option Json) → if_there whole v ≡ true → if_there is_parameter (option_map_or as_default v x) ≡ true
    by None good = good_x
    by (Some v) good = set v (is_null v) refl good

add-good : (p : Name) (o : Operators) (x y : Option Json) → if_there (list_all whole) o.add ≡ true → if_there is_parameter x ≡ true → by_add p o x ≡ Ok y → if_there is_parameter y ≡ true
unfolding by_add
add-good p o x y good_l good_x e = by o.add x good_l good_x e
  where
    with_members : (list : List Json) (v : Json) (m : Option (List Json)) → members_of p v ≡ m → list_all whole list ≡ true → is_parameter v ≡ true
        → option_map_or (λ members. made p Add (Some v) (union_of members list)) m (Err Add) ≡ Ok y → if_there is_parameter y ≡ true
    with_members list v None is good_l good_v e = absurd (cc)
    with_members list v (Some members) is good_l good_v e =
        made-whole p (Some v) (union_of members list) y (all-union whole members list (members-whole p v members (left_true (whole v) _ good_v) is) good_l) (made-ok p _ (Some v) (union_of members list) y e)

    by : (l : Option (List Json)) (x : Option Json) → if_there (list_all whole) l ≡ true → if_there is_parameter x ≡ true → option_map_or (λ list. with_added p list x) l (Ok x) ≡ Ok y → if_there is_parameter y ≡ true
    by None x good_l good_x e = let same : x ≡ y = (cc) in ap (if_there is_parameter) (sym same) ∙ good_x
    by (Some list) None good_l good_x e = made-whole p None (union_of list []) y (all-union whole list [] good_l refl) (made-ok p _ None (union_of list []) y e)
    by (Some list) (Some v) good_l good_x e = with_members list v (members_of p v) refl good_l good_x e

kept-good : (p : Name) (o : Operators) (x y : Option Json) → if_there is_parameter x ≡ true → by_subset_of p o x ≡ Ok y → if_there is_parameter y ≡ true
unfolding by_subset_of
kept-good p o x y good_x e = by o.subset_of x good_x e
  where
    with_members : (list : List Json) (v : Json) (m : Option (List Json)) → members_of p v ≡ m → is_parameter v ≡ true
        → option_map_or (λ members. made p SubsetOf (Some v) (intersection_of members list)) m (Err SubsetOf) ≡ Ok y → if_there is_parameter y ≡ true
    with_members list v None is good_v e = absurd (cc)
    with_members list v (Some members) is good_v e =
        made-whole p (Some v) (intersection_of members list) y (all-intersection whole members list (members-whole p v members (left_true (whole v) _ good_v) is)) (made-ok p _ (Some v) (intersection_of members list) y e)

    by : (l : Option (List Json)) (x : Option Json) → if_there is_parameter x ≡ true → option_map_or (λ list. with_kept p list x) l (Ok x) ≡ Ok y → if_there is_parameter y ≡ true
    by None x good_x e = let same : x ≡ y = (cc) in ap (if_there is_parameter) (sym same) ∙ good_x
    by (Some list) None good_x e = let same : ◌≡◌ {A = Option Json} None y = (cc) in ap (if_there is_parameter) (sym same)
    by (Some list) (Some v) good_x e = with_members list v (members_of p v) refl good_x e

default-good : (x d : Option Json) → if_there is_parameter x ≡ true → if_there is_parameter d ≡ true → if_there is_parameter (option_or x d) ≡ true
default-good None d good_x good_d = good_d
default-good (Some x) d good_x good_d = good_x

acted-good : (p : Name) (o : Operators) (x y : Option Json) → operators_formed o ≡ true → if_there is_parameter x ≡ true → acted p o x ≡ Ok y → if_there is_parameter y ≡ true
acted-good p o x y good good_x e =
    let c = course p o x y e in
    let o5 = left_true _ (if_there (list_all whole) o.superset_of) good in
    let o4 = left_true _ (if_there (list_all whole) o.subset_of) o5 in
    let o3 = left_true _ (if_there (list_all whole) o.one_of) o4 in
    let o2 = left_true _ (if_there is_parameter o.default) o3 in
    let x1 = set-good o x (left_true _ (if_there (list_all whole) o.add) o2) good_x in
    let x2 = add-good p o (set_first o x) c.added (right_true (if_there whole o.value) _ o2) x1 c.add in
    kept-good p o _ y (default-good c.added o.default x2 (right_true _ (if_there is_parameter o.default) o3)) c.subset_of

-- ---- objects

-- an object whose values pass
abbrev pub is_good : (Json → Bool) → Json → Bool
is_good q t = whole t && is_object_of q t

good-members : (q : Json → Bool) (t : Json) → is_good q t ≡ true → (members_whole (object_members t) ≡ true) × (list_all (λ m. whole m.value && q m.value) (object_members t) ≡ true)
good-members q t good = by (as_object t) refl (right_true (whole t) _ good)
  where
    both : (ms : List Member) → list_all (λ m. is_utf8 m.name && whole m.value) ms ≡ true → list_all (λ m. q m.value) ms ≡ true → list_all (λ m. whole m.value && q m.value) ms ≡ true
    both [] w all = refl
    both (m ∷ ms) w all =
        both_true (both_true (right_true (is_utf8 m.name) _ (left_true (is_utf8 m.name && whole m.value) _ w)) (left_true (q m.value) _ all))
        (both ms (right_true (is_utf8 m.name && whole m.value) _ w) (right_true (q m.value) _ all))

    by : (o : Option (List Member)) → as_object t ≡ o → option_map_or (list_all (λ m. q m.value)) o false ≡ true → (members_whole (unwrap_or o []) ≡ true) × (list_all (λ m. whole m.value && q m.value) (unwrap_or o []) ≡ true)
    by None is all = absurd (cc)
    by (Some ms) is all =
        let w : members_whole ms ≡ true = whole-members t ms (left_true (whole t) _ good) is in
        (w, both ms (right_true (rising (map member_name ms)) _ w) all)

good-Object : (q : Json → Bool) (ms : List Member) → rising (map member_name ms) ≡ true → list_all (λ m. is_utf8 m.name && (whole m.value && q m.value)) ms ≡ true → is_good q (Object ms) ≡ true
good-Object q ms rise all =
    let parts = apart ms all in
    both_true (whole-Object ms ∙ both_true rise parts.0) (ap (λ o. option_map_or (list_all (λ (m : Member). q m.value)) o false) (as_object-Object ms) ∙ parts.1)
  where
    apart : (ms : List Member) → list_all (λ m. is_utf8 m.name && (whole m.value && q m.value)) ms ≡ true → (list_all (λ m. is_utf8 m.name && whole m.value) ms ≡ true) × (list_all (λ m. q m.value) ms ≡ true)
    apart [] all = (refl, refl)
    apart (m ∷ ms) all =
        let here = left_true (is_utf8 m.name && (whole m.value && q m.value)) _ all in
        let value = right_true (is_utf8 m.name) _ here in
        let rest = apart ms (right_true (is_utf8 m.name && (whole m.value && q m.value)) _ all) in (
          both_true (both_true (left_true (is_utf8 m.name) _ here) (left_true (whole m.value) _ value)) rest.0,
          both_true (right_true (whole m.value) _ value) rest.1,
        )

-- ---- what is given of sides

module _ {T : Type 0} (formed : T → Bool) (q : Json → Bool) (g : Side (Named T) Member → Option Json) where
  abbrev pub side_with : Side (Named T) Member → Bool
  side_with = side_passes name_of member_name is_utf8 (λ e. formed e.value) (λ m. whole m.value && q m.value)

  names-behind : (a : Name) (ss : List (Side (Named T) Member)) → list_all (is_before a) (map (λ s. s.name) ss) ≡ true → list_all (is_before a) (map member_name (filter_map (λ s. option_map (member_of s.name) (g s)) ss)) ≡ true
  names-behind a [] all = refl
  names-behind a (s ∷ ss) all = by (g s) (names-behind a ss (right_true (is_before a s.name) _ all))
    where
      by : (o : Option Json) → list_all (is_before a) (map member_name (filter_map (λ s. option_map (member_of s.name) (g s)) ss)) ≡ true
          → list_all (is_before a) (map member_name (cons_option (option_map (member_of s.name) o) (filter_map (λ s. option_map (member_of s.name) (g s)) ss))) ≡ true
      by None rest = rest
      by (Some v) rest = both_true (left_true (is_before a s.name) _ all) rest

  names-rise : (ss : List (Side (Named T) Member)) → rising (map (λ s. s.name) ss) ≡ true → rising (map member_name (filter_map (λ s. option_map (member_of s.name) (g s)) ss)) ≡ true
  names-rise [] rise = refl
  names-rise (s ∷ ss) rise = by (g s) (names-rise ss (rising-tail s.name _ rise))
    where
      by : (o : Option Json) → rising (map member_name (filter_map (λ s. option_map (member_of s.name) (g s)) ss)) ≡ true
          → rising (map member_name (cons_option (option_map (member_of s.name) o) (filter_map (λ s. option_map (member_of s.name) (g s)) ss))) ≡ true
      by None rest = rest
      by (Some v) rest = rising-cons s.name _ (names-behind s.name ss (first_before s.name (map (λ (s : Side (Named T) Member). s.name) ss) rise)) rest

  values-good : ((s : Side (Named T) Member) → side_with s ≡ true → if_there (λ v. whole v && q v) (g s) ≡ true) → (ss : List (Side (Named T) Member)) → list_all side_with ss ≡ true
      → list_all (λ m. is_utf8 m.name && (whole m.value && q m.value)) (filter_map (λ s. option_map (member_of s.name) (g s)) ss) ≡ true
  values-good each [] all = refl
  values-good each (s ∷ ss) all = by (g s) (each s (left_true (side_with s) _ all)) (values-good each ss (right_true (side_with s) _ all))
    where
      by : (o : Option Json) → if_there (λ v. whole v && q v) o ≡ true → list_all (λ m. is_utf8 m.name && (whole m.value && q m.value)) (filter_map (λ s. option_map (member_of s.name) (g s)) ss) ≡ true
          → list_all (λ m. is_utf8 m.name && (whole m.value && q m.value)) (cons_option (option_map (member_of s.name) o) (filter_map (λ s. option_map (member_of s.name) (g s)) ss)) ≡ true
      by None here rest = rest
      by (Some v) here rest = both_true (both_true (left_true (is_utf8 s.name) _ (left_true (side_with s) _ all)) here) rest

  given-good : ((s : Side (Named T) Member) → side_with s ≡ true → if_there (λ v. whole v && q v) (g s) ≡ true) → (us : List (Named T)) (t : Json) → table_formed formed us ≡ true → is_good q t ≡ true
      → is_good q (Object (filter_map (λ s. option_map (member_of s.name) (g s)) (beside_members us (object_members t)))) ≡ true
  given-good each us t good_u good_t =
      let ms = good-members q t good_t in
      good-Object q _ (names-rise (beside_members us (object_members t)) (ap rising (name-sides name_of member_name us (object_members t)) ∙ rising-names_of_both (map name_of us) (map member_name (object_members t)) (members-rise (object_members t) ms.0)))
      (values-good each (beside_members us (object_members t))
      (sides-pass name_of member_name is_utf8 (λ (e : Named T). formed e.value) (λ (m : Member). whole m.value && q m.value) us (object_members t) (table-names formed us good_u) (members-split (object_members t) ms.0).0 (table-values formed us good_u) ms.1))

-- ---- both levels

left-good : (p : Name) (o : Operators) (x : Option Json) → operators_formed o ≡ true → if_there is_parameter x ≡ true → if_there is_parameter (left_of (acted p o x)) ≡ true
left-good p o x good good_x = by (acted p o x) refl
  where
    by : (r : Outcome) → acted p o x ≡ r → if_there is_parameter (left_of r) ≡ true
    by (Ok y) is = acted-good p o x y good good_x is
    by (Err operator) is = refl

value-there : (q : Json → Bool) (o : Option Member) → if_there (λ m. whole m.value && q m.value) o ≡ true → if_there (λ v. whole v && q v) (option_map (λ m. m.value) o) ≡ true
value-there q None good = refl
value-there q (Some m) good = good

parameter-good : (s : Side (Named Operators) Member) → side_with operators_formed (λ v. not (is_null v)) (λ s. left_of (outcome_at s)) s ≡ true → if_there is_parameter (left_of (outcome_at s)) ≡ true
parameter-good s good =
    let values = right_true (is_utf8 s.name) _ good in
    left-good s.name (value_or no_operators s.upper) (option_map (λ (m : Member). m.value) s.lower)
    (upper s.upper (left_true (if_there (λ (e : Named Operators). operators_formed e.value) s.upper) _ values))
    (value-there (λ v. not (is_null v)) s.lower (right_true (if_there (λ (e : Named Operators). operators_formed e.value) s.upper) _ values))
  where
    upper : (o : Option (Named Operators)) → if_there (λ e. operators_formed e.value) o ≡ true → operators_formed (value_or no_operators o) ≡ true
    upper None there = refl
    upper (Some e) there = there

parameters-good : (us : Parameters) (t : Json) → parameters_formed us ≡ true → is_good (λ v. not (is_null v)) t ≡ true → is_good (λ v. not (is_null v)) (Object (applied_parameters us (object_members t))) ≡ true
unfolding applied_parameters
parameters-good us t good_u good_t = given-good operators_formed (λ v. not (is_null v)) (λ s. left_of (outcome_at s)) parameter-good us t good_u good_t

type-good : (s : Side (Named Parameters) Member) → side_with parameters_formed (is_object_of (λ v. not (is_null v))) type_at s ≡ true → if_there (is_good (λ v. not (is_null v))) (type_at s) ≡ true
type-good s good =
    let values = right_true (is_utf8 s.name) _ good in
    by s.lower (upper s.upper (left_true (if_there (λ (e : Named Parameters). parameters_formed e.value) s.upper) _ values)) (right_true (if_there (λ (e : Named Parameters). parameters_formed e.value) s.upper) _ values)
  where
    upper : (o : Option (Named Parameters)) → if_there (λ e. parameters_formed e.value) o ≡ true → parameters_formed (value_or [] o) ≡ true
    upper None there = refl
    upper (Some e) there = there

    by : (o : Option Member) → parameters_formed (value_or [] s.upper) ≡ true → if_there (λ m. whole m.value && is_object_of (λ v. not (is_null v)) m.value) o ≡ true
        → if_there (is_good (λ v. not (is_null v))) (option_map (λ m. Object (applied_parameters (value_or [] s.upper) (object_members m.value))) o) ≡ true
    by None good_u good_m = refl
    by (Some m) good_u good_m = parameters-good (value_or [] s.upper) m.value good_u good_m

pub types-good : (us : Types) (t : Json) → types_formed us ≡ true → is_metadata t ≡ true → is_metadata (Object (applied_types us (object_members t))) ≡ true
unfolding applied_types
types-good us t good_u good_t =
    ap (λ ms. is_metadata (Object ms)) (types_given (beside_members us (object_members t)))
    ∙ given-good parameters_formed (is_object_of (λ v. not (is_null v))) type_at type-good us t good_u good_t
