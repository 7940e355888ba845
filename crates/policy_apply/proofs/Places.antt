-- What is left, and what is refused, at each entity type and parameter.
use Rattle.std.proofs.Common.{◌≡◌, inl, inr, List, [], ◌∷◌, Option, Some, None, option_map, unwrap_or, Ok, Err, Bool, true, false, ◌||◌, cond, map, bytes_eq, refl, sym, ap, ap₂, ◌∙◌, subst}
use Rattle.std.specs.Option.{option_and_then}
use Rattle.std.specs.List.{list_all, list_any, filter_map, cons_option}
use Rattle.std.specs.Str.{is_utf8}
use Rattle.fed_base.specs.Answers.{unless}
use Rattle.fed_json.specs.Forms.{is_before, rising, whole}
use Rattle.fed_json.specs.Reading.{member_of}
use Rattle.fed_json.specs.Trees.{find, object_members, member_name}
use Rattle.fed_json.specs.declared.tree.Json.{Json, Object}
use Rattle.fed_json.specs.declared.tree.Member.{Member}
use Rattle.fed_json.specs.declared.named.Named.{Named}
use Rattle.policy_merge.specs.declared.operator.Operator.{Operator}
use Rattle.policy_merge.specs.declared.operators.Operators.{Operators}
use Rattle.fed_json.specs.Tables.{Name, names_of_both, item_of, Side, side_at, sides}
use Rattle.policy_merge.specs.Policies.{Parameters, Types, no_operators, operators_formed, parameters_formed, types_formed, parameters_at, operators_at}
use Rattle.fed_base.specs.Values.{if_there}
use Rattle.policy_merge.specs.Merging.{name_of, value_or}
use Rattle.fed_json.proofs.Booleans.{left_true, right_true}
use Rattle.fed_json.proofs.Order.{equal-bytes_eq, bytes_eq-back}
use Rattle.fed_json.proofs.Options.{option_map_none}
use Rattle.fed_json.proofs.Accessors.{as_object-Object}
use Rattle.fed_json.proofs.Firsts.{unless_ok, unless_err}
use Rattle.fed_json.proofs.NamesOfBoth.{is_name, item_of-passes, side_at-absent, none_at}
use Rattle.fed_json.proofs.LeastSides.{LeastSide, least_side}
use Rattle.policy_merge.proofs.MergedTables.{table-names, table-values}
use Rattle.policy_apply.specs.declared.fault.ApplyFault.{ApplyFault}
use Rattle.policy_apply.specs.declared.fault.ApplyFault.TheVariants.{Refused, Memory}
use Rattle.policy_apply.specs.Acting.{Outcome, acted, by_value, by_add, by_default, by_one_of, by_subset_of, by_superset_of, by_essential, is_there}
use Rattle.policy_apply.specs.Applying.{beside_members, left_of, refuser, outcome_at, parameter_refusal, applied_parameters, parameters_refusal, type_left, type_refusal, applied_types, types_refusal, applying_types, applying, Gives, value_at, parameter_at, HasType, outcome_in, IsFirstRefusal, NamesUtf8}
use Rattle.policy_apply.proofs.Walking.{gives_on, members-rise, members-split, object_members-whole}

-- a parameter without operators stays
pub acted-nothing : (p : Name) (x : Option Json) → acted p no_operators x ≡ Ok x
unfolding acted by_value by_add by_default by_one_of by_subset_of by_superset_of by_essential
acted-nothing p None = refl
acted-nothing p (Some x) = refl

-- ---- looking up

found-item : (n : Name) (ms : List Member) → find n ms ≡ option_map (λ m. m.value) (item_of member_name n ms)
found-item n [] = refl
found-item n (m ∷ ms) = by (bytes_eq m.name n) (found-item n ms)
  where
    by : (b : Bool) → find n ms ≡ option_map (λ m. m.value) (item_of member_name n ms) → cond b (Some m.value) (find n ms) ≡ option_map (λ m. m.value) (cond b (Some m) (item_of member_name n ms))
    by true rest = refl
    by false rest = rest

pub object_members-Object : (ms : List Member) → object_members (Object ms) ≡ ms
object_members-Object ms = ap (λ o. unwrap_or o []) (as_object-Object ms)

-- the name that an item is found under
item-utf8 : {X : Type 0} (name_of : X → Name) (n : Name) (xs : List X) (x : X) → list_all is_utf8 (map name_of xs) ≡ true → item_of name_of n xs ≡ Some x → is_utf8 n ≡ true
item-utf8 name_of n [] x all is = absurd (cc)
item-utf8 {X} name_of n (y ∷ xs) x all is = by (bytes_eq (name_of y) n) refl is (item-utf8 name_of n xs x (right_true (is_utf8 (name_of y)) _ all))
  where
    by : (b : Bool) → bytes_eq (name_of y) n ≡ b → cond b (Some y) (item_of name_of n xs) ≡ Some x → (item_of name_of n xs ≡ Some x → is_utf8 n ≡ true) → is_utf8 n ≡ true
    by true is_b is later = ap is_utf8 (sym (equal-bytes_eq (name_of y) n is_b)) ∙ left_true (is_utf8 (name_of y)) _ all
    by false is_b is later = later is

-- the member that a name has, where the metadata has the entity type
has_type-item : (t : Json) (n : Name) → HasType t n → (m : Member) × (item_of member_name n (object_members t) ≡ Some m)
has_type-item t n there = by (item_of member_name n (object_members t)) refl
  where
    by : (o : Option Member) → item_of member_name n (object_members t) ≡ o → (m : Member) × (item_of member_name n (object_members t) ≡ Some m)
    by (Some m) is = (m, is)
    by None is = let none : false ≡ true = sym (ap is_there (found-item n (object_members t) ∙ ap (option_map (λ (m : Member). m.value)) is)) ∙ there in absurd (cc)

item-has_type : (t : Json) (n : Name) (m : Member) → item_of member_name n (object_members t) ≡ Some m → HasType t n
item-has_type t n m is = ap is_there (found-item n (object_members t) ∙ ap (option_map (λ (m : Member). m.value)) is)

-- the outcome at a place, as the walk sees it
place : (us : Types) (t : Json) (ty p : Name) (m : Member) → item_of member_name ty (object_members t) ≡ Some m
    → outcome_in us t ty p ≡ outcome_at (side_at name_of member_name (parameters_at us ty) (object_members m.value) p)
place us t ty p m is =
    ap (acted p (operators_at us ty p)) (ap (option_and_then (λ tree. value_at tree p)) (found-item ty (object_members t) ∙ ap (option_map (λ (m : Member). m.value)) is) ∙ found-item p (object_members m.value))

-- ---- what is given at a name

found-given : {U : Type 0} (us : List U) (u : U → Name) (ms : List Member) (g : Side U Member → Option Json) (n : Name) (names : List Name)
    → find n (filter_map (λ s. option_map (member_of s.name) (g s)) (map (side_at u member_name us ms) names)) ≡ cond (is_name n names) (g (side_at u member_name us ms n)) None
unfolding is_name
found-given us u ms g n [] = refl
found-given {U} us u ms g n (m ∷ names) = by (bytes_eq m n) refl (g (side_at u member_name us ms m)) refl (found-given us u ms g n names)
  where
    at : Name → Side U Member
    at = side_at u member_name us ms

    answer : Side U Member → Option Member
    answer = λ s. option_map (member_of s.name) (g s)

    by : (b : Bool) → bytes_eq m n ≡ b → (o : Option Json) → g (at m) ≡ o → find n (filter_map answer (map at names)) ≡ cond (list_any (bytes_eq n) names) (g (at n)) None
        → find n (cons_option (option_map (member_of m) o) (filter_map answer (map at names))) ≡ cond (bytes_eq n m || list_any (bytes_eq n) names) (g (at n)) None
    by true is_b (Some v) is_o rest =
        ap (λ b. cond b (Some v) (find n (filter_map answer (map at names)))) is_b
        ∙ sym (ap (λ b. cond (b || list_any (bytes_eq n) names) (g (at n)) None) (bytes_eq-back true m n is_b) ∙ ap (λ x. g (at x)) (sym (equal-bytes_eq m n is_b)) ∙ is_o)
    by true is_b None is_o rest =
        let none : g (at n) ≡ None = ap (λ x. g (at x)) (sym (equal-bytes_eq m n is_b)) ∙ is_o in
        rest ∙ cond_none (list_any (bytes_eq n) names) none ∙ sym (ap (λ b. cond (b || list_any (bytes_eq n) names) (g (at n)) None) (bytes_eq-back true m n is_b) ∙ none)
      where
        cond_none : (b : Bool) → g (at n) ≡ None → cond b (g (at n)) None ≡ None
        cond_none true none = none
        cond_none false none = refl
    by false is_b (Some v) is_o rest =
        ap (λ b. cond b (Some v) (find n (filter_map answer (map at names)))) is_b ∙ rest ∙ sym (ap (λ b. cond (b || list_any (bytes_eq n) names) (g (at n)) None) (bytes_eq-back false m n is_b))
    by false is_b None is_o rest = rest ∙ sym (ap (λ b. cond (b || list_any (bytes_eq n) names) (g (at n)) None) (bytes_eq-back false m n is_b))

found-beside : {U : Type 0} (us : List U) (u : U → Name) (ms : List Member) (g : Side U Member → Option Json) (n : Name) → g (record { name = n; upper = None; lower = None }) ≡ None
    → find n (filter_map (λ s. option_map (member_of s.name) (g s)) (sides u member_name us ms)) ≡ g (side_at u member_name us ms n)
unfolding sides
found-beside us u ms g n nothing = found-given us u ms g n (names_of_both (map u us) (map member_name ms)) ∙ by (is_name n (names_of_both (map u us) (map member_name ms))) refl
  where
    by : (b : Bool) → is_name n (names_of_both (map u us) (map member_name ms)) ≡ b → cond b (g (side_at u member_name us ms n)) None ≡ g (side_at u member_name us ms n)
    by true is = refl
    by false is = sym (ap g (side_at-absent u member_name us ms n is) ∙ nothing)

parameter_found : (us : Parameters) (ms : List Member) (p : Name) → find p (applied_parameters us ms) ≡ left_of (outcome_at (side_at name_of member_name us ms p))
unfolding applied_parameters
parameter_found us ms p = found-beside us name_of ms (λ s. left_of (outcome_at s)) p (ap left_of (acted-nothing p None))

-- the parameters that are left of an entity type
abbrev applied_at : Types → Name → Option Member → Option Json
applied_at us ty = option_map (λ m. Object (applied_parameters (parameters_at us ty) (object_members m.value)))

abbrev pub type_at : Side (Named Parameters) Member → Option Json
type_at s = option_map (λ m. Object (applied_parameters (value_or [] s.upper) (object_members m.value))) s.lower

type_member : (o : Option Member) (n : Name) (ps : Parameters) → option_map (λ m. member_of n (Object (applied_parameters ps (object_members m.value)))) o
    ≡ option_map (member_of n) (option_map (λ m. Object (applied_parameters ps (object_members m.value))) o)
type_member None n ps = refl
type_member (Some m) n ps = refl

pub types_given : (ss : List (Side (Named Parameters) Member)) → filter_map type_left ss ≡ filter_map (λ s. option_map (member_of s.name) (type_at s)) ss
types_given [] = refl
types_given (s ∷ ss) = ap₂ cons_option (type_member s.lower s.name (value_or [] s.upper)) (types_given ss)

type_found : (us : Types) (ms : List Member) (ty : Name) → find ty (applied_types us ms) ≡ applied_at us ty (item_of member_name ty ms)
unfolding applied_types
type_found us ms ty = ap (find ty) (types_given (beside_members us ms)) ∙ found-beside us name_of ms type_at ty refl

-- ---- the answer

pub applying-ok : (us us' : Types) (t : Json) (ms' got : List Member) → us' ≡ us → ms' ≡ object_members t → applying_types us' ms' ≡ Ok got
    → (types_refusal us (object_members t) ≡ None) × (applied_types us (object_members t) ≡ got)
unfolding applying_types
applying-ok us us' t ms' got is_u is_m ok = unless_ok _ _ got (ap₂ (λ us ms. unless (types_refusal us ms) (applied_types us ms)) (sym is_u) (sym is_m) ∙ ok)

pub applying-is : (us : Types) (t : Json) (got : List Member) → (types_refusal us (object_members t) ≡ None) × (applied_types us (object_members t) ≡ got) → applying us t ≡ Ok (Object got)
unfolding applying
applying-is us t got both = ap₂ unless both.0 (ap Object both.1)

pub applying-err : (us us' : Types) (t : Json) (ms' : List Member) (f : ApplyFault) → us' ≡ us → ms' ≡ object_members t → Gives {T = List Member} (Err f) (applying_types us' ms') → Gives {T = Json} (Err f) (applying us t)
unfolding applying_types applying
applying-err us us' t ms' f is_u is_m gives = gives_on f _ _ _ _ gives (λ e some. ap₂ types_refusal (sym is_u) (sym is_m) ∙ some)

left_is : (r : Outcome) → refuser r ≡ None → r ≡ Ok (left_of r)
left_is (Ok x) e = refl
left_is (Err operator) e = absurd (cc)

-- no parameter of a type that isn't refused is
parameter_clear : (ty p : Name) (us : Parameters) (ms : List Member) → parameters_refusal ty us ms ≡ None → refuser (outcome_at (side_at name_of member_name us ms p)) ≡ None
unfolding parameters_refusal
parameter_clear ty p us ms none =
    option_map_none (λ operator. Refused ty p operator) _ (none_at name_of member_name (parameter_refusal ty) us ms p none (ap (λ r. option_map (λ operator. Refused ty p operator) (refuser r)) (acted-nothing p None)))

type_clear : (us : Types) (ms : List Member) (ty : Name) (m : Member) → type_refusal (side_at name_of member_name us ms ty) ≡ None → item_of member_name ty ms ≡ Some m
    → parameters_refusal ty (parameters_at us ty) (object_members m.value) ≡ None
type_clear us ms ty m none is =
    sym (ap (option_and_then (λ (m : Member). parameters_refusal ty (parameters_at us ty) (object_members m.value))) is) ∙ none

pub acted-at : (us : Types) (t : Json) → types_refusal us (object_members t) ≡ None → (ty p : Name) → HasType t ty → outcome_in us t ty p ≡ Ok (parameter_at (Object (applied_types us (object_members t))) ty p)
unfolding types_refusal
acted-at us t none ty p there =
    let item = has_type-item t ty there in
    let m = item.0 in
    let side = side_at name_of member_name (parameters_at us ty) (object_members m.value) p in
    let clear = parameter_clear ty p (parameters_at us ty) (object_members m.value) (type_clear us (object_members t) ty m (none_at name_of member_name type_refusal us (object_members t) ty none refl) item.1) in
    let found : parameter_at (Object (applied_types us (object_members t))) ty p ≡ left_of (outcome_at side) =
    ap (option_and_then (λ tree. value_at tree p)) (ap (find ty) (object_members-Object (applied_types us (object_members t))) ∙ type_found us (object_members t) ty ∙ ap (applied_at us ty) item.1)
    ∙ ap (find p) (object_members-Object (applied_parameters (parameters_at us ty) (object_members m.value))) ∙ parameter_found (parameters_at us ty) (object_members m.value) p in
    place us t ty p m item.1 ∙ left_is (outcome_at side) clear ∙ ap Ok (sym found)

pub types-same : (us : Types) (t : Json) (ty : Name) → (HasType (Object (applied_types us (object_members t))) ty → HasType t ty) × (HasType t ty → HasType (Object (applied_types us (object_members t))) ty)
types-same us t ty = by (item_of member_name ty (object_members t)) refl
  where
    tree : Json
    tree = Object (applied_types us (object_members t))

    by : (o : Option Member) → item_of member_name ty (object_members t) ≡ o → (HasType tree ty → HasType t ty) × (HasType t ty → HasType tree ty)
    by (Some m) is = (
      λ there. item-has_type t ty m is,
      λ there. ap is_there (ap (find ty) (object_members-Object (applied_types us (object_members t))) ∙ type_found us (object_members t) ty ∙ ap (applied_at us ty) is),
    )
    by None is = (
      λ there. let none : false ≡ true = sym (ap is_there (ap (find ty) (object_members-Object (applied_types us (object_members t))) ∙ type_found us (object_members t) ty ∙ ap (applied_at us ty) is)) ∙ there in absurd (cc),
      λ there. let none : false ≡ true = sym (ap is_there (found-item ty (object_members t) ∙ ap (option_map (λ (m : Member). m.value)) is)) ∙ there in absurd (cc),
    )

-- ---- the first refusal

refused_is : (ty p : Name) (r : Outcome) (a b : Name) (operator : Operator) → option_map (λ operator. Refused ty p operator) (refuser r) ≡ Some (Refused a b operator)
    → (ty ≡ a) × (p ≡ b) × (r ≡ Err operator)
refused_is ty p (Ok x) a b operator e = absurd (cc)
refused_is ty p (Err g) a b operator e =
    let same : Refused ty p g ≡ Refused a b operator = (cc) in
    let is_g : g ≡ operator = (cc) in
    ((cc), (cc), ap Err is_g)

at_parameter : (ty : Name) (us : Parameters) (ms : List Member) (a b : Name) (operator : Operator) → rising (map member_name ms) ≡ true → parameters_refusal ty us ms ≡ Some (Refused a b operator)
    → (ty ≡ a) × (outcome_at (side_at name_of member_name us ms b) ≡ Err operator) × ((p : Name) → is_before p b ≡ true → refuser (outcome_at (side_at name_of member_name us ms p)) ≡ None)
unfolding parameters_refusal
at_parameter ty us ms a b operator rise e =
    let l = least_side name_of member_name (parameter_refusal ty) us ms (Refused a b operator) rise (λ n. ap (λ r. option_map (λ operator. Refused ty n operator) (refuser r)) (acted-nothing n None)) e in
    let is = refused_is ty l.name (outcome_at (side_at name_of member_name us ms l.name)) a b operator l.here in (
      is.0,
      subst (λ n. outcome_at (side_at name_of member_name us ms n) ≡ Err operator) is.1 is.2,
      λ p early. option_map_none (λ operator. Refused ty p operator) _ (l.before p (ap (is_before p) is.1 ∙ early)),
    )

first_refusal : (us : Types) (t : Json) (a b : Name) (operator : Operator) → whole t ≡ true → types_refusal us (object_members t) ≡ Some (Refused a b operator) → IsFirstRefusal us t (Refused a b operator)
unfolding types_refusal
first_refusal us t a b operator good e =
    let l = least_side name_of member_name type_refusal us (object_members t) (Refused a b operator) (members-rise (object_members t) (object_members-whole t good)) (λ n. refl) e in
    by l (item_of member_name l.name (object_members t)) refl
  where
    by : (l : LeastSide name_of member_name type_refusal us (object_members t) (Refused a b operator)) (o : Option Member) → item_of member_name l.name (object_members t) ≡ o → IsFirstRefusal us t (Refused a b operator)
    by l None is = let none : ◌≡◌ {A = Option ApplyFault} None (Some (Refused a b operator)) = sym (ap (option_and_then (λ (m : Member). parameters_refusal l.name (parameters_at us l.name) (object_members m.value))) is) ∙ l.here in absurd (cc)
    by l (Some m) is =
        let whole_m : whole m.value ≡ true =
        sym (ap (if_there (λ (m : Member). whole m.value)) is) ∙ item_of-passes member_name (λ (m : Member). whole m.value) l.name (object_members t) (members-split (object_members t) (object_members-whole t good)).1 in
        let p = at_parameter l.name (parameters_at us l.name) (object_members m.value) a b operator (members-rise (object_members m.value) (object_members-whole m.value whole_m))
        (sym (ap (option_and_then (λ (m : Member). parameters_refusal l.name (parameters_at us l.name) (object_members m.value))) is) ∙ l.here) in
        let here = place us t l.name b m is ∙ p.1 in (
          subst (HasType t) p.0 (item-has_type t l.name m is),
          subst (λ n. outcome_in us t n b ≡ Err operator) p.0 here,
          λ ty q there early. elim early [
            | inl before ↦
                let item = has_type-item t ty there in
                ap refuser (place us t ty q item.0 item.1) ∙ parameter_clear ty q (parameters_at us ty) (object_members item.0.value)
                (type_clear us (object_members t) ty item.0 (l.before ty (ap (is_before ty) p.0 ∙ before)) item.1)
            | inr same ↦ subst (λ n. refuser (outcome_in us t n q) ≡ None) (p.0 ∙ sym same.0) (ap refuser (place us t l.name q m is) ∙ p.2 q same.1)
          ],
        )

pub applying-first : (us us' : Types) (t : Json) (ms' : List Member) (f : ApplyFault) → whole t ≡ true → us' ≡ us → ms' ≡ object_members t → Gives {T = List Member} (Err f) (applying_types us' ms') → IsFirstRefusal us t f
unfolding applying_types
applying-first us us' t ms' Memory good is_u is_m gives = tt
applying-first us us' t ms' (Refused a b operator) good is_u is_m gives =
    first_refusal us t a b operator good (ap₂ types_refusal (sym is_u) (sym is_m) ∙ unless_err _ _ _ gives)

-- ---- the names in it

parameter-utf8 : (us : Parameters) (ms : List Member) (p : Name) (operator : Operator) → list_all is_utf8 (map name_of us) ≡ true → list_all is_utf8 (map member_name ms) ≡ true
    → outcome_at (side_at name_of member_name us ms p) ≡ Err operator → is_utf8 p ≡ true
parameter-utf8 us ms p operator good_u good_m e = by (item_of name_of p us) (item_of member_name p ms) refl refl
  where
    by : (u : Option (Named Operators)) (l : Option Member) → item_of name_of p us ≡ u → item_of member_name p ms ≡ l → is_utf8 p ≡ true
    by (Some u) l is_u is_l = item-utf8 name_of p us u good_u is_u
    by None (Some m) is_u is_l = item-utf8 member_name p ms m good_m is_l
    by None None is_u is_l =
        let nothing : ◌≡◌ {A = Outcome} (Ok None) (Err operator) = sym (ap₂ (λ (u : Option (Named Operators)) (l : Option Member). acted p (value_or no_operators u) (option_map (λ (m : Member). m.value) l)) is_u is_l ∙ acted-nothing p None) ∙ e in
        absurd (cc)

pub first-utf8 : (us : Types) (t : Json) (f : ApplyFault) → types_formed us ≡ true → whole t ≡ true → IsFirstRefusal us t f → NamesUtf8 f
first-utf8 us t Memory good_u good_t is = tt
first-utf8 us t (Refused a b operator) good_u good_t is =
    let members = members-split (object_members t) (object_members-whole t good_t) in
    let item = has_type-item t a is.0 in
    let whole_m : whole item.0.value ≡ true =
    sym (ap (if_there (λ (m : Member). whole m.value)) item.1) ∙ item_of-passes member_name (λ (m : Member). whole m.value) a (object_members t) members.1 in
    let parameters = members-split (object_members item.0.value) (object_members-whole item.0.value whole_m) in (
      item-utf8 member_name a (object_members t) item.0 members.0 item.1,
      parameter-utf8 (parameters_at us a) (object_members item.0.value) b operator (policy_names (item_of name_of a us) refl) parameters.0 (sym (place us t a b item.0 item.1) ∙ is.1),
    )
  where
    policy_names : (o : Option (Named Parameters)) → item_of name_of a us ≡ o → list_all is_utf8 (map name_of (value_or [] o)) ≡ true
    policy_names None is_o = refl
    policy_names (Some e) is_o =
        table-names operators_formed e.value (sym (ap (if_there (λ (e : Named Parameters). parameters_formed e.value)) is_o) ∙ item_of-passes name_of (λ (e : Named Parameters). parameters_formed e.value) a us (table-values parameters_formed us good_u))
