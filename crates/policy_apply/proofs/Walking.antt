-- A policy's table and an object's members, one side at a time.
use Rattle.std.proofs.Common.{◌≡◌, List, [], ◌∷◌, Option, Some, None, option_map, unwrap_or, Ok, Err, Bool, true, ◌&&◌, map, refl, sym, ap, ap₂, ◌∙◌, subst}
use Rattle.std.specs.Option.{option_and_then}
use Rattle.std.specs.List.{list_all, filter_map}
use Rattle.std.specs.Str.{is_utf8}
use Rattle.fed_base.specs.Answers.{unless}
use Rattle.fed_json.specs.Forms.{rising, whole, members_whole}
use Rattle.fed_json.specs.Reading.{member_of}
use Rattle.fed_json.specs.Trees.{as_object, object_members, member_name}
use Rattle.fed_json.specs.declared.tree.Json.{Json, Object}
use Rattle.fed_json.specs.declared.tree.Member.{Member}
use Rattle.fed_json.specs.declared.named.Named.{Named}
use Rattle.policy_merge.specs.declared.operators.Operators.{Operators}
use Rattle.fed_json.specs.Tables.{Name, Side, first}
use Rattle.policy_merge.specs.Policies.{Parameters, Types, no_operators, table_formed}
use Rattle.fed_base.specs.Values.{if_there}
use Rattle.policy_merge.specs.Merging.{name_of, value_or}
use Rattle.fed_json.proofs.Booleans.{left_true, right_true, both_true}
use Rattle.fed_json.proofs.Accessors.{whole-members}
use Rattle.fed_json.proofs.Firsts.{unless_ok, unless_err}
use Rattle.fed_json.proofs.NamesOfBoth.{side_passes, sides-pass}
use Rattle.policy_merge.proofs.MergedTables.{table-names, table-values}
use Rattle.policy_apply.specs.declared.fault.ApplyFault.{ApplyFault}
use Rattle.policy_apply.specs.declared.fault.ApplyFault.TheVariants.{Refused, Memory}
use Rattle.policy_apply.specs.Acting.{Outcome, acted}
use Rattle.policy_apply.specs.Applying.{beside_members, left_of, refuser, outcome_at, parameter_left, parameter_refusal, applied_parameters, parameters_refusal, type_left, type_refusal, applied_types, types_refusal, leaving, applying_parameters, applying_types, Gives}

-- ---- answers

-- a fault that is handed on
pub gives_on : {T U : Type 0} (f : ApplyFault) (o : Option ApplyFault) (value : T) (o' : Option ApplyFault) (value' : U)
    → Gives (Err f) (unless o value) → ((e : ApplyFault) → o ≡ Some e → o' ≡ Some e) → Gives (Err f) (unless o' value')
gives_on Memory o value o' value' is later = tt
gives_on (Refused t p g) o value o' value' is later = ap (λ x. unless x value') (later _ (unless_err o value _ is))

leaving_err : {U : Type 0} (t p : Name) (r : Outcome) (f : ApplyFault) (o' : Option ApplyFault) (value' : U) → Gives {T = Option Json} (Err f) (leaving t p r)
    → ((e : ApplyFault) → option_map (λ operator. Refused t p operator) (refuser r) ≡ Some e → o' ≡ Some e) → Gives (Err f) (unless o' value')
leaving_err t p r Memory o' value' gives later = tt
leaving_err t p (Ok x) (Refused a b c) o' value' gives later = absurd (cc)
leaving_err t p (Err operator) (Refused a b c) o' value' gives later =
    let same : Refused t p operator ≡ Refused a b c = (cc) in ap (λ x. unless x value') (later (Refused t p operator) refl) ∙ ap Err same

leaving_ok : (t p : Name) (r : Outcome) (x : Option Json) → leaving t p r ≡ Ok x → r ≡ Ok x
leaving_ok t p (Ok y) x e = let same : y ≡ x = (cc) in ap Ok same
leaving_ok t p (Err operator) x e = absurd (cc)

-- ---- parameters

module _ (t : Name) (s : Side (Named Operators) Member) (o : Operators) (x : Option Json) (is_o : o ≡ value_or no_operators s.upper) (is_x : x ≡ option_map (λ m. m.value) s.lower) where
  outcome_is : acted s.name o x ≡ outcome_at s
  outcome_is = ap₂ (acted s.name) is_o is_x

  pub parameter-err : (us : Parameters) (ms : List Member) (f : ApplyFault) → Gives {T = Option Json} (Err f) (leaving t s.name (acted s.name o x))
      → ((e : ApplyFault) → parameter_refusal t s ≡ Some e → first (parameter_refusal t) (beside_members us ms) ≡ Some e) → Gives {T = List Member} (Err f) (applying_parameters t us ms)
  unfolding applying_parameters parameters_refusal
  parameter-err us ms f gives later =
      leaving_err t s.name (outcome_at s) f _ _ (subst (λ r. Gives {T = Option Json} (Err f) (leaving t s.name r)) outcome_is gives) later

  pub parameter-ok : (v : Option Json) → leaving t s.name (acted s.name o x) ≡ Ok v → (parameter_refusal t s ≡ None) × (parameter_left s ≡ option_map (member_of s.name) v)
  parameter-ok v ok =
      let is : outcome_at s ≡ Ok v = sym outcome_is ∙ leaving_ok t s.name _ v ok in (
        ap (λ r. option_map (λ operator. Refused t s.name operator) (refuser r)) is,
        ap (λ r. option_map (member_of s.name) (left_of r)) is,
      )

pub parameters-applied : (t : Name) (us : Parameters) (ms got : List Member) → (first (parameter_refusal t) (beside_members us ms) ≡ None) × (filter_map parameter_left (beside_members us ms) ≡ got)
    → applying_parameters t us ms ≡ Ok got
unfolding applying_parameters parameters_refusal applied_parameters
parameters-applied t us ms got both = ap₂ unless both.0 both.1

-- ---- entity types

module _ (s : Side (Named Parameters) Member) where
  pub type-none : s.lower ≡ None → (type_refusal s ≡ None) × (type_left s ≡ None)
  type-none none = (
    ap (option_and_then (λ (m : Member). parameters_refusal s.name (value_or [] s.upper) (object_members m.value))) none,
    ap (option_map (λ (m : Member). member_of s.name (Object (applied_parameters (value_or [] s.upper) (object_members m.value))))) none,
  )

  module _ (m : Member) (u : Parameters) (ps : List Member) (is_m : s.lower ≡ Some m) (is_u : u ≡ value_or [] s.upper) (is_ps : ps ≡ object_members m.value) where
    refusal_is : parameters_refusal s.name u ps ≡ type_refusal s
    refusal_is =
        ap₂ (parameters_refusal s.name) is_u is_ps
        ∙ sym (ap (option_and_then (λ (m : Member). parameters_refusal s.name (value_or [] s.upper) (object_members m.value))) is_m)

    pub type-err : (us : Types) (ms : List Member) (f : ApplyFault) → Gives {T = List Member} (Err f) (applying_parameters s.name u ps)
        → ((e : ApplyFault) → type_refusal s ≡ Some e → first type_refusal (beside_members us ms) ≡ Some e) → Gives {T = List Member} (Err f) (applying_types us ms)
    unfolding applying_parameters applying_types types_refusal
    type-err us ms f gives later = gives_on f _ _ _ _ gives (λ e some. later e (sym refusal_is ∙ some))

    pub type-ok : (v : List Member) → applying_parameters s.name u ps ≡ Ok v → (type_refusal s ≡ None) × (type_left s ≡ Some (member_of s.name (Object v)))
    unfolding applying_parameters
    type-ok v ok =
        let both = unless_ok _ _ v ok in (
          sym refusal_is ∙ both.0,
          ap (option_map (λ (m : Member). member_of s.name (Object (applied_parameters (value_or [] s.upper) (object_members m.value))))) is_m
              ∙ ap (λ ps. Some (member_of s.name (Object ps))) (ap₂ applied_parameters (sym is_u) (sym is_ps) ∙ both.1),
        )

pub types-applied : (us : Types) (ms got : List Member) → (first type_refusal (beside_members us ms) ≡ None) × (filter_map type_left (beside_members us ms) ≡ got)
    → applying_types us ms ≡ Ok got
unfolding applying_types types_refusal applied_types
types-applied us ms got both = ap₂ unless both.0 both.1

-- ---- what is formed

split_members : (ms : List Member) → list_all (λ m. is_utf8 m.name && whole m.value) ms ≡ true → (list_all is_utf8 (map member_name ms) ≡ true) × (list_all (λ m. whole m.value) ms ≡ true)
split_members [] good = (refl, refl)
split_members (m ∷ ms) good =
    let here = left_true (is_utf8 m.name && whole m.value) _ good in
    let rest = split_members ms (right_true (is_utf8 m.name && whole m.value) _ good) in
    (both_true (left_true (is_utf8 m.name) _ here) rest.0, both_true (right_true (is_utf8 m.name) _ here) rest.1)

pub members-rise : (ms : List Member) → members_whole ms ≡ true → rising (map member_name ms) ≡ true
members-rise ms good = left_true (rising (map member_name ms)) _ good

pub members-split : (ms : List Member) → members_whole ms ≡ true → (list_all is_utf8 (map member_name ms) ≡ true) × (list_all (λ m. whole m.value) ms ≡ true)
members-split ms good = split_members ms (right_true (rising (map member_name ms)) _ good)

-- the members of a tree that can be written
pub object_members-whole : (t : Json) → whole t ≡ true → members_whole (object_members t) ≡ true
object_members-whole t good = by (as_object t) refl
  where
    by : (o : Option (List Member)) → as_object t ≡ o → members_whole (unwrap_or o []) ≡ true
    by None is = refl
    by (Some ms) is = whole-members t ms good is

-- a side whose name is UTF-8, whose upper value is formed and whose lower value can be written
abbrev pub side_good : {T : Type 0} → (T → Bool) → Side (Named T) Member → Bool
side_good formed = side_passes name_of member_name is_utf8 (λ e. formed e.value) (λ m. whole m.value)

pub beside-good : {T : Type 0} (formed : T → Bool) (us : List (Named T)) (ms : List Member) → table_formed formed us ≡ true → members_whole ms ≡ true → list_all (side_good formed) (beside_members us ms) ≡ true
beside-good {T} formed us ms good_u good_m =
    let members = members-split ms good_m in
    sides-pass name_of member_name is_utf8 (λ (e : Named T). formed e.value) (λ (m : Member). whole m.value) us ms (table-names formed us good_u) members.0 (table-values formed us good_u) members.1

pub upper-good : {T : Type 0} (formed : T → Bool) (none : T) → formed none ≡ true → (s : Side (Named T) Member) → side_good formed s ≡ true → formed (value_or none s.upper) ≡ true
upper-good {T} formed none nothing s good = by s.upper (left_true (if_there (λ (e : Named T). formed e.value) s.upper) _ (right_true (is_utf8 s.name) _ good))
  where
    by : (o : Option (Named T)) → if_there (λ e. formed e.value) o ≡ true → formed (value_or none o) ≡ true
    by None there = nothing
    by (Some e) there = there

pub lower-good : {T : Type 0} (formed : T → Bool) (s : Side (Named T) Member) (m : Member) → side_good formed s ≡ true → s.lower ≡ Some m → whole m.value ≡ true
lower-good {T} formed s m good is =
    sym (ap (if_there (λ (m : Member). whole m.value)) is) ∙ right_true (if_there (λ (e : Named T). formed e.value) s.upper) _ (right_true (is_utf8 s.name) _ good)
