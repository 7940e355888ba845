-- The empty policy on either side, and that a merged policy combines.
use Rattle.std.proofs.Common.{◌≡◌, List, [], ◌∷◌, Option, Some, None, option_map, Bool, true, false, ◌||◌, cond, map, refl, ap, ap₂, ◌∙◌}
use Rattle.std.specs.Option.{option_map_or}
use Rattle.std.specs.List.{list_all}
use Rattle.fed_json.specs.Forms.{rising}
use Rattle.fed_json.specs.Sets.{same, union_of, intersection_of}
use Rattle.policy_merge.specs.declared.operators.Operators.{Operators}
use Rattle.fed_json.specs.declared.named.Named.{Named}
use Rattle.policy_merge.specs.declared.operator.Operator.TheVariants.{Value, Default}
use Rattle.fed_json.specs.Tables.{Name, Side, first}
use Rattle.policy_merge.specs.Policies.{Parameters, Types, named, no_operators, operators_formed, parameters_formed, types_formed}
use Rattle.fed_base.specs.Answers.{unless}
use Rattle.policy_merge.specs.Combining.{if_both, clash, conflict_at, conflict_in_parameters, conflict_in}
use Rattle.policy_merge.specs.Merging.{met, merged_operators, merge_clash, name_of, beside, merged_parameter, merged_parameters, merged_type, merged, parameter_conflict, parameters_conflict, type_conflict, merge_conflict, merging}
use Rattle.fed_json.proofs.Booleans.{left_true, right_true}
use Rattle.fed_json.proofs.Names.{rising-tail}
use Rattle.fed_json.proofs.Options.{option_map_none}
use Rattle.fed_json.proofs.SideBySide.{sides-upper, sides-lower, sides-none}
use Rattle.policy_merge.proofs.MergedTables.{table-rises, table-values}

-- ---- one side alone

abbrev above : {T : Type 0} → Named T → Side (Named T) (Named T)
above e = record { name = e.name; upper = Some e; lower = None }

abbrev below : {T : Type 0} → Named T → Side (Named T) (Named T)
below e = record { name = e.name; upper = None; lower = Some e }

beside-above : {T : Type 0} (us : List (Named T)) → rising (map name_of us) ≡ true → beside us [] ≡ map above us
beside-above [] rise = sides-none name_of name_of
beside-above (e ∷ us) rise = sides-upper name_of name_of e us [] rise refl ∙ ap (λ rest. above e ∷ rest) (beside-above us (rising-tail e.name _ rise))

beside-below : {T : Type 0} (ls : List (Named T)) → rising (map name_of ls) ≡ true → beside [] ls ≡ map below ls
beside-below [] rise = sides-none name_of name_of
beside-below (e ∷ ls) rise = sides-lower name_of name_of [] e ls rise refl ∙ ap (λ rest. below e ∷ rest) (beside-below ls (rising-tail e.name _ rise))

met-none : {X : Type 0} (both : X → X → X) (o : Option X) → met both o None ≡ o
met-none both None = refl
met-none both (Some x) = refl

pub merged_operators-above : (o : Operators) → merged_operators o no_operators ≡ o
merged_operators-above o = λ i. record {
  value = met-none (λ u l. u) o.value i;
  add = met-none union_of o.add i;
  default = met-none (λ u l. u) o.default i;
  one_of = met-none intersection_of o.one_of i;
  subset_of = met-none intersection_of o.subset_of i;
  superset_of = met-none union_of o.superset_of i;
  essential = met-none (λ u l. u || l) o.essential i;
}

pub merged_operators-below : (o : Operators) → merged_operators no_operators o ≡ o
merged_operators-below o = refl

if_both-above : {X Y : Type 0} (test : X → Y → Bool) (o : Option X) → if_both test o None ≡ true
if_both-above test None = refl
if_both-above test (Some x) = refl

pub merge_clash-above : (name : Name) (o : Operators) → merge_clash name o no_operators ≡ clash name o
unfolding merge_clash
merge_clash-above name o = rw (if_both-above same o.value, if_both-above same o.default) (ap (clash name) (merged_operators-above o))

merge_clash-below : (name : Name) (o : Operators) → merge_clash name no_operators o ≡ clash name o
unfolding merge_clash
merge_clash-below name o = refl

map-same : {X Y : Type 0} (f : Y → X) (g : X → Y) (p : X → Bool) → ((x : X) → p x ≡ true → f (g x) ≡ x) → (xs : List X) → list_all p xs ≡ true → map f (map g xs) ≡ xs
map-same f g p each [] all = refl
map-same f g p each (x ∷ xs) all = ap₂ (λ y ys. y ∷ ys) (each x (left_true (p x) _ all)) (map-same f g p each xs (right_true (p x) _ all))

first-same : {X Y F : Type 0} (f : Y → Option F) (g : X → Y) (h : X → Option F) (p : X → Bool) → ((x : X) → p x ≡ true → f (g x) ≡ h x) → (xs : List X) → list_all p xs ≡ true → first f (map g xs) ≡ first h xs
first-same f g h p each [] all = refl
first-same f g h p each (x ∷ xs) all = ap₂ (λ o rest. option_map_or Some o rest) (each x (left_true (p x) _ all)) (first-same f g h p each xs (right_true (p x) _ all))

every : {X : Type 0} (xs : List X) → list_all (λ _. true) xs ≡ true
every [] = refl
every (x ∷ xs) = every xs

parameters-above : (t : Name) (us : Parameters) → parameters_formed us ≡ true → (merged_parameters us [] ≡ us) × (parameters_conflict t us [] ≡ conflict_in_parameters t us)
unfolding merged_parameters parameters_conflict conflict_in_parameters
parameters-above t us good =
    let alone = beside-above us (table-rises operators_formed us good) in (
      ap (map merged_parameter) alone ∙ map-same merged_parameter above (λ _. true) (λ e _. ap (named e.name) (merged_operators-above e.value)) us (every us),
      ap (first (parameter_conflict t)) alone
          ∙ first-same (parameter_conflict t) above (λ (e : Named Operators). option_map (conflict_at t e.name) (clash e.name e.value)) (λ _. true) (λ e _. ap (option_map (conflict_at t e.name)) (merge_clash-above e.name e.value)) us (every us),
    )

parameters-below : (t : Name) (ls : Parameters) → parameters_formed ls ≡ true → (merged_parameters [] ls ≡ ls) × (parameters_conflict t [] ls ≡ conflict_in_parameters t ls)
unfolding merged_parameters parameters_conflict conflict_in_parameters
parameters-below t ls good =
    let alone = beside-below ls (table-rises operators_formed ls good) in (
      ap (map merged_parameter) alone ∙ map-same merged_parameter below (λ _. true) (λ e _. refl) ls (every ls),
      ap (first (parameter_conflict t)) alone
          ∙ first-same (parameter_conflict t) below (λ (e : Named Operators). option_map (conflict_at t e.name) (clash e.name e.value)) (λ _. true) (λ e _. ap (option_map (conflict_at t e.name)) (merge_clash-below e.name e.value)) ls (every ls),
    )

-- merging with the empty policy gives the policy itself, or its own first conflict
pub merging-above : (us : Types) → types_formed us ≡ true → merging us [] ≡ unless (conflict_in us) us
unfolding merging merged merge_conflict conflict_in
merging-above us good =
    let alone = beside-above us (table-rises parameters_formed us good) in
    let values = table-values parameters_formed us good in
    ap₂ (λ o types. unless o types)
    (ap (first type_conflict) alone ∙ first-same type_conflict above (λ (t : Named Parameters). conflict_in_parameters t.name t.value) (λ t. parameters_formed t.value) (λ t good. (parameters-above t.name t.value good).1) us values)
    (ap (map merged_type) alone ∙ map-same merged_type above (λ t. parameters_formed t.value) (λ t good. ap (named t.name) (parameters-above t.name t.value good).0) us values)

pub merging-below : (ls : Types) → types_formed ls ≡ true → merging [] ls ≡ unless (conflict_in ls) ls
unfolding merging merged merge_conflict conflict_in
merging-below ls good =
    let alone = beside-below ls (table-rises parameters_formed ls good) in
    let values = table-values parameters_formed ls good in
    ap₂ (λ o types. unless o types)
    (ap (first type_conflict) alone ∙ first-same type_conflict below (λ (t : Named Parameters). conflict_in_parameters t.name t.value) (λ t. parameters_formed t.value) (λ t good. (parameters-below t.name t.value good).1) ls values)
    (ap (map merged_type) alone ∙ map-same merged_type below (λ t. parameters_formed t.value) (λ t good. ap (named t.name) (parameters-below t.name t.value good).0) ls values)

-- ---- a merged policy combines

first_none : {X Y F G : Type 0} (f : X → Option F) (g : X → Y) (h : Y → Option G) → ((x : X) → f x ≡ None → h (g x) ≡ None) → (xs : List X) → first f xs ≡ None → first h (map g xs) ≡ None
first_none f g h each [] none = refl
first_none {F = F} f g h each (x ∷ xs) none = by (f x) refl none (first_none f g h each xs)
  where
    by : (o : Option F) → f x ≡ o → option_map_or Some o (first f xs) ≡ None → (first f xs ≡ None → first h (map g xs) ≡ None) → option_map_or Some (h (g x)) (first h (map g xs)) ≡ None
    by None is none later = ap₂ (λ o rest. option_map_or Some o rest) (each x is) (later none)
    by (Some y) is none later = absurd (cc)

pub merge_clash-none : (name : Name) (u l : Operators) → merge_clash name u l ≡ None → clash name (merged_operators u l) ≡ None
unfolding merge_clash
merge_clash-none name u l none = by (if_both same u.value l.value) (if_both same u.default l.default) none
  where
    by : (a b : Bool) → cond a (cond b (clash name (merged_operators u l)) (Some (Default, Default))) (Some (Value, Value)) ≡ None → clash name (merged_operators u l) ≡ None
    by true true none = none
    by true false none = absurd (cc)
    by false b none = absurd (cc)

parameters-combine : (t : Name) (us ls : Parameters) → parameters_conflict t us ls ≡ None → conflict_in_parameters t (merged_parameters us ls) ≡ None
unfolding parameters_conflict merged_parameters conflict_in_parameters
parameters-combine t us ls none =
    first_none (parameter_conflict t) merged_parameter (λ (p : Named Operators). option_map (conflict_at t p.name) (clash p.name p.value))
    (λ s clear. ap (option_map (conflict_at t s.name)) (merge_clash-none s.name _ _ (option_map_none _ _ clear))) (beside us ls) none

pub merged-combines : (us ls : Types) → merge_conflict us ls ≡ None → conflict_in (merged us ls) ≡ None
unfolding merge_conflict merged conflict_in
merged-combines us ls none =
    first_none type_conflict merged_type (λ (t : Named Parameters). conflict_in_parameters t.name t.value) (λ s clear. parameters-combine s.name _ _ clear) (beside us ls) none

-- sides that don't clash have one value, where both have one
pub merge_clash-agree : (name : Name) (u l : Operators) → merge_clash name u l ≡ None → if_both same u.value l.value ≡ true
unfolding merge_clash
merge_clash-agree name u l none = by (if_both same u.value l.value) (if_both same u.default l.default) none
  where
    by : (a b : Bool) → cond a (cond b (clash name (merged_operators u l)) (Some (Default, Default))) (Some (Value, Value)) ≡ None → a ≡ true
    by true b none = refl
    by false b none = absurd (cc)
