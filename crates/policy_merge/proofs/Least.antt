-- The conflict that is named stands at the first place that has one.
use Rattle.std.proofs.Common.{◌≡◌, inl, inr, [], Option, Some, None, option_map, Result, Ok, Err, true, map, refl, sym, ap, ◌∙◌, subst, IfErr}
use Rattle.fed_json.specs.Forms.{is_before, rising}
use Rattle.policy_merge.specs.declared.fault.PolicyFault.{PolicyFault}
use Rattle.policy_merge.specs.declared.fault.PolicyFault.TheVariants.{Conflict, Memory}
use Rattle.fed_json.specs.declared.named.Named.{Named}
use Rattle.fed_json.specs.Tables.{Name, item_of}
use Rattle.policy_merge.specs.Policies.{Parameters, Types, no_operators, operators_formed, parameters_formed, types_formed, parameters_at, operators_at}
use Rattle.fed_base.specs.Values.{if_there}
use Rattle.fed_base.specs.Answers.{unless}
use Rattle.policy_merge.specs.Combining.{Pair, conflict_at, conflict_in, Gives}
use Rattle.policy_merge.specs.Merging.{name_of, value_or, merge_clash, parameter_conflict, parameters_conflict, type_conflict, merge_conflict, merging, NoneBefore, IsFirst, clash_in, merge_clash_in}
use Rattle.fed_json.proofs.Firsts.{unless_err, unless_some}
use Rattle.fed_json.proofs.LeastSides.{least_side}
use Rattle.fed_json.proofs.NamesOfBoth.{item_of-passes}
use Rattle.fed_json.proofs.Options.{option_map_none, option_map_some}
use Rattle.policy_merge.proofs.MergedTables.{table-rises, table-values}
use Rattle.policy_merge.proofs.Lookups.{clear_parameters, nothing_conflicts, merge_clash-empty}
use Rattle.policy_merge.proofs.Neutral.{merging-above, merge_clash-above}

-- the parameters that a formed policy has for a type rise
parameters-rise : (ls : Types) (t : Name) → types_formed ls ≡ true → rising (map name_of (parameters_at ls t)) ≡ true
parameters-rise ls t good = by (item_of name_of t ls) (item_of-passes name_of (λ t. parameters_formed t.value) t ls (table-values parameters_formed ls good))
  where
    by : (o : Option (Named Parameters)) → if_there (λ t. parameters_formed t.value) o ≡ true → rising (map name_of (value_or [] o)) ≡ true
    by None there = refl
    by (Some x) there = table-rises operators_formed x.value there

pair_is : (fault : PolicyFault) (t p : Name) (pair : Pair) (pair_at : Name → Name → Option Pair) → conflict_at t p pair ≡ fault → pair_at t p ≡ Some pair → NoneBefore pair_at t p → IsFirst pair_at fault
pair_is fault t p pair pair_at is here before = subst (IsFirst pair_at) is (here, before)

at_parameter : (t : Name) (us ls : Parameters) (fault : PolicyFault) → rising (map name_of ls) ≡ true → parameters_conflict t us ls ≡ Some fault
    → (p : Name) × (pair : Pair) × (merge_clash p (value_or no_operators (item_of name_of p us)) (value_or no_operators (item_of name_of p ls)) ≡ Some pair) × (conflict_at t p pair ≡ fault)
    × ((q : Name) → is_before q p ≡ true → merge_clash q (value_or no_operators (item_of name_of q us)) (value_or no_operators (item_of name_of q ls)) ≡ None)
unfolding parameters_conflict
at_parameter t us ls fault rise e =
    let l = least_side name_of name_of (parameter_conflict t) us ls fault rise (λ n. ap (option_map (conflict_at t n)) (merge_clash-empty n)) e in
    let pair = option_map_some (conflict_at t l.name) _ fault l.here in
    (l.name, pair.0, pair.1, pair.2, λ q early. option_map_none (conflict_at t q) _ (l.before q early))

merge_first : (us ls : Types) (fault : PolicyFault) → types_formed ls ≡ true → merge_conflict us ls ≡ Some fault → IsFirst (merge_clash_in us ls) fault
unfolding merge_conflict
merge_first us ls fault good e =
    let l = least_side name_of name_of type_conflict us ls fault (table-rises parameters_formed ls good) nothing_conflicts e in
    let p = at_parameter l.name (parameters_at us l.name) (parameters_at ls l.name) fault (parameters-rise ls l.name good) l.here in
    pair_is fault l.name p.0 p.1 (merge_clash_in us ls) p.3 p.2
    (λ t q early. elim early [
      | inl earlier ↦ clear_parameters t q (parameters_at us t) (parameters_at ls t) (l.before t earlier)
      | inr same ↦ subst (λ t. merge_clash_in us ls t q ≡ None) (sym same.0) (p.4 q same.1)
    ])

-- of a call's answer
pub merging-first : (us ls : Types) (f : PolicyFault) → types_formed ls ≡ true → Gives {T = Types} (Err f) (merging us ls) → IsFirst (merge_clash_in us ls) f
unfolding merging
merging-first us ls Memory good gives = tt
merging-first us ls (Conflict t p g s) good gives = merge_first us ls (Conflict t p g s) good (unless_err _ _ _ gives)

-- of one policy, as of that merged with the empty one
pub combining-first : (us : Types) (f : PolicyFault) → types_formed us ≡ true → Gives {T = Unit {0}} (Err f) (unless (conflict_in us) tt) → IsFirst (clash_in us) f
combining-first us Memory good gives = tt
combining-first us (Conflict t p g s) good gives =
    let alone : merging us [] ≡ Err (Conflict t p g s) = merging-above us good ∙ unless_some _ us _ (unless_err _ _ _ gives) in
    let both = merging-first us [] (Conflict t p g s) refl alone in
    (sym (merge_clash-above p (operators_at us t p)) ∙ both.0, λ u q early. sym (merge_clash-above q (operators_at us u q)) ∙ both.1 u q early)

pub combined_first : (us : Types) (r : Result (Unit {0}) PolicyFault) → types_formed us ≡ true → Gives r (unless (conflict_in us) tt) → IfErr r (IsFirst (clash_in us))
combined_first us (Ok x) good gives = tt
combined_first us (Err f) good gives = combining-first us f good gives
