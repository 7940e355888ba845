-- Two tables that are merged side by side, one side at a time.
use Rattle.std.proofs.Common.{◌≡◌, [], Some, None, option_map, Ok, Err, true, map, refl, sym, ap, ap₂, ◌∙◌}
use Rattle.std.specs.Str.{is_utf8}
use Rattle.policy_merge.specs.declared.fault.PolicyFault.{PolicyFault}
use Rattle.policy_merge.specs.declared.operators.Operators.{Operators}
use Rattle.fed_json.specs.declared.named.Named.{Named}
use Rattle.fed_json.specs.Tables.{Name, Side, first}
use Rattle.policy_merge.specs.Policies.{Parameters, Types, named, no_operators, parameters_formed}
use Rattle.fed_base.specs.Values.{if_there}
use Rattle.policy_merge.specs.Combining.{conflict_at, Gives}
use Rattle.policy_merge.specs.Merging.{merged_operators, merge_clash, merging_operators, value_or, beside, merged_parameter, merged_parameters, merged_type, merged, parameter_conflict, parameters_conflict, type_conflict, merge_conflict, merging_parameters, merging}
use Rattle.fed_json.proofs.Booleans.{left_true, right_true}
use Rattle.fed_json.proofs.Firsts.{unless_ok, unless_none}
use Rattle.policy_merge.proofs.Faults.{gives_on}
use Rattle.policy_merge.proofs.MergedTables.{side_formed, value_or-formed}

-- ---- parameters

module _ (t : Name) (s : Side (Named Operators) (Named Operators)) (u l : Operators) (is_u : u ≡ value_or no_operators s.upper) (is_l : l ≡ value_or no_operators s.lower) where
  pub parameter-ok : (v : Operators) → merging_operators t s.name u l ≡ Ok v → (parameter_conflict t s ≡ None) × (merged_parameter s ≡ named s.name v)
  unfolding merging_operators
  parameter-ok v ok =
      let both = unless_ok _ _ v ok in (
        ap₂ (λ a b. option_map (conflict_at t s.name) (merge_clash s.name a b)) (sym is_u) (sym is_l) ∙ both.0,
        ap₂ (λ a b. named s.name (merged_operators a b)) (sym is_u) (sym is_l) ∙ ap (named s.name) both.1,
      )

  pub parameter-err : (us ls : Parameters) (f : PolicyFault) → Gives (Err f) (merging_operators t s.name u l)
      → ((e : PolicyFault) → parameter_conflict t s ≡ Some e → first (parameter_conflict t) (beside us ls) ≡ Some e) → Gives (Err f) (merging_parameters t us ls)
  unfolding merging_operators merging_parameters parameters_conflict
  parameter-err us ls f gives later =
      gives_on f _ _ _ _ gives (λ e some. later e (ap₂ (λ a b. option_map (conflict_at t s.name) (merge_clash s.name a b)) (sym is_u) (sym is_l) ∙ some))

pub parameters-merged : (t : Name) (us ls got : Parameters) → (first (parameter_conflict t) (beside us ls) ≡ None) × (map merged_parameter (beside us ls) ≡ got) → merging_parameters t us ls ≡ Ok got
unfolding merging_parameters parameters_conflict merged_parameters
parameters-merged t us ls got both = unless_none _ _ both.0 ∙ ap Ok both.1

-- ---- entity types

module _ (s : Side (Named Parameters) (Named Parameters)) (u l : Parameters) (is_u : u ≡ value_or [] s.upper) (is_l : l ≡ value_or [] s.lower) where
  pub type-ok : (v : Parameters) → merging_parameters s.name u l ≡ Ok v → (type_conflict s ≡ None) × (merged_type s ≡ named s.name v)
  unfolding merging_parameters
  type-ok v ok =
      let both = unless_ok _ _ v ok in
      (ap₂ (parameters_conflict s.name) (sym is_u) (sym is_l) ∙ both.0, ap₂ (λ a b. named s.name (merged_parameters a b)) (sym is_u) (sym is_l) ∙ ap (named s.name) both.1)

  pub type-err : (us ls : Types) (f : PolicyFault) → Gives (Err f) (merging_parameters s.name u l)
      → ((e : PolicyFault) → type_conflict s ≡ Some e → first type_conflict (beside us ls) ≡ Some e) → Gives (Err f) (merging us ls)
  unfolding merging_parameters merging merge_conflict
  type-err us ls f gives later = gives_on f _ _ _ _ gives (λ e some. later e (ap₂ (parameters_conflict s.name) (sym is_u) (sym is_l) ∙ some))

  pub type-formed : side_formed parameters_formed s ≡ true → (parameters_formed u ≡ true) × (parameters_formed l ≡ true)
  type-formed good =
      let values = right_true (is_utf8 s.name) _ good in (
        ap parameters_formed is_u ∙ value_or-formed parameters_formed [] refl s.upper (left_true _ (if_there (λ (e : Named Parameters). parameters_formed e.value) s.lower) values),
        ap parameters_formed is_l ∙ value_or-formed parameters_formed [] refl s.lower (right_true (if_there (λ (e : Named Parameters). parameters_formed e.value) s.upper) _ values),
      )

pub types-merged : (us ls got : Types) → (first type_conflict (beside us ls) ≡ None) × (map merged_type (beside us ls) ≡ got) → merging us ls ≡ Ok got
unfolding merging merge_conflict merged
types-merged us ls got both = unless_none _ _ both.0 ∙ ap Ok both.1

-- a policy that came of merging is the merged one
pub merging-ok : (us ls got : Types) → merging us ls ≡ Ok got → got ≡ merged us ls
unfolding merging
merging-ok us ls got ok = sym (unless_ok _ _ got ok).1

-- and came of no conflict
pub merging-clear : (us ls got : Types) → merging us ls ≡ Ok got → merge_conflict us ls ≡ None
unfolding merging
merging-clear us ls got ok = (unless_ok _ _ got ok).0
