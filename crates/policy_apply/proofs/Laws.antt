-- The laws at each place of metadata under a policy that combines.
use Rattle.std.proofs.Common.{◌≡◌, List, None, Ok, sym, ap, ◌∙◌}
use Rattle.fed_json.specs.declared.tree.Json.{Json, Object}
use Rattle.fed_json.specs.declared.tree.Member.{Member}
use Rattle.fed_json.specs.Trees.{object_members}
use Rattle.fed_json.specs.Tables.{Name}
use Rattle.policy_merge.specs.Policies.{Types, no_operators, operators_at}
use Rattle.policy_merge.specs.Combining.{conflict_in}
use Rattle.policy_merge.proofs.Lookups.{clash-at}
use Rattle.policy_apply.specs.Acting.{acted}
use Rattle.policy_apply.specs.Applying.{HasType, parameter_at, outcome_in, applied_types, types_refusal}
use Rattle.policy_apply.specs.Keeping.{KeepsWithin, AddsWords}
use Rattle.policy_apply.proofs.Places.{acted-at, acted-nothing}
use Rattle.policy_apply.proofs.Keeps.{keeps, again}

module _ (us : Types) (t : Json) (got : List Member) (both : (types_refusal us (object_members t) ≡ None) × (applied_types us (object_members t) ≡ got)) (combines : conflict_in us ≡ None)
    (ty p : Name) (there : HasType t ty) where
  outcome : outcome_in us t ty p ≡ Ok (parameter_at (Object got) ty p)
  outcome = acted-at us t both.0 ty p there ∙ ap (λ ms. Ok (parameter_at (Object ms) ty p)) both.1

  pub stays-at : operators_at us ty p ≡ no_operators → parameter_at (Object got) ty p ≡ parameter_at t ty p
  stays-at is = let same : Ok (parameter_at t ty p) ≡ Ok (parameter_at (Object got) ty p) = sym (ap (λ o. acted p o (parameter_at t ty p)) is ∙ acted-nothing p (parameter_at t ty p)) ∙ outcome in sym (cc)

  pub kept-at : AddsWords p (operators_at us ty p) → KeepsWithin p (operators_at us ty p) (parameter_at (Object got) ty p)
  kept-at words = keeps p (operators_at us ty p) (parameter_at t ty p) (parameter_at (Object got) ty p) (clash-at us ty p combines) words outcome

  pub again-at : AddsWords p (operators_at us ty p) → outcome_in us (Object got) ty p ≡ Ok (parameter_at (Object got) ty p)
  again-at words = again p (operators_at us ty p) (parameter_at t ty p) (parameter_at (Object got) ty p) (clash-at us ty p combines) words outcome
