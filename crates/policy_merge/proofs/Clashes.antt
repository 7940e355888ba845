-- The pairs of operators that don't stand together.
use Rattle.std.proofs.Common.{◌≡◌, List, Option, not, ap₂}
use Rattle.std.specs.Option.{option_and_then}
use Rattle.std.specs.List.{find}
use Rattle.fed_json.specs.declared.tree.Json.{Json}
use Rattle.policy_merge.specs.declared.operators.Operators.{Operators}
use Rattle.fed_json.specs.Tables.{Name}
use Rattle.policy_merge.specs.Scope.{members_of}
use Rattle.std.proofs.Common.{◌≤◌, ◌<◌, ◌+◌, ℕ, Some, None, option_map, drop, length, get_or, refl, ap}
use Rattle.std.proofs.lemmas.List.{drop_all}
use Rattle.fed_json.specs.declared.named.Named.{Named}
use Rattle.policy_merge.specs.declared.fault.PolicyFault.{PolicyFault}
use Rattle.policy_merge.specs.Policies.{Parameters, Types}
use Rattle.policy_merge.specs.Combining.{Pair, stand, judged, pairs, clash, conflict_at, conflict_in_parameters, conflict_in}
use Rattle.fed_json.proofs.Firsts.{first_more, first_found}

-- with the members at hand
pub clash-members : (name : Name) (o : Operators) (value_members default_members : Option (List Json))
    → value_members ≡ option_and_then (members_of name) o.value → default_members ≡ option_and_then (members_of name) o.default
    → find (λ (pair : Pair). not (stand (record { operators = o; value_members = value_members; default_members = default_members }) pair.0 pair.1)) pairs ≡ clash name o
unfolding clash judged
clash-members name o value_members default_members v d =
    ap₂ (λ (vs ds : Option (List Json)). find (λ (pair : Pair). not (stand (record { operators = o; value_members = vs; default_members = ds }) pair.0 pair.1)) pairs) v d

-- ---- a policy by itself, one parameter or one entity type at a time

module _ (t : Name) (ps : Parameters) (i : ℕ) where
  pub parameters-end : length ps ≤ i → conflict_in_parameters t (drop i ps) ≡ None
  unfolding conflict_in_parameters
  parameters-end done = rw (drop_all i ps done) refl

  pub parameters-more : (p : Named Operators) → i < length ps → p ≡ get_or ps i p → clash p.name p.value ≡ None
      → conflict_in_parameters t (drop i ps) ≡ conflict_in_parameters t (drop (i + 1) ps)
  unfolding conflict_in_parameters
  parameters-more p lt is none = first_more (λ (p : Named Operators). option_map (conflict_at t p.name) (clash p.name p.value)) ps i p lt is (ap (option_map (conflict_at t p.name)) none)

  pub parameters-found : (p : Named Operators) (pair : Pair) → i < length ps → p ≡ get_or ps i p → clash p.name p.value ≡ Some pair
      → conflict_in_parameters t (drop i ps) ≡ Some (conflict_at t p.name pair)
  unfolding conflict_in_parameters
  parameters-found p pair lt is some = first_found (λ (p : Named Operators). option_map (conflict_at t p.name) (clash p.name p.value)) ps i p _ lt is (ap (option_map (conflict_at t p.name)) some)

module _ (ts : Types) (i : ℕ) where
  pub types-end : length ts ≤ i → conflict_in (drop i ts) ≡ None
  unfolding conflict_in
  types-end done = rw (drop_all i ts done) refl

  pub types-more : (t : Named Parameters) → i < length ts → t ≡ get_or ts i t → conflict_in_parameters t.name t.value ≡ None → conflict_in (drop i ts) ≡ conflict_in (drop (i + 1) ts)
  unfolding conflict_in
  types-more t lt is none = first_more (λ (t : Named Parameters). conflict_in_parameters t.name t.value) ts i t lt is none

  pub types-found : (t : Named Parameters) (f : PolicyFault) → i < length ts → t ≡ get_or ts i t → conflict_in_parameters t.name t.value ≡ Some f → conflict_in (drop i ts) ≡ Some f
  unfolding conflict_in
  types-found t f lt is some = first_found (λ (t : Named Parameters). conflict_in_parameters t.name t.value) ts i t f lt is some
