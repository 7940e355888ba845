-- The policies of a chain, merged from the last down.
use Rattle.std.proofs.Common.{◌≡◌, ◌<◌, ◌≤◌, ◌+◌, [], ℕ, zero, suc, List, length, drop, get_or, Some, Ok, Err, Result, refl, sym, ap, ◌∙◌, subst, add-one, arith}
use Rattle.std.specs.Prelude.{None, slice_get}
use Rattle.std.proofs.Math.Seq.{drop-cons}
use Rattle.std.proofs.lemmas.List.{drop_all}
use Rattle.std.proofs.lemmas.Option.{get_or_from_slice_get}
use Rattle.policy_merge.specs.Policies.{Types}
use Rattle.policy_merge.specs.Combining.{conflict_in}
use Rattle.policy_merge.specs.Merging.{merging}
use Rattle.policy_merge.specs.declared.fault.PolicyFault.{PolicyFault}
use Rattle.policy_merge.specs.declared.fault.PolicyFault.TheVariants as merge
use Rattle.chain_check.specs.declared.reason.Reason.{Reason}
use Rattle.chain_check.specs.declared.reason.Reason.TheVariants.{Form, Names, Times, Signature, PathLength, Name, Conflict, Policy}
use Rattle.chain_check.specs.Policies.{ConflictAt, at_place, merged_with, merged_from}
use Rattle.chain_check.specs.Resolving.{IsConflict, IsConflictAt}

-- the empty policy has no conflict
pub conflict_in-empty : conflict_in [] ≡ None
unfolding conflict_in
conflict_in-empty = refl

-- nothing to merge
pub merged_from-end : (policies : List Types) (place : ℕ) → length policies ≤ place → merged_from place (drop place policies) ≡ Ok []
unfolding merged_from
merged_from-end policies place past = ap (merged_from place) (drop_all place policies past)

-- one place further down
pub merged_from-cons : (policies : List Types) (place : ℕ) (d : Types) → place < length policies
    → merged_from place (drop place policies) ≡ merged_with place (get_or policies place d) (merged_from (place + 1) (drop (place + 1) policies))
unfolding merged_from
merged_from-cons policies place d short = ap (merged_from place) (drop-cons policies place d short) ∙ rw (add-one) refl

-- the policy at a place is merged with those above it
pub merged_from-step : (policies : List Types) (above place : ℕ) (upper lower : Types) → above ≡ place + 1 → slice_get policies place ≡ Some lower → place < length policies
    → merged_from above (drop above policies) ≡ Ok upper → merged_from place (drop place policies) ≡ at_place place (merging upper lower)
merged_from-step policies above place upper lower next there short merged =
    let up : merged_from (place + 1) (drop (place + 1) policies) ≡ Ok upper = subst (λ p. merged_from p (drop p policies) ≡ Ok upper) next merged in
    merged_from-cons policies place lower short ∙ ap (λ p. merged_with place p (merged_from (place + 1) (drop (place + 1) policies))) (get_or_from_slice_get policies place lower lower there)
    ∙ ap (merged_with place lower) up

-- where the merge fails, it fails below too
pub merged_from-fails : (policies : List Types) (conflict : ConflictAt) (k place : ℕ) → place ≡ suc k → place ≤ length policies
    → merged_from place (drop place policies) ≡ Err conflict → merged_from 1 (drop 1 policies) ≡ Err conflict
merged_from-fails policies conflict zero place is within fails = subst (λ p. merged_from p (drop p policies) ≡ Err conflict) is fails
merged_from-fails policies conflict (suc k) place is within fails =
    let next : place ≡ suc k + 1 = omega arith in
    let short : suc k < length policies = omega arith in
    let up : merged_from (suc k + 1) (drop (suc k + 1) policies) ≡ Err conflict = subst (λ p. merged_from p (drop p policies) ≡ Err conflict) next fails in
    merged_from-fails policies conflict k (suc k) refl (omega arith) (merged_from-cons policies (suc k) [] short ∙ ap (merged_with (suc k) (get_or policies (suc k) [])) up)

-- the conflict that comes at a place is that of the chain
pub conflict-found : (policies : List Types) (place at : ℕ) (outcome : Result Types PolicyFault) (reason : Reason) → 1 ≤ place → place ≤ length policies
    → merged_from place (drop place policies) ≡ at_place place outcome → (at ≡ place) × IsConflict outcome reason → IsConflictAt (merged_from 1 (drop 1 policies)) at reason
conflict-found policies zero at outcome reason some within merged told = absurd (omega arith)
conflict-found policies (suc k) at outcome (Conflict t p f s) some within merged told =
    let fails = merged_from-fails policies (record { place = suc k; conflict = merge.Conflict t p f s }) k (suc k) refl within (merged ∙ ap (at_place (suc k)) told.1) in
    fails ∙ ap (λ n. Err (record { place = n; conflict = merge.Conflict t p f s })) (sym told.0)
conflict-found policies (suc k) at outcome Form some within merged told = absurd told.1
conflict-found policies (suc k) at outcome Names some within merged told = absurd told.1
conflict-found policies (suc k) at outcome Times some within merged told = absurd told.1
conflict-found policies (suc k) at outcome Signature some within merged told = absurd told.1
conflict-found policies (suc k) at outcome PathLength some within merged told = absurd told.1
conflict-found policies (suc k) at outcome Name some within merged told = absurd told.1
conflict-found policies (suc k) at outcome (Policy t p o) some within merged told = absurd told.1

-- all are merged
pub merged_from-all : (policies : List Types) (place : ℕ) (policy : Types) → place ≤ 1 → (place ≡ 0 → length policies ≡ 0) → merged_from place (drop place policies) ≡ Ok policy
    → merged_from 1 (drop 1 policies) ≡ Ok policy
merged_from-all policies zero policy low empty merged =
    let none : length policies ≤ 0 = omega (arith, empty refl) in
    let past : length policies ≤ 1 = omega arith in
    merged_from-end policies 1 past ∙ sym (merged_from-end policies 0 none) ∙ merged
merged_from-all policies (suc zero) policy low empty merged = merged
merged_from-all policies (suc (suc k)) policy low empty merged = absurd (omega arith)
