-- The policies of a chain, merged from the trust anchor's down to that about the leaf (OpenID Federation 1.0 section 6.1.4.1).
use Rattle.std.specs.Prelude.{ℕ, ◌+◌, List, [], ◌∷◌, map, Result, Ok, Err}
use Rattle.policy_merge.specs.Policies.{Types}
use Rattle.policy_merge.specs.Merging.{merging}
use Rattle.policy_merge.specs.declared.fault.PolicyFault.{PolicyFault}
use Rattle.entity_statement.specs.Claims.{Claims}
use Rattle.chain_check.specs.Chains.{subordinate}

-- a conflict, with the place of the statement at which it comes
pub record ConflictAt : Type 0 where
  pub place : ℕ
  pub conflict : PolicyFault

-- what merging at a place gives, with the place beside a conflict
abbrev pub at_place : ℕ → Result Types PolicyFault → Result Types ConflictAt
at_place place (Ok policy) = Ok policy
at_place place (Err conflict) = Err (record { place = place; conflict = conflict })

-- an upper policy merged with the one below it, at its place
abbrev pub merged_with : ℕ → Types → Result Types ConflictAt → Result Types ConflictAt
merged_with place lower (Ok upper) = at_place place (merging upper lower)
merged_with place lower (Err conflict) = Err conflict

-- the policies from a place up, merged from the last down; the last is merged with the empty policy, which asks only that its operators
-- stand together
unfoldable pub merged_from : ℕ → List Types → Result Types ConflictAt
merged_from place [] = Ok []
merged_from place (policy ∷ uppers) = merged_with place policy (merged_from (place + 1) uppers)

-- the merged policy of a chain, or the conflict at the place at which the merge first fails
unfoldable pub merged_policy : List Claims → Result Types ConflictAt
merged_policy chain = merged_from 1 (map (λ s. s.policy) (subordinate chain))
