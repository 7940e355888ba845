-- Why a chain whose texts are read, named, current and signed doesn't resolve (OpenID Federation 1.0 sections 6.1.4 and 6.2).
use Rattle.std.specs.Prelude.{◌≡◌, ℕ, List, Result, Ok, Err}
use Rattle.fed_json.specs.declared.tree.Json.{Json}
use Rattle.chain_limits.specs.declared.place.Place.{Place}
use Rattle.chain_limits.specs.Limits.{IsVerdict}
use Rattle.chain_limits.specs.declared.verdict.LimitVerdict.TheVariants as limit
use Rattle.policy_merge.specs.Policies.{Types}
use Rattle.policy_merge.specs.declared.fault.PolicyFault.{PolicyFault}
use Rattle.policy_merge.specs.declared.fault.PolicyFault.TheVariants as merge
use Rattle.policy_apply.specs.declared.fault.ApplyFault.{ApplyFault}
use Rattle.policy_apply.specs.declared.fault.ApplyFault.TheVariants as apply
use Rattle.entity_statement.specs.Claims.{Claims}
use Rattle.chain_check.specs.declared.reason.Reason.{Reason}
use Rattle.chain_check.specs.declared.reason.Reason.TheVariants.{PathLength, Name, Conflict, Policy}
use Rattle.chain_check.specs.Policies.{ConflictAt, merged_policy}
use Rattle.chain_check.specs.Metadata.{limited_places}
use Rattle.chain_check.specs.Validity.{IsWithin, applied}

-- the reason tells the limit, the conflict of a merge, or the refusal of a policy
abbrev pub IsLimit : List Place → ℕ → Reason → Type 0
IsLimit places place PathLength = IsVerdict places (limit.PathLength place)
IsLimit places place Name = IsVerdict places (limit.Name place)
IsLimit places place _ = ⊥

abbrev pub IsConflict : Result Types PolicyFault → Reason → Type 0
IsConflict outcome (Conflict t p f s) = outcome ≡ Err (merge.Conflict t p f s)
IsConflict outcome _ = ⊥

abbrev pub IsConflictAt : Result Types ConflictAt → ℕ → Reason → Type 0
IsConflictAt outcome place (Conflict t p f s) = outcome ≡ Err (record { place = place; conflict = merge.Conflict t p f s })
IsConflictAt outcome place _ = ⊥

abbrev pub IsRefusal : Result Json ApplyFault → ℕ → Reason → Type 0
IsRefusal outcome place (Policy t p o) = (place ≡ 0) × (outcome ≡ Err (apply.Refused t p o))
IsRefusal outcome place _ = ⊥

-- why a chain doesn't resolve, whose texts are read, named, current and signed as they must be
abbrev pub FailsToResolve : List Claims → ℕ → Reason → Type 0
FailsToResolve chain place (Conflict t p f s) = IsWithin chain × IsConflictAt (merged_policy chain) place (Conflict t p f s)
FailsToResolve chain place (Policy t p o) =
    IsWithin chain × ((policy : Types) × (merged_policy chain ≡ Ok policy) × IsRefusal (applied chain policy) place (Policy t p o))
FailsToResolve chain place reason = IsLimit (limited_places chain) place reason
