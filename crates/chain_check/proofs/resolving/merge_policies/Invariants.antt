use Rattle.std.proofs.Common.{◌≡◌, ◌≤◌, None, Ok, drop, length, map}
use Rattle.policy_merge.specs.Combining.{conflict_in}
use Rattle.chain_check.specs.Policies.{merged_from}
use Rattle.chain_check.specs.Reading.{claims_in}
use Rattle.chain_check.proofs.resolving.merge_policies.Given as goal

abbrev pub invariant-loop-place : goal.invariant-loop-place
invariant-loop-place l =
    (merged_from l.place (drop l.place (map (λ s. s.policy) (claims_in l.below))) ≡ Ok l.policy) × (conflict_in l.policy ≡ None) × (l.place ≤ length l.below) × (l.place ≡ 0 → length l.below ≡ 0)

abbrev pub decreases-loop-place : goal.decreases-loop-place
decreases-loop-place l = l.place
