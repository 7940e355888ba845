use Rattle.std.proofs.Common.{◌≡◌, bytes_eq, drop, map}
use Rattle.std.specs.List.{find as first_that}
use Rattle.entity_statement.specs.Claims.{told_owner}
use Rattle.trust_mark.proofs.conditions.owner_of.Given as goal

abbrev pub invariant-loop-owner : goal.invariant-loop-owner
invariant-loop-owner l =
    first_that (λ o. bytes_eq o.mark_type l.mark_type) (map told_owner l.all)
    ≡ first_that (λ o. bytes_eq o.mark_type l.mark_type) (map told_owner (drop l.owner-index l.all))
