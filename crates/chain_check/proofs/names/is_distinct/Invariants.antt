use Rattle.std.proofs.Common.{◌≢◌}
use Rattle.fed_base.specs.Places.{HoldsBelow}
use Rattle.chain_check.specs.Names.{issuer_at}
use Rattle.chain_check.specs.Reading.{claims_in}
use Rattle.chain_check.proofs.names.is_distinct.Given as goal

abbrev pub invariant-loop-i : goal.invariant-loop-i
invariant-loop-i l = HoldsBelow (λ i. issuer_at (claims_in l.entries) i ≢ issuer_at (claims_in l.entries) l.j) l.i
