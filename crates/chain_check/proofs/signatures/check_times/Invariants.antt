use Rattle.fed_base.specs.Places.{HoldsBelow}
use Rattle.chain_check.specs.Signatures.{CurrentAt}
use Rattle.chain_check.specs.Reading.{claims_in}
use Rattle.chain_check.proofs.signatures.check_times.Given as goal

abbrev pub invariant-loop-j : goal.invariant-loop-j
invariant-loop-j l = HoldsBelow (CurrentAt (claims_in l.entries) l.t) l.j
