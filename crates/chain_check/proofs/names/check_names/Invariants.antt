use Rattle.fed_base.specs.Places.{HoldsBelow}
use Rattle.chain_check.specs.Names.{NamesFit}
use Rattle.chain_check.specs.Reading.{claims_in}
use Rattle.chain_check.proofs.names.check_names.Given as goal

abbrev pub invariant-loop-j : goal.invariant-loop-j
invariant-loop-j l = HoldsBelow (NamesFit (claims_in l.entries) l.anchor) l.j
