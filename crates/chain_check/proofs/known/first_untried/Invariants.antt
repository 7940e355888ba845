use Rattle.chain_check.specs.Judging.{texts_of}
use Rattle.fed_base.specs.Places.{HoldsBelow}
use Rattle.chain_check.specs.Reading.{claims_in}
use Rattle.chain_check.proofs.JudgingLaws.{KnownAt, SealedAt}
use Rattle.chain_check.proofs.known.first_untried.Given as goal

abbrev pub invariant-loop-i : goal.invariant-loop-i
invariant-loop-i l = HoldsBelow (KnownAt l.chain (claims_in l.entries) l.keys.keys) l.i × HoldsBelow (SealedAt (texts_of l.chain) (claims_in l.entries) l.keys.keys) l.i
