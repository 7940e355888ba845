use Rattle.chain_check.proofs.JudgingLaws.{NoneBefore}
use Rattle.chain_check.proofs.known.has_seal.Given as goal

abbrev pub invariant-loop-seal : goal.invariant-loop-seal
invariant-loop-seal l = NoneBefore l.tried.seals l.tried.text l.public l.seal-index
