use Rattle.chain_check.proofs.JudgingLaws.{NoneBefore}
use Rattle.chain_check.proofs.known.has_miss.Given as goal

abbrev pub invariant-loop-miss : goal.invariant-loop-miss
invariant-loop-miss l = NoneBefore l.tried.misses l.tried.text l.public l.miss-index
