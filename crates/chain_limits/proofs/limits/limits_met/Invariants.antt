use Rattle.chain_limits.specs.Limits.{FitsBelow}
use Rattle.chain_limits.proofs.limits.limits_met.Given as goal

abbrev pub invariant-loop-j : goal.invariant-loop-j
invariant-loop-j l = FitsBelow l.all l.j
