use Rattle.std.proofs.Common.{drop}
use Rattle.policy_apply.proofs.Joins.{Joining}
use Rattle.policy_apply.proofs.acting.joined.Given as goal

abbrev pub invariant-loop-word : goal.invariant-loop-word
invariant-loop-word l = Joining l.list l.text (drop l.word-index l.list)
