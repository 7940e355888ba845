use Rattle.entity_statement.proofs.Owners.{Gathered}
use Rattle.entity_statement.proofs.marks.each_owner.Given as goal

abbrev pub invariant-loop-member : goal.invariant-loop-member
invariant-loop-member l = Gathered l.members l.owners l.member-index
