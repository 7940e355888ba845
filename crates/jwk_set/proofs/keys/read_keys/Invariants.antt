use Rattle.jwk_set.proofs.Sets.{Gathered}
use Rattle.jwk_set.proofs.keys.read_keys.Given as goal

abbrev pub invariant-loop-member : goal.invariant-loop-member
invariant-loop-member l = Gathered l.keys l.members l.member-index
