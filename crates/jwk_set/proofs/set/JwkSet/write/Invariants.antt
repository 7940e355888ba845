use Rattle.jwk_set.proofs.WrittenSets.{Written}
use Rattle.jwk_set.proofs.set.JwkSet.write.Given as goal

abbrev pub invariant-loop-key : goal.invariant-loop-key
invariant-loop-key l = Written l.trees l.self.keys l.key-index
