use Rattle.std.proofs.Common.{◌≡◌, drop}
use Rattle.jwk_set.specs.KeySets.{key_named}
use Rattle.jwk_set.proofs.set.JwkSet.key_of.Given as goal

abbrev pub invariant-loop-key : goal.invariant-loop-key
invariant-loop-key l = key_named l.kid l.alg l.self.keys ≡ key_named l.kid l.alg (drop l.key-index l.self.keys)
