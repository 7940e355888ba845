use Rattle.std.proofs.Common.{◌≡◌, map, take}
use Rattle.key_ring.specs.Terms.{term_of}
use Rattle.key_ring.proofs.term.terms_of.Given as goal

abbrev pub invariant-loop-held : goal.invariant-loop-held
invariant-loop-held l = l.terms ≡ map term_of (take l.held-index l.keys)
