use Rattle.key_ring.proofs.OpenLaws.{Opened}
use Rattle.key_ring.proofs.ring.open_keys.Given as goal

abbrev pub invariant-loop-key : goal.invariant-loop-key
invariant-loop-key l = Opened l.held l.keys l.key-index
