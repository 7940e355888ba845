use Rattle.key_ring.proofs.Gathering.{Gathered}
use Rattle.key_ring.proofs.reading.each_key.Given as goal

abbrev pub invariant-loop-item : goal.invariant-loop-item
invariant-loop-item l = Gathered l.version l.keys l.items l.item-index
