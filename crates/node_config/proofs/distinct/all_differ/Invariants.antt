use Rattle.node_config.proofs.DistinctIds.{Seen}
use Rattle.node_config.proofs.distinct.all_differ.Given as goal

abbrev pub invariant-loop-item : goal.invariant-loop-item
invariant-loop-item g l = Seen g.T.HasId.id_of l.items l.item-index l.seen
