use Rattle.node_config.specs.Subordinates.{anchor_of}
use Rattle.node_config.specs.Told.{told_anchor}
use Rattle.node_config.proofs.Gathering.{Gathered}
use Rattle.node_config.proofs.entities.each_anchor.Given as goal

abbrev pub invariant-loop-item : goal.invariant-loop-item
invariant-loop-item l = Gathered anchor_of told_anchor l.items l.anchors l.item-index
