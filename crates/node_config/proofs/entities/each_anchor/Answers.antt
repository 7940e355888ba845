use Rattle.node_config.specs.Subordinates.{anchor_of}
use Rattle.node_config.specs.Told.{told_anchor}
use Rattle.node_config.proofs.Gathering.{gathered_more}
use Rattle.node_config.proofs.entities.each_anchor.Goals as goal

pub loop-item-preserved : goal.loop-item-preserved
loop-item-preserved c =
    gathered_more anchor_of told_anchor c.args.items.now c.loop-item.anchors c.push.new.self c.loop-item.item-index c.item-item.result c.in_ok-read_anchor.field-0
    c.loop-item.invariant c.loop-item-test.true c.item-item.is c.in_ok-read_anchor.ensures c.in_ok-push.ensures.ok
