use Rattle.node_config.specs.Stated.{IsSubordinate}
use Rattle.node_config.specs.Subordinates.{subordinate_of}
use Rattle.node_config.specs.Told.{told_subordinate}
use Rattle.node_config.proofs.Gathering.{all_pushed, gathered_more}
use Rattle.node_config.proofs.subordinates.each_subordinate.Goals as goal

pub loop-item-preserved : goal.loop-item-preserved
loop-item-preserved c = (
  gathered_more subordinate_of told_subordinate c.args.items.now c.loop-item.list c.push.new.self c.loop-item.item-index c.item-item.result c.in_ok-read_subordinate.field-0
      c.loop-item.invariant.0 c.loop-item-test.true c.item-item.is c.in_ok-read_subordinate.ensures.subordinate c.in_ok-push.ensures.ok,
  all_pushed IsSubordinate c.loop-item.list c.push.new.self c.in_ok-read_subordinate.field-0 c.loop-item.invariant.1 c.in_ok-read_subordinate.ensures.stated c.in_ok-push.ensures.ok,
)
