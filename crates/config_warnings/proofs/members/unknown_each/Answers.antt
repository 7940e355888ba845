use Rattle.std.proofs.Common.{◌++◌, ◌+◌, ap, ◌∙◌}
use Rattle.config_warnings.specs.Trees.{unknown_item}
use Rattle.config_warnings.proofs.Gathering.{each_more}
use Rattle.config_warnings.proofs.members.unknown_each.Goals as goal

pub loop-item-preserved : goal.loop-item-preserved
loop-item-preserved c = record {
  out = each_more (unknown_item c.args.part c.args.place.now) c.args.items.now c.loop-item.item-index c.item-item.result c.args.out.now c.loop-item.out c.unknown_item.new.out c.loop-item-test.true c.item-item.is
      c.loop-item.invariant.out (c.in_ok-unknown_item.ensures ∙ ap (λ n. c.loop-item.out ++ (unknown_item c.args.part c.args.place.now) n c.item-item.result) c.loop-item.invariant.counted);
  counted = ap (λ n. n + 1) c.loop-item.invariant.counted;
}
