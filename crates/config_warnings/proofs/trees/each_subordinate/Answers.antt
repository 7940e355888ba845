use Rattle.std.proofs.Common.{◌++◌, ◌+◌, ap, ◌∙◌}
use Rattle.config_warnings.specs.Trees.{subordinate_at}
use Rattle.config_warnings.proofs.Gathering.{each_more}
use Rattle.config_warnings.proofs.trees.each_subordinate.Goals as goal

pub loop-item-preserved : goal.loop-item-preserved
loop-item-preserved c = record {
  out = each_more subordinate_at c.args.items.now c.loop-item.item-index c.item-item.result c.args.out.now c.loop-item.out c.subordinate_at.new.out c.loop-item-test.true c.item-item.is
      c.loop-item.invariant.out (c.in_ok-subordinate_at.ensures ∙ ap (λ n. c.loop-item.out ++ subordinate_at n c.item-item.result) c.loop-item.invariant.counted);
  counted = ap (λ n. n + 1) c.loop-item.invariant.counted;
}
