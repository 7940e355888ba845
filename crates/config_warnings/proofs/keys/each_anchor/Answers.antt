use Rattle.std.proofs.Common.{◌++◌, ◌+◌, ap, ◌∙◌}
use Rattle.node_config.specs.Told.{told_anchor}
use Rattle.config_warnings.specs.Warnings.{anchor_at}
use Rattle.config_warnings.proofs.Gathering.{told_more}
use Rattle.config_warnings.proofs.keys.each_anchor.Goals as goal

pub loop-anchor-preserved : goal.loop-anchor-preserved
loop-anchor-preserved c = record {
  out = told_more (anchor_at c.args.routes.now) told_anchor c.args.anchors.now c.loop-anchor.anchor-index c.anchor-item.result c.args.out.now c.loop-anchor.out c.anchor_at.new.out c.loop-anchor-test.true c.anchor-item.is
      c.loop-anchor.invariant.out (c.in_ok-anchor_at.ensures ∙ ap (λ n. c.loop-anchor.out ++ (anchor_at c.args.routes.now) n (told_anchor c.anchor-item.result)) c.loop-anchor.invariant.counted);
  counted = ap (λ n. n + 1) c.loop-anchor.invariant.counted;
}
