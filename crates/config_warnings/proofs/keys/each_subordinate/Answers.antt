use Rattle.std.proofs.Common.{◌++◌, ◌+◌, ap, ◌∙◌}
use Rattle.node_config.specs.Told.{told_subordinate}
use Rattle.config_warnings.specs.Warnings.{subordinate_key}
use Rattle.config_warnings.proofs.Gathering.{told_more}
use Rattle.config_warnings.proofs.keys.each_subordinate.Goals as goal

pub loop-s-preserved : goal.loop-s-preserved
loop-s-preserved c = record {
  out = told_more subordinate_key told_subordinate c.args.subordinates.now c.loop-s.s-index c.s-item.result c.args.out.now c.loop-s.out c.subordinate_key.new.out c.loop-s-test.true c.s-item.is
      c.loop-s.invariant.out (c.in_ok-subordinate_key.ensures ∙ ap (λ n. c.loop-s.out ++ subordinate_key n (told_subordinate c.s-item.result)) c.loop-s.invariant.counted);
  counted = ap (λ n. n + 1) c.loop-s.invariant.counted;
}
