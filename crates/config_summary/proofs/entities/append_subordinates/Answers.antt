use Rattle.std.proofs.Common.{ap, codes}
use Rattle.node_config.specs.Told.{told_subordinate}
use Rattle.config_summary.specs.Summaries.{line, subordinate_line}
use Rattle.config_summary.proofs.LineLaws.{lines-more}
use Rattle.config_summary.proofs.entities.append_subordinates.Goals as goal

pub loop-s-preserved : goal.loop-s-preserved
loop-s-preserved c =
    lines-more subordinate_line told_subordinate c.args.subordinates.now c.loop-s.s-index c.s-item.result c.args.out.now c.loop-s.out c.append_line.new.out
    (line (codes "subordinate ") c.text.result.now) c.loop-s-test.true c.s-item.is c.loop-s.invariant c.in_ok-append_line.ensures (ap (line (codes "subordinate ")) c.text.ensures.text)
