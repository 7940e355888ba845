use Rattle.std.proofs.Common.{◌≡◌, ◌++◌, take, flat_map, map}
use Rattle.node_config.specs.Told.{told_anchor}
use Rattle.config_summary.specs.Summaries.{anchor_line}
use Rattle.config_summary.proofs.entities.append_anchors.Given as goal

abbrev pub invariant-loop-anchor : goal.invariant-loop-anchor
invariant-loop-anchor l = l.out ≡ l.initial.out ++ flat_map anchor_line (map told_anchor (take l.anchor-index l.anchors))
