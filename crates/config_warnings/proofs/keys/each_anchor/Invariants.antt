use Rattle.std.proofs.Common.{◌≡◌, ◌++◌, take, map}
use Rattle.node_config.specs.Told.{told_anchor}
use Rattle.config_warnings.specs.Places.{each_from}
use Rattle.config_warnings.specs.Warnings.{anchor_at}
use Rattle.config_warnings.proofs.keys.each_anchor.Given as goal

abbrev pub invariant-loop-anchor : goal.invariant-loop-anchor
invariant-loop-anchor l = record {
  out : l.out ≡ l.initial.out ++ each_from (anchor_at l.routes) 0 (map told_anchor (take l.anchor-index l.anchors));
  counted : l.index ≡ l.anchor-index;
}
