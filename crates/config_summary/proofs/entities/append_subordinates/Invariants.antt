use Rattle.std.proofs.Common.{◌≡◌, ◌++◌, take, flat_map, map}
use Rattle.node_config.specs.Told.{told_subordinate}
use Rattle.config_summary.specs.Summaries.{subordinate_line}
use Rattle.config_summary.proofs.entities.append_subordinates.Given as goal

abbrev pub invariant-loop-s : goal.invariant-loop-s
invariant-loop-s l = l.out ≡ l.initial.out ++ flat_map subordinate_line (map told_subordinate (take l.s-index l.subordinates))
