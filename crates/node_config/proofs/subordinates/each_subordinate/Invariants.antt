use Rattle.std.specs.List.{AllByRecursion}
use Rattle.node_config.specs.Stated.{IsSubordinate}
use Rattle.node_config.specs.Subordinates.{subordinate_of}
use Rattle.node_config.specs.Told.{told_subordinate}
use Rattle.node_config.proofs.Gathering.{Gathered}
use Rattle.node_config.proofs.subordinates.each_subordinate.Given as goal

abbrev pub invariant-loop-item : goal.invariant-loop-item
invariant-loop-item l = Gathered subordinate_of told_subordinate l.items l.list l.item-index × AllByRecursion IsSubordinate l.list
