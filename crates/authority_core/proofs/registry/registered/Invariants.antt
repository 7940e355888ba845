use Rattle.std.proofs.Common.{◌≡◌, drop, find, map}
use Rattle.std.specs.List.{AllByRecursion}
use Rattle.node_config.specs.Stated.{IsSubordinate}
use Rattle.node_config.specs.Told.{told_subordinate}
use Rattle.authority_core.specs.Nodes.{is_for}
use Rattle.authority_core.proofs.registry.registered.Given as goal

abbrev pub invariant-loop-s : goal.invariant-loop-s
invariant-loop-s l =
    (find (is_for l.sub) (map told_subordinate l.subordinates) ≡ find (is_for l.sub) (map told_subordinate (drop l.s-index l.subordinates)))
    × (AllByRecursion IsSubordinate l.subordinates → AllByRecursion IsSubordinate (drop l.s-index l.subordinates))
