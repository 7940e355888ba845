use Rattle.std.proofs.Common.{◌≡◌, drop, map}
use Rattle.std.specs.List.{AllByRecursion, list_all}
use Rattle.node_config.specs.Stated.{IsSubordinate}
use Rattle.node_config.specs.Told.{told, told_subordinate}
use Rattle.authority_core.specs.Issued.{states_shortly}
use Rattle.authority_core.proofs.sizes.states_all_shortly.Given as goal

abbrev pub invariant-loop-s : goal.invariant-loop-s
invariant-loop-s l =
    (l.s-items ≡ l.node.subordinates)
    × (list_all (states_shortly (told l.node)) (map told_subordinate l.s-items) ≡ list_all (states_shortly (told l.node)) (map told_subordinate (drop l.s-index l.s-items)))
    × AllByRecursion IsSubordinate (drop l.s-index l.s-items)
