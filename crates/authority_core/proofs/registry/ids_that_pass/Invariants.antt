use Rattle.std.proofs.Common.{◌≡◌, ◌++◌, drop, map, true}
use Rattle.std.specs.List.{list_all}
use Rattle.fed_json.specs.Forms.{whole}
use Rattle.node_config.specs.Told.{told_subordinate}
use Rattle.authority_core.specs.Issued.{ids_of}
use Rattle.authority_core.proofs.registry.ids_that_pass.Given as goal

abbrev pub invariant-loop-s : goal.invariant-loop-s
invariant-loop-s l =
    (ids_of l.query (map told_subordinate l.subordinates) ≡ l.ids ++ ids_of l.query (map told_subordinate (drop l.s-index l.subordinates)))
    × (list_all whole l.ids ≡ true)
