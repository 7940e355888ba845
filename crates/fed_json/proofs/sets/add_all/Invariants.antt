use Rattle.std.proofs.Common.{◌≡◌, List, ◌++◌, take}
use Rattle.fed_json.specs.declared.tree.Json.{Json}
use Rattle.fed_json.specs.Codes.{Knows}
use Rattle.fed_json.specs.Sets.{once}
use Rattle.fed_json.proofs.sets.add_all.Given as goal

abbrev pub invariant-loop-tree : goal.invariant-loop-tree
invariant-loop-tree l = record {
  list : (before : List Json) → l.initial.list ≡ once before → l.list ≡ once (before ++ take l.tree-index l.trees);
  known : Knows l.places l.list;
}
