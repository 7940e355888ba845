use Rattle.std.proofs.Common.{◌≡◌, [], filter, take}
use Rattle.fed_json.specs.Codes.{Knows}
use Rattle.fed_json.specs.Sets.{once, is_among}
use Rattle.fed_json.proofs.sets.add_common.Given as goal

abbrev pub invariant-loop-tree : goal.invariant-loop-tree
invariant-loop-tree l = record {
  list : l.initial.list ≡ [] → l.list ≡ once (filter (is_among l.b) (take l.tree-index l.trees));
  known : Knows l.places l.list;
}
