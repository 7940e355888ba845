use Rattle.std.proofs.Common.{◌≡◌, take, true}
use Rattle.fed_json.specs.Sets.{are_among}
use Rattle.fed_json.proofs.sets.holds_all.Given as goal

abbrev pub invariant-loop-tree : goal.invariant-loop-tree
invariant-loop-tree l = are_among l.list (take l.tree-index l.trees) ≡ true
