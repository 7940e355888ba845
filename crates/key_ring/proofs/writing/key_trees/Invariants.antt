use Rattle.std.proofs.Common.{◌≡◌, map, take}
use Rattle.key_ring.specs.Files.{key_tree}
use Rattle.key_ring.proofs.writing.key_trees.Given as goal

abbrev pub invariant-loop-key : goal.invariant-loop-key
invariant-loop-key l = l.trees ≡ map (key_tree l.version) (take l.key-index l.keys)
