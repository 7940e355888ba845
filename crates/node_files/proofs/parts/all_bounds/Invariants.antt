use Rattle.std.proofs.Common.{◌≡◌, ◌++◌, drop, map}
use Rattle.node_files.specs.ResolvingParts.{part_bounds}
use Rattle.node_files.proofs.parts.all_bounds.Given as goal

abbrev pub invariant-loop-part : goal.invariant-loop-part
invariant-loop-part l = map part_bounds l.parts ≡ l.bounds ++ map part_bounds (drop l.part-index l.parts)
