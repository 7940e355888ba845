use Rattle.std.proofs.Common.{◌≡◌, ◌++◌, drop, map}
use Rattle.node_files.specs.ResolvingParts.{anchor_keys}
use Rattle.node_files.proofs.parts.book_of.Given as goal

abbrev pub invariant-loop-part : goal.invariant-loop-part
invariant-loop-part l = map anchor_keys l.parts ≡ l.anchors ++ map anchor_keys (drop l.part-index l.parts)
