use Rattle.std.proofs.Common.{◌≡◌, ◌++◌, map}
use Rattle.std.specs.Vec.Iter.{into_iter_items}
use Rattle.resolve_reply.specs.Replies.{mark_tree}
use Rattle.resolve_reply.proofs.claims.mark_list.Given as goal

abbrev pub invariant-loop-mark : goal.invariant-loop-mark
invariant-loop-mark l = map mark_tree l.fn.marks ≡ l.items ++ map mark_tree (into_iter_items l.mark-iterator)
