use Rattle.std.proofs.Common.{◌≡◌, ◌++◌, map}
use Rattle.std.specs.List.{filter}
use Rattle.std.specs.Vec.Iter.{into_iter_items}
use Rattle.resolve_reply.specs.Replies.{is_unmarked, with_end}
use Rattle.resolve_reply.proofs.resealing.with_end.Given as goal

abbrev pub invariant-loop-member : goal.invariant-loop-member
invariant-loop-member l = map (with_end l.exp) (filter is_unmarked l.fn.members) ≡ l.kept ++ map (with_end l.exp) (into_iter_items l.member-iterator)
