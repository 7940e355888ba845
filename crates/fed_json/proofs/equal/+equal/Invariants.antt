use Rattle.std.proofs.Common.{◌≡◌, length, take}
use Rattle.fed_json.proofs.equal.+equal.Given as goal

abbrev pub invariant-items_equal-loop-x : goal.invariant-items_equal-loop-x
invariant-items_equal-loop-x l = take (length l.yielded) l.a ≡ take (length l.yielded) l.b

abbrev pub invariant-members_equal-loop-x : goal.invariant-members_equal-loop-x
invariant-members_equal-loop-x l = take (length l.yielded) l.a ≡ take (length l.yielded) l.b
