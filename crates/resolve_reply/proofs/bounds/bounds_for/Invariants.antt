use Rattle.std.proofs.Common.{◌≡◌, drop}
use Rattle.resolve_reply.specs.Bounds.{bounds_for}
use Rattle.resolve_reply.proofs.bounds.bounds_for.Given as goal

abbrev pub invariant-loop-entry : goal.invariant-loop-entry
invariant-loop-entry l = bounds_for l.entries l.anchor ≡ bounds_for (drop l.entry-index l.entries) l.anchor
