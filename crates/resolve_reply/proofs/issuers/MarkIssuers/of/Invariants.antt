use Rattle.std.proofs.Common.{◌≡◌, ◌++◌, drop, map}
use Rattle.entity_statement.specs.Told.{told}
use Rattle.resolve_reply.specs.Marks.{searched_for}
use Rattle.resolve_reply.proofs.issuers.MarkIssuers.of.Given as goal

abbrev pub invariant-loop-entry : goal.invariant-loop-entry
invariant-loop-entry l =
    map (searched_for (told l.anchor)) l.marks ≡ l.by_mark ++ map (searched_for (told l.anchor)) (drop l.entry-index l.marks)
