use Rattle.std.proofs.Common.{◌≡◌, length}
use Rattle.statement_shelf.specs.Entries.{max_entries}
use Rattle.statement_shelf.proofs.Purging.{Purging}
use Rattle.statement_shelf.proofs.part.ShelfPart.purge.Given as goal

abbrev pub invariant-loop-self : goal.invariant-loop-self
invariant-loop-self l =
    Purging l.initial.self-inside.entries.entries l.moment l.self-inside.entries.entries × (l.self-inside.entries.cap ≡ max_entries) × (l.before ≡ length l.initial.self-inside.entries.entries)

abbrev pub decreases-loop-self : goal.decreases-loop-self
decreases-loop-self l = length l.self-inside.entries.entries
