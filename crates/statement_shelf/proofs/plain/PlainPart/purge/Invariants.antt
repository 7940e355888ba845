use Rattle.std.proofs.Common.{◌≡◌, ◌<◌, length}
use Rattle.std.specs.Vec.{vec_capacity}
use Rattle.statement_shelf.specs.Entries.{max_entries}
use Rattle.statement_shelf.proofs.Purging.{Purging}
use Rattle.statement_shelf.proofs.plain.PlainPart.purge.Given as goal

abbrev pub invariant-loop-self : goal.invariant-loop-self
invariant-loop-self l =
    Purging l.initial.self-inside.entries.items l.moment l.self-inside.entries.items × (max_entries < vec_capacity l.self-inside.entries) × (l.before ≡ length l.initial.self-inside.entries.items)

abbrev pub decreases-loop-self : goal.decreases-loop-self
decreases-loop-self l = length l.self-inside.entries.items
