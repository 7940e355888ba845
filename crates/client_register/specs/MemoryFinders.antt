-- The answers of a finder in memory.
use Rattle.std.specs.Prelude.{ℕ, List, unwrap_or, slice_get}
use Rattle.client_register.specs.declared.found.Found.{Found}
use Rattle.client_register.specs.declared.found.Found.TheVariants.{Fault}
use Rattle.client_register.specs.declared.memory_finder.MemoryFinder.{MemoryFinder}
use Rattle.client_register.specs.Finders.{FinderSeen}

-- the answer of that number, the first having the number 0: a fault where there is none
abbrev pub answer_at : List Found → ℕ → Found
answer_at answers number = unwrap_or (slice_get answers number) Fault

-- the answers that it was made with
abbrev pub finder_answers : MemoryFinder → List Found
finder_answers finder = finder.answers

-- how many answers it gave; the count stands still at its last value
abbrev pub finder_given : MemoryFinder → ℕ
finder_given finder = finder.given

-- what it tells of its calls
abbrev pub finder_seen : MemoryFinder → FinderSeen
finder_seen finder = record { calls = finder.calls; faults = finder.faults; last = finder.last }
