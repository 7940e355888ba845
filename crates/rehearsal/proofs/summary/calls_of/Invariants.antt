use Rattle.std.proofs.Common.{◌≡◌, drop, fold}
use Rattle.rehearsal.specs.Summaries.{with_calls}
use Rattle.rehearsal.proofs.summary.calls_of.Given as goal

abbrev pub invariant-loop-search : goal.invariant-loop-search
invariant-loop-search l = fold with_calls 0 l.searches ≡ fold with_calls l.calls (drop l.search-index l.searches)
