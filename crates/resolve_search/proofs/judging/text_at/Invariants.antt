use Rattle.std.proofs.Common.{◌≡◌, drop}
use Rattle.resolve_round.specs.Courses.{pages_of}
use Rattle.resolve_search.proofs.judging.text_at.Given as goal

abbrev pub invariant-loop-ask : goal.invariant-loop-ask
invariant-loop-ask l = pages_of l.asks l.url ≡ pages_of (drop l.ask-index l.asks) l.url
