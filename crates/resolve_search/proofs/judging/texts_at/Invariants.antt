use Rattle.std.proofs.Common.{◌≡◌, map, take}
use Rattle.resolve_search.specs.Judging.{texts_at, untried}
use Rattle.resolve_search.proofs.judging.texts_at.Given as goal

abbrev pub invariant-loop-url : goal.invariant-loop-url
invariant-loop-url l = l.chain ≡ map untried (texts_at l.asks (take l.url-index l.urls))
