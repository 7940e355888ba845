use Rattle.std.proofs.Common.{◌≡◌, drop}
use Rattle.resolve_search.specs.Judging.{url_for}
use Rattle.resolve_search.proofs.judging.url_got.Given as goal

abbrev pub invariant-loop-ask : goal.invariant-loop-ask
invariant-loop-ask l = url_for l.asks l.text ≡ url_for (drop l.ask-index l.asks) l.text
