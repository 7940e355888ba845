use Rattle.std.proofs.Common.{◌+◌, ◌^◌, length}
use Rattle.std.specs.Prelude.{◌-◌}
use Rattle.resolve_search.specs.Answering.{SameCall}
use Rattle.resolve_round.specs.Calls.{Acted, Counted}
use Rattle.resolve_round.specs.Getting.{point}
use Rattle.resolve_round.specs.Knowing.{HoldsSoFar, with_search}
use Rattle.resolve_round.specs.Linking.{UsesLink, link_seen}
use Rattle.resolve_round.specs.Told.{ProvesGood}
use Rattle.resolve_search.specs.Turning.{IsUnderWay}
use Rattle.resolve_round.specs.Walking.{Walked}
use Rattle.resolve_search.proofs.round.drive.Given as goal

abbrev pub invariant-loop-session : goal.invariant-loop-session
invariant-loop-session g l = record {
  acted : Acted l.fn.call l.call;
  same : SameCall l.fn.call.trace.now l.call.trace.now;
  used : UsesLink 0 (link_seen (g.L.Link.calls l.fn.link) (g.L.Link.link_faults l.fn.link) (g.L.Link.web l.fn.link)) (link_seen (g.L.Link.calls l.link) (g.L.Link.link_faults l.link) (g.L.Link.web l.link)) l.fn.search l.search;
  walked : Walked g.L.Link.gave l.fn.link l.link l.fn.search.asks l.search.asks;
  holds : HoldsSoFar l.aim.age l.search l.call.trace.now;
  good : ProvesGood (with_search l.call.trace.now l.search);
  counted : Counted g.G.Ledger.count l.fn.call l.call;
  under : IsUnderWay l.aim l.fn.call.trace.now (point l.call.trace.now l.search) l.session;
}

-- each turn gives the session an answer to a page, of which it has fewer than 2 ^ 64, or a verdict on a path, of which it has no more than
-- paths may be made
abbrev pub decreases-loop-session : goal.decreases-loop-session
decreases-loop-session g l = (2 ^ 64 + l.aim.bounds.paths + 1) - (length l.session.pages + length l.session.verdicts)
