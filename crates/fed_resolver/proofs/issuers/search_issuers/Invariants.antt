use Rattle.std.proofs.Common.{◌≡◌, take}
use Rattle.resolve_round.specs.Linking.{link_view}
use Rattle.resolve_round.specs.Told.{ProvesGood}
use Rattle.resolve_round.specs.Calls.{Acted, Counted}
use Rattle.fed_resolver.specs.Going.{HasIssuers, first_aim}
use Rattle.fed_resolver.specs.Stretches.{Goes, WalkedRounds, moment_of}
use Rattle.fed_resolver.proofs.issuers.search_issuers.Given as goal

abbrev pub invariant-loop-id : goal.invariant-loop-id
invariant-loop-id g l = record {
  acted : Acted l.fn.call l.call;
  goes : Goes l.signer.age 0 (moment_of (link_view g.L.Link.calls g.L.Link.link_faults g.L.Link.web g.L.Link.gave) l.fn.call l.fn.link)
      (moment_of (link_view g.L.Link.calls g.L.Link.link_faults g.L.Link.web g.L.Link.gave) l.call l.link);
  walked : WalkedRounds g.L.Link.gave l.fn.link l.link l.fn.call.trace.now l.call.trace.now;
  counted : Counted g.G.Ledger.count l.fn.call l.call;
  good : ProvesGood l.call.trace.now;
  by_mark : l.issuers.by_mark ≡ l.fn.issuers.by_mark;
  issuers : HasIssuers (first_aim l.request.sub l.request.anchor l.signer) (take l.id-index l.id-items) l.fn.call.trace.now l.call.trace.now l.issuers.found;
}
