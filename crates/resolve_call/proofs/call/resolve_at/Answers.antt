use Rattle.std.proofs.Common.{subst}
use Rattle.resolve_round.specs.Traces.{asks_in}
use Rattle.resolve_reply.specs.declared.signer.Signer.{Signer}
use Rattle.resolve_call.specs.CallSteps.{TellsBy}
use Rattle.resolve_call.specs.Exchanged.{ExchangedBy}
use Rattle.resolve_call.proofs.call.resolve_at.Goals as goal

pub call_over-outcome-requires-after_bounds : goal.call_over-outcome-requires-after_bounds
call_over-outcome-requires-after_bounds g c = λ lives within. (c.requires.ready.0.anchors, c.requires.ready.1.new)

pub returns-clause-call : goal.returns-clause-call
returns-clause-call g c = λ parts ready. record {
  told =
      subst (λ (s : Signer). TellsBy s parts.anchors c.args.request.now c.args.moment c.call_over-outcome.result) ready.signer
      (c.call_over-outcome.ensures.told parts.anchors ready.new);
  exchanges =
      subst (λ routes. ExchangedBy routes (asks_in c.call_over-outcome.result.trace.searches) (g.N.Network.exchanges c.args.net.now) (g.N.Network.exchanges c.call_over-outcome.new.net) c.call_over-outcome.result.result) ready.routes
      c.call_over-outcome.ensures.exchanges;
  fails = c.call_over-outcome.ensures.fails;
}
