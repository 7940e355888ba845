use Rattle.std.proofs.Common.{◌∙◌, sym, subst}
use Rattle.std.specs.Prelude.{IfOk}
use Rattle.sealed.specs.Sealing.{IsSealedFor}
use Rattle.fed_resolver.specs.Outcomes.{HasChainEnd, HasConfigs}
use Rattle.fed_resolver.specs.Told.{situation_of}
use Rattle.resolve_reply.specs.declared.signer.Signer.{Signer}
use Rattle.http_plain.specs.Networks.{network_seen}
use Rattle.heeded_reply.specs.Calls.{HearsBy, wire_at}
use Rattle.heeded_reply.specs.Heeding.{caller_of}
use Rattle.heeded_reply.proofs.call.heed_at.Goals as goal

pub resolve_at-outcome-requires-clause-ready : goal.resolve_at-outcome-requires-clause-ready
resolve_at-outcome-requires-clause-ready g c = λ lives within. (c.requires.ready.0, c.requires.ready.1.call)

pub heed_outcome-reply-requires-clause-sealed : goal.heed_outcome-reply-requires-clause-sealed
heed_outcome-reply-requires-clause-sealed g c = λ lives within.
    subst (λ (s : Signer). IfOk c.resolve_at-outcome.result.result (λ reply. IsSealedFor s.keys reply.text)) (sym c.requires.ready.1.signer)
    (c.resolve_at-outcome.ensures.call c.requires.ready.0 c.requires.ready.1.call).told.sealed

pub heed_outcome-reply-requires-clause-chain_exp : goal.heed_outcome-reply-requires-clause-chain_exp
heed_outcome-reply-requires-clause-chain_exp g c = λ lives within.
    subst (λ (s : Signer). IfOk c.resolve_at-outcome.result.result (HasChainEnd (situation_of c.args.request.now s c.args.moment) s c.resolve_at-outcome.result.trace))
    (c.requires.ready.1.call.signer ∙ sym c.requires.ready.1.signer) c.resolve_at-outcome.ensures.chain_exp

pub heed_outcome-reply-requires-clause-configs : goal.heed_outcome-reply-requires-clause-configs
heed_outcome-reply-requires-clause-configs g c = λ lives within.
    subst (λ (s : Signer). IfOk c.resolve_at-outcome.result.result (HasConfigs (situation_of c.args.request.now s c.args.moment) s c.resolve_at-outcome.result.trace))
    (c.requires.ready.1.call.signer ∙ sym c.requires.ready.1.signer) c.resolve_at-outcome.ensures.configs

pub returns-clause-heard : goal.returns-clause-heard
returns-clause-heard g c = λ parts ready. record {
  between = network_seen g.N.Network c.resolve_at-outcome.new.net;
  call = c.resolve_at-outcome.ensures.call parts ready.call;
  hears =
      subst (λ routes. HearsBy (caller_of c.args.request.now parts.signer routes c.args.moment) c.resolve_at-outcome.result.trace (wire_at (network_seen g.N.Network c.resolve_at-outcome.new.net)) (wire_at (network_seen g.N.Network c.heed_outcome-reply.new.net)) c.heed_outcome-reply.result c.resolve_at-outcome.result.result) ready.routes
      (subst (λ (s : Signer). HearsBy (caller_of c.args.request.now s c.args.call.routes c.args.moment) c.resolve_at-outcome.result.trace (wire_at (network_seen g.N.Network c.resolve_at-outcome.new.net)) (wire_at (network_seen g.N.Network c.heed_outcome-reply.new.net)) c.heed_outcome-reply.result c.resolve_at-outcome.result.result) ready.signer
      c.heed_outcome-reply.ensures.hears);
}
