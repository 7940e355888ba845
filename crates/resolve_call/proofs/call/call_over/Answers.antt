use Rattle.std.proofs.Common.{sym, ◌∙◌, subst}
use Rattle.resolve_round.specs.Traces.{asks_in}
use Rattle.http_plain.specs.Links.{link_network}
use Rattle.http_plain.specs.Networks.{listening_seen}
use Rattle.resolve_call.specs.CallSteps.{FailsBy}
use Rattle.resolve_call.proofs.CallLaws.{listens-back, put-back}
use Rattle.resolve_call.proofs.ExchangeLaws.{exchanged, stayed}
use Rattle.resolve_call.proofs.call.call_over.Goals as goal

pub returns-clause-exchanges : goal.returns-clause-exchanges
returns-clause-exchanges g c =
    put-back g.N.Network.exchanges c.args.routes (asks_in c.call_alone-outcome.result.trace.searches) c.call_alone-outcome.result.result c.args.net.now c.into_net.result c.new-link.result c.call_alone-outcome.new.link
    (c.new-link.ensures.network ∙ c.replace-network.ensures.value) c.new-link.ensures.routes c.into_net.ensures
    (exchanged g.N.Network.exchanges (listening_seen g.N.Network) c.new-link.result c.call_alone-outcome.new.link c.call_alone-outcome.result.trace c.call_alone-outcome.result.result c.call_alone-outcome.ensures.walked)

pub returns-clause-fails : goal.returns-clause-fails
returns-clause-fails g c =
    subst (λ n. FailsBy c.call_alone-outcome.result (g.N.Network.faults n) (g.N.Network.faults c.into_net.result)) (c.new-link.ensures.network ∙ c.replace-network.ensures.value)
    (subst (λ n. FailsBy c.call_alone-outcome.result (g.N.Network.faults (link_network c.new-link.result)) (g.N.Network.faults n)) (sym c.into_net.ensures) c.call_alone-outcome.ensures.fails)

pub returns-clause-still : goal.returns-clause-still
returns-clause-still g c =
    listens-back (listening_seen g.N.Network) c.args.net.now c.into_net.result c.new-link.result c.call_alone-outcome.new.link
    (c.new-link.ensures.network ∙ c.replace-network.ensures.value) c.into_net.ensures
    (stayed g.N.Network.exchanges (listening_seen g.N.Network) c.new-link.result c.call_alone-outcome.new.link c.call_alone-outcome.result.trace
    c.call_alone-outcome.result.result c.call_alone-outcome.ensures.walked)
