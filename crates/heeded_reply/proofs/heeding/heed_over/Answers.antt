use Rattle.std.proofs.Common.{ap, ◌∙◌}
use Rattle.std.specs.Prelude.{length}
use Rattle.http_plain.specs.Links.{link_network, link_routes}
use Rattle.mark_status.specs.Heeding.{heeding_of}
use Rattle.http_plain.specs.Networks.{listening_seen}
use Rattle.heeded_reply.proofs.PostLaws.{heeds-back, some-back, still-back}
use Rattle.heeded_reply.proofs.heeding.heed_over.Goals as goal

pub returns-clause-heeds : goal.returns-clause-heeds
returns-clause-heeds g c =
    heeds-back g.N.Network.exchanges (listening_seen g.N.Network) g.N.Network.faults c.args.routes c.args.net.now c.into_net.result c.new-asker.result c.heed-what.new.asker
    (ap link_network c.new-asker.ensures ∙ c.new-link.ensures.network ∙ c.replace-network.ensures.value) (ap link_routes c.new-asker.ensures ∙ c.new-link.ensures.routes)
    (c.into_net.ensures ∙ ap link_network c.into_link-link.ensures) (heeding_of c.args.marks.now c.args.configs.now c.args.asked.now.moment) _ _
    c.heed-what.result c.heed-what.ensures.heeds c.heed-what.ensures.kept c.heed-what.ensures.faults

pub returns-clause-broken : goal.returns-clause-broken
returns-clause-broken g c =
    some-back g.N.Network.exchanges (listening_seen g.N.Network) g.N.Network.faults c.args.routes c.args.net.now c.into_net.result c.new-asker.result c.heed-what.new.asker
    (ap link_network c.new-asker.ensures ∙ c.new-link.ensures.network ∙ c.replace-network.ensures.value) (ap link_routes c.new-asker.ensures ∙ c.new-link.ensures.routes)
    (c.into_net.ensures ∙ ap link_network c.into_link-link.ensures)
    c.heed-what.result (length c.args.marks.now) c.heed-what.ensures.broken

pub returns-clause-still : goal.returns-clause-still
returns-clause-still g c =
    still-back g.N.Network.exchanges (listening_seen g.N.Network) g.N.Network.faults c.args.routes c.args.net.now c.into_net.result c.new-asker.result c.heed-what.new.asker
    (ap link_network c.new-asker.ensures ∙ c.new-link.ensures.network ∙ c.replace-network.ensures.value) (ap link_routes c.new-asker.ensures ∙ c.new-link.ensures.routes)
    (c.into_net.ensures ∙ ap link_network c.into_link-link.ensures) (heeding_of c.args.marks.now c.args.configs.now c.args.asked.now.moment) _ _
    c.heed-what.result (length c.args.marks.now) c.heed-what.ensures.heeds c.heed-what.ensures.broken
