use Rattle.std.proofs.Common.{rules, ◌≤◌, length, refl}
use Rattle.turn_log.specs.Groups.{known}
use Rattle.http_plain.specs.Networks.{network_at}
use Rattle.resolver_service.proofs.DeskLaws.{all_done, all_taken, many_as, served_length, whole_again}
use Rattle.resolver_service.proofs.StopLaws.{serves_ended, stops_desks, stops_first}
use Rattle.resolver_service.proofs.batch.serve_desks.Goals as goal

pub end_desks-ended-requires-clause-done : goal.end_desks-ended-requires-clause-done
end_desks-ended-requires-clause-done g c = λ lives within.
    let serves = many_as _ c.args.server.now.opened.now.node _ c.args.desks.items c.serve_many-served.new.desks _ _ c.serve_many-served.result c.as_mut_slice.ensures.value c.serve_many-served.ensures.serves in
    let many = served_length _ c.args.server.now.opened.now.node serves.peers c.args.desks.items c.serve_many-served.new.desks serves.served in
    let len : length c.args.desks.items ≤ c.args.desks.len = search rules in
    all_taken c.args.server.now.part.now _ _ (whole_again c.args.desks.len c.args.desks.items c.serve_many-served.new.desks len many)
    (all_done _ (λ k l m. refl) c.args.server.now.opened.now.node c.args.server.now.part.now c.requires.part serves.peers c.args.desks.items c.serve_many-served.new.desks c.requires.ready serves.served)

pub returns-clause-serves : goal.returns-clause-serves
returns-clause-serves g c =
    let serves = many_as _ c.args.server.now.opened.now.node _ c.args.desks.items c.serve_many-served.new.desks _ _ c.serve_many-served.result c.as_mut_slice.ensures.value c.serve_many-served.ensures.serves in
    let many = served_length _ c.args.server.now.opened.now.node serves.peers c.args.desks.items c.serve_many-served.new.desks serves.served in
    let len : length c.args.desks.items ≤ c.args.desks.len = search rules in
    let last =
    network_at (g.N.Network.port c.end_desks-ended.new.net) (g.N.Network.exchanges c.end_desks-ended.new.net) (g.N.Network.callers c.end_desks-ended.new.net)
    (g.N.Network.settled c.end_desks-ended.new.net) (g.N.Network.faults c.end_desks-ended.new.net) in
    serves_ended _ c.args.server.now.opened.now.node c.args.desks.items c.serve_many-served.new.desks _ _ last (known c.args.pass.now) (known c.end_desks-ended.new.pass) _ c.serve_many-served.result
    c.end_desks-ended.result c.network_first.result c.network_first.ensures (whole_again c.args.desks.len c.args.desks.items c.serve_many-served.new.desks len many) serves
    c.end_desks-ended.ensures.ends c.end_desks-ended.ensures.callers c.end_desks-ended.ensures.port c.end_desks-ended.ensures.exchanges c.end_desks-ended.ensures.faults

pub returns-clause-stops : goal.returns-clause-stops
returns-clause-stops g c =
    stops_first _ _ _ (known c.end_desks-ended.new.pass) c.serve_many-served.result c.end_desks-ended.result c.network_first.result c.network_first.ensures c.end_desks-ended.ensures.faults
    c.serve_many-served.ensures.serves.cause c.end_desks-ended.ensures.worn

pub returns-clause-stopped : goal.returns-clause-stopped
returns-clause-stopped g c =
    let serves = many_as _ c.args.server.now.opened.now.node _ c.args.desks.items c.serve_many-served.new.desks _ _ c.serve_many-served.result c.as_mut_slice.ensures.value c.serve_many-served.ensures.serves in
    let many = served_length _ c.args.server.now.opened.now.node serves.peers c.args.desks.items c.serve_many-served.new.desks serves.served in
    let len : length c.args.desks.items ≤ c.args.desks.len = search rules in
    let last =
    network_at (g.N.Network.port c.end_desks-ended.new.net) (g.N.Network.exchanges c.end_desks-ended.new.net) (g.N.Network.callers c.end_desks-ended.new.net)
    (g.N.Network.settled c.end_desks-ended.new.net) (g.N.Network.faults c.end_desks-ended.new.net) in
    stops_desks _ c.args.server.now.opened.now.node c.args.desks.items c.serve_many-served.new.desks _ _ last (known c.args.pass.now) (known c.end_desks-ended.new.pass) _ c.serve_many-served.result
    c.end_desks-ended.result c.network_first.result c.network_first.ensures (whole_again c.args.desks.len c.args.desks.items c.serve_many-served.new.desks len many) serves
    c.end_desks-ended.ensures.ends c.end_desks-ended.ensures.callers c.end_desks-ended.ensures.port c.end_desks-ended.ensures.exchanges
