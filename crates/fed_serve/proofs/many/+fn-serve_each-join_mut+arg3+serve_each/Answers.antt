use Rattle.std.proofs.Common.{ap, arith, rules, sym, ◌∙◌}
use Rattle.std.specs.Prelude.{is_some}
use Rattle.std.proofs.Crossing.{crosses}
use Rattle.std.proofs.lemmas.Result.{err_from_is_err_and}
use denote.Param.{param}
use denote.Param.Send.{IsSend, IsSync, sendable}
use Rattle.http_plain.specs.Networks.{network_at}
use Rattle.fed_serve.proofs.Crossings.{node_sync}
use Rattle.fed_serve.proofs.DeskLaws.{IsAccepted, IsRefused, first_free, rest_free, serves_fewer, serves_more, serves_none}
use Rattle.fed_serve.proofs.many.+fn-serve_each-join_mut+arg3+serve_each.Goals as goal

pub returns-in_default : goal.returns-in_default
returns-in_default g t c = record { serves = serves_none _ _ _ (search rules) }

pub returns-in_err-peer : goal.returns-in_err-peer
returns-in_err-peer g t c =
    let p = err_from_is_err_and c.from_residual.result c.from_residual.ensures.1 in
    let refused : IsRefused (network_at (g.N.Network.port c.args.net.now) (g.N.Network.exchanges c.args.net.now) (g.N.Network.callers c.args.net.now) (g.N.Network.settled c.args.net.now) (g.N.Network.faults c.args.net.now))
    (network_at (g.N.Network.port c.accept.new.self) (g.N.Network.exchanges c.accept.new.self) (g.N.Network.callers c.accept.new.self) (g.N.Network.settled c.accept.new.self) (g.N.Network.faults c.accept.new.self)) =
    record { callers = c.in_err-peer.ensures.err; port = c.accept.ensures.port; exchanges = c.accept.ensures.exchanges; settled = c.accept.ensures.settled } in
    rw p.1 (record {
      serves = serves_fewer _ _ _ c.args.desks.now _ c.in-Some.rest.now c.in-Some.first.now p.0 c.in-Some.ensures.cases.0 (sym c.in-Some.ensures.cases.0) refused
          (record { later = c.in_err-peer.ensures.cause.later; failed = c.in_err-peer.ensures.cause.failed; same = tt });
    })

pub take-requires : goal.take-requires
take-requires g t c =
    let node = c.args.node.now in
    (node, first_free (g.D.Place.is_free node) c.args.desks.now c.in-Some.first.now c.in-Some.rest.now c.in-Some.ensures.cases.0 c.requires.free)

pub join_mut-result-requires-send-F : goal.join_mut-result-requires-send-F
join_mut-result-requires-send-F g t c κs within =
    let runtime : IsSync (param 0 g.row.R) = search rules parts 8 in
    let place : IsSend (param 2 g.row.D) = search rules parts 8 in
    search (node_sync, sendable, crosses) depth 60 fits 20000

pub join_mut-result-requires-after_bounds : goal.join_mut-result-requires-after_bounds
join_mut-result-requires-after_bounds g t c κs within =
    let runtime : IsSync (param 0 g.row.R) = search rules parts 8 in
    let net : IsSend (param 1 g.row.N) = search rules parts 8 in
    let place : IsSend (param 2 g.row.D) = search rules parts 8 in
    let peer : IsSend (param 3 g.row.N-Peer) = search rules parts 8 in
    let first = c.in-Some.first.now in
    let rest = c.in-Some.rest.now in
    let whole = c.in-Some.ensures.cases.0 in
    let free = g.D.Place.is_free c.args.node.now in (
      (search (runtime, sendable, crosses) depth 40 fits 4000, c.in_ok-peer.peer, first, first_free free c.args.desks.now first rest whole c.requires.free, c.take.ensures),
      (
        omega (arith, c.decreases, c.in-Some.ensures.cases.1),
        (
          λ a m. m,
          (
            λ a m. m,
            (
              λ a m. m,
              (
                λ a m. m,
                (
                  (runtime, place, ap is_some c.accept.ensures.port ∙ c.requires.listens, rest_free free c.args.desks.now first rest whole c.requires.free),
                  (net, place, peer, runtime),
                ),
              ),
            ),
          ),
        ),
      ),
    )

pub returns : goal.returns
returns g t c =
    let node = c.args.node.now in
    let peer = c.in_ok-peer.peer in
    let first = c.in-Some.first.now in
    let rest = c.in-Some.rest.now in
    let whole = c.in-Some.ensures.cases.0 in
    let before = network_at (g.N.Network.port c.args.net.now) (g.N.Network.exchanges c.args.net.now) (g.N.Network.callers c.args.net.now) (g.N.Network.settled c.args.net.now) (g.N.Network.faults c.args.net.now) in
    let mid = network_at (g.N.Network.port c.accept.new.self) (g.N.Network.exchanges c.accept.new.self) (g.N.Network.callers c.accept.new.self) (g.N.Network.settled c.accept.new.self) (g.N.Network.faults c.accept.new.self) in
    let accepted : IsAccepted before mid peer = record {
      gave = c.in_ok-peer.ensures.next;
      port = c.accept.ensures.port;
      exchanges = c.accept.ensures.exchanges;
      settled = c.accept.ensures.settled;
      faults = c.in_ok-peer.ensures.cause.same;
    } in
    let free = first_free (g.D.Place.is_free node) c.args.desks.now first rest whole c.requires.free in
    let taken = c.take.ensures in
    record { serves = serves_more _ before mid _ peer first _ c.args.desks.now rest _ _ whole accepted (search (rules, free, taken)) (search rules) }
