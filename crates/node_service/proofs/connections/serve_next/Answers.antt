use Rattle.std.proofs.Common.{[], ◌∷◌, refl, rules, subst, sym, ◌∙◌}
use Rattle.std.proofs.lemmas.Result.{err_from_is_err_and}
use Rattle.fed_ports.specs.Lists.{Added, Gave}
use Rattle.fed_ports.specs.Times.{clock_at}
use Rattle.node_service.proofs.connections.serve_next.Goals as goal

pub returns-clause-next : goal.returns-clause-next
returns-clause-next g c =
    let is = c.serve_peer.ensures.attends in (
      record {
        came = c.in_ok-peer.peer;
        gone = c.serve_peer.new.peer;
        clock = clock_at (g.C.Clock.readings c.args.clock.now) (g.C.Clock.last c.args.clock.now) (g.C.Clock.told c.args.clock.now);
        clock' = clock_at (g.C.Clock.readings c.serve_peer.new.clock) (g.C.Clock.last c.serve_peer.new.clock) (g.C.Clock.told c.serve_peer.new.clock);
        call = is.0;
        call' = is.1;
        result = is.2;
      } ∷ [],
      refl,
      record {
        port = c.settle.ensures.port ∙ c.accept.ensures.port;
        accepted = subst (λ callers. Gave (g.N.Network.callers c.args.net.now) (c.in_ok-peer.peer ∷ []) callers) (sym c.settle.ensures.callers) c.in_ok-peer.ensures.next;
        answered = (is.3, tt);
        settled = subst (λ settled. Added settled (c.serve_peer.new.peer ∷ []) (g.N.Network.settled c.settle.new.self)) c.accept.ensures.settled (search rules);
        clocks = (refl, refl);
      },
    )

pub returns-in_err-settle-clause-next : goal.returns-in_err-settle-clause-next
returns-in_err-settle-clause-next g c =
    let p = err_from_is_err_and c.from_residual-in_err-settle.result c.from_residual-in_err-settle.ensures.1 in
    let is = c.serve_peer.ensures.attends in
    rw (p.1, p.2) (record {
      connection = record {
        came = c.in_ok-peer.peer;
        gone = c.serve_peer.new.peer;
        clock = clock_at (g.C.Clock.readings c.args.clock.now) (g.C.Clock.last c.args.clock.now) (g.C.Clock.told c.args.clock.now);
        clock' = clock_at (g.C.Clock.readings c.serve_peer.new.clock) (g.C.Clock.last c.serve_peer.new.clock) (g.C.Clock.told c.serve_peer.new.clock);
        call = is.0;
        call' = is.1;
        result = is.2;
      };
      port = c.settle.ensures.port ∙ c.accept.ensures.port;
      accepted = subst (λ callers. Gave (g.N.Network.callers c.args.net.now) (c.in_ok-peer.peer ∷ []) callers) (sym c.settle.ensures.callers) c.in_ok-peer.ensures.next;
      answered = is.3;
      settled = c.in_err-settle.ensures.err ∙ c.accept.ensures.settled;
      clocks = (refl, refl);
    })
