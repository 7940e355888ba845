use Rattle.std.proofs.Common.{refl, sym, subst}
use Rattle.std.proofs.lemmas.Result.{err_from_is_err_and}
use Rattle.fed_ports.specs.Times.{IsOneReading, Told}
use Rattle.resolve_call.specs.CallSteps.{IsCallAt}
use Rattle.resolve_call.specs.Ports.{clock_seen}
use Rattle.http_plain.specs.Networks.{network_seen}
use Rattle.resolve_call.proofs.CallLaws.{call-by, no-memory, no-node}
use Rattle.resolve_call.proofs.call.resolve_once.Goals as goal

pub returns-in_err-registry-clause-resolves : goal.returns-in_err-registry-clause-resolves
returns-in_err-registry-clause-resolves g c =
    let p = err_from_is_err_and c.from_residual.result c.from_residual.ensures.1 in
    rw (p.1, p.2) (record {
      calls = no-node _ _ _ c.in_err-registry.field-0.0 c.in_err-registry.ensures.node refl;
      files = c.in_err-registry.ensures.files;
      store = c.in_err-registry.ensures.counts;
    })

pub parts_of-parts-requires : goal.parts_of-parts-requires
parts_of-parts-requires g c = c.in_ok-registry.ensures.node.1

pub returns-in_err-parts-clause-resolves : goal.returns-in_err-parts-clause-resolves
returns-in_err-parts-clause-resolves g c =
    let p = err_from_is_err_and c.from_residual-in_err-parts.result c.from_residual-in_err-parts.ensures.1 in
    rw (p.1, p.2) (record {
      calls = no-memory _ _ _ refl;
      files = c.in_ok-registry.ensures.files;
      store = c.in_ok-registry.ensures.counts;
    })

pub returns-in_err-call-clause-resolves : goal.returns-in_err-call-clause-resolves
returns-in_err-call-clause-resolves g c =
    let p = err_from_is_err_and c.from_residual-in_err-call.result c.from_residual-in_err-call.ensures.1 in
    rw (p.1, p.2) (record {
      calls = no-memory _ _ _ refl;
      files = c.in_ok-registry.ensures.files;
      store = c.in_ok-registry.ensures.counts;
    })

pub resolve_at-requires-clause-ready : goal.resolve_at-requires-clause-ready
resolve_at-requires-clause-ready g c = λ lives within. (c.in_ok-parts.parts, c.in_ok-call.ensures)

pub returns-clause-resolves : goal.returns-clause-resolves
returns-clause-resolves g c =
    let are = c.in_ok-parts.ensures in
    let reading : IsOneReading (clock_seen g.C.Clock c.args.clock.now) (clock_seen g.C.Clock c.now-moment.new.self) = record {
      counted = c.now-moment.ensures.counted;
      added = subst (Told (g.C.Clock.readings c.args.clock.now) (g.C.Clock.told c.args.clock.now) (g.C.Clock.told c.now-moment.new.self)) (sym c.now-moment.ensures.last) c.now-moment.ensures.told;
    } in
    let call =
    call-by c.in_ok-registry.registry c.in_ok-parts.parts c.args.request.now (clock_seen g.C.Clock c.args.clock.now) (clock_seen g.C.Clock c.now-moment.new.self)
    (network_seen g.N.Network c.args.net.now) (network_seen g.N.Network c.resolve_at.new.net) c.resolve_at.result are reading
    (subst (λ moment. IsCallAt c.in_ok-parts.parts c.args.request.now moment (network_seen g.N.Network c.args.net.now) (network_seen g.N.Network c.resolve_at.new.net) c.resolve_at.result)
    (sym c.now-moment.ensures.last) (c.resolve_at.ensures.call c.in_ok-parts.parts c.in_ok-call.ensures)) in
    record {
      calls = record {
        node = c.in_ok-registry.registry;
        is_node = c.in_ok-registry.ensures.node.0;
        resolver = are.resolver;
        resolves = are.resolves;
        call = call;
        follows = c.follows.ensures c.in_ok-registry.registry are.resolver c.args.request.now _ _ c.resolve_at.result call;
      };
      files = c.in_ok-registry.ensures.files;
      store = c.in_ok-registry.ensures.counts;
    }
