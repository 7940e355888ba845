use Rattle.std.proofs.Common.{refl, sym, subst}
use Rattle.std.proofs.lemmas.Result.{err_from_is_err_and}
use Rattle.fed_ports.specs.Times.{IsOneReading, Told}
use Rattle.resolve_call.specs.Ports.{clock_seen}
use Rattle.http_plain.specs.Networks.{network_seen}
use Rattle.resolve_call.proofs.CallLaws.{no-memory, no-node}
use Rattle.heeded_reply.specs.Calls.{IsHeardAt}
use Rattle.heeded_reply.proofs.CallLaws.{heard-once, heeds-none}
use Rattle.heeded_reply.proofs.call.heed_once.Goals as goal

pub returns-in_err-registry-clause-heeds : goal.returns-in_err-registry-clause-heeds
returns-in_err-registry-clause-heeds g c =
    let p = err_from_is_err_and c.from_residual.result c.from_residual.ensures.1 in
    rw (p.1, p.2) (heeds-none _ _ _ c.in_err-registry.field-0.0 (record {
      calls = no-node _ _ _ c.in_err-registry.field-0.0 c.in_err-registry.ensures.node refl;
      files = c.in_err-registry.ensures.files;
      store = c.in_err-registry.ensures.counts;
    }))

pub parts_of-parts-requires : goal.parts_of-parts-requires
parts_of-parts-requires g c = c.in_ok-registry.ensures.node.1

pub returns-in_err-parts-clause-heeds : goal.returns-in_err-parts-clause-heeds
returns-in_err-parts-clause-heeds g c =
    let p = err_from_is_err_and c.from_residual-in_err-parts.result c.from_residual-in_err-parts.ensures.1 in
    rw (p.1, p.2) (heeds-none _ _ _ _ (record {
      calls = no-memory _ _ _ refl;
      files = c.in_ok-registry.ensures.files;
      store = c.in_ok-registry.ensures.counts;
    }))

pub returns-in_err-call-clause-heeds : goal.returns-in_err-call-clause-heeds
returns-in_err-call-clause-heeds g c =
    let p = err_from_is_err_and c.from_residual-in_err-call.result c.from_residual-in_err-call.ensures.1 in
    rw (p.1, p.2) (heeds-none _ _ _ _ (record {
      calls = no-memory _ _ _ refl;
      files = c.in_ok-registry.ensures.files;
      store = c.in_ok-registry.ensures.counts;
    }))

pub heed_at-requires-clause-ready : goal.heed_at-requires-clause-ready
heed_at-requires-clause-ready g c = λ lives within. (c.in_ok-parts.parts, c.in_ok-call.ensures)

pub returns-clause-heeds : goal.returns-clause-heeds
returns-clause-heeds g c =
    let reading : IsOneReading (clock_seen g.C.Clock c.args.clock.now) (clock_seen g.C.Clock c.now-moment.new.self) = record {
      counted = c.now-moment.ensures.counted;
      added = subst (Told (g.C.Clock.readings c.args.clock.now) (g.C.Clock.told c.args.clock.now) (g.C.Clock.told c.now-moment.new.self)) (sym c.now-moment.ensures.last) c.now-moment.ensures.told;
    } in
    heard-once (record { config = c.args.config.now; request = c.args.request.now }) c.in_ok-registry.registry c.in_ok-parts.parts
    (g.D.Store.files c.args.store.now) (g.D.Store.files c.open_resolver.new.store) (g.D.Store.store_faults c.args.store.now) (g.D.Store.store_faults c.open_resolver.new.store)
    (clock_seen g.C.Clock c.args.clock.now) (clock_seen g.C.Clock c.now-moment.new.self)
    (network_seen g.N.Network c.args.net.now) (network_seen g.N.Network c.heed_at.new.net) c.heed_at.result
    c.in_ok-parts.ensures c.in_ok-registry.ensures.node.0 c.in_ok-registry.ensures.files c.in_ok-registry.ensures.counts reading
    (subst (λ moment. IsHeardAt c.in_ok-parts.parts c.args.request.now moment (network_seen g.N.Network c.args.net.now) (network_seen g.N.Network c.heed_at.new.net) c.heed_at.result)
    (sym c.now-moment.ensures.last) (c.heed_at.ensures.heard c.in_ok-parts.parts c.in_ok-call.ensures))
    c.follows.ensures
