use Rattle.std.proofs.Common.{refl, sym, subst, inl}
use Rattle.std.proofs.lemmas.Result.{err_from_is_err_and}
use Rattle.fed_ports.specs.Times.{Told}
use Rattle.turn_log.specs.Groups.{known}
use Rattle.resolver_service.proofs.DeskLaws.{batch_of}
use Rattle.resolver_service.proofs.StopLaws.{batch_stops, purge_stops}
use Rattle.resolver_service.proofs.batch.serve_batch.Goals as goal

pub returns-in-Ok-clause-batch : goal.returns-in-Ok-clause-batch
returns-in-Ok-clause-batch g c =
    batch_of _ _ c.args.server.now.part.now c.args.server.now.opened.now.node _ _ (known c.args.pass.now) (known c.purge.new.pass) (known c.add_desks.new.pass) _ _ _ c.now-moment.result c.args.count
    c.add_desks.new.desks.items c.serve_desks.result
    (record {
      counted = c.now-moment.ensures.counted;
      added = subst (Told (g.C.Clock.readings c.args.clock.now) (g.C.Clock.told c.args.clock.now) (g.C.Clock.told c.now-moment.new.self)) (sym c.now-moment.ensures.last) c.now-moment.ensures.told;
    })
    (sym c.now-moment.ensures.last) c.in_ok-purge.ensures.purged c.add_desks.ensures.same c.in-Ok.ensures.shared c.in-Ok.ensures.made c.in-Ok.ensures.many c.serve_desks.ensures.serves

pub returns-in-Ok-clause-stopped : goal.returns-in-Ok-clause-stopped
returns-in-Ok-clause-stopped g c =
    batch_stops _ _ c.args.server.now.opened.now.node _ _ (known c.args.pass.now) (known c.purge.new.pass) (known c.add_desks.new.pass) (known c.serve_desks.new.pass) _ _ c.now-moment.result c.args.count
    c.add_desks.new.desks.items c.serve_desks.result
    (record {
      counted = c.now-moment.ensures.counted;
      added = subst (Told (g.C.Clock.readings c.args.clock.now) (g.C.Clock.told c.args.clock.now) (g.C.Clock.told c.now-moment.new.self)) (sym c.now-moment.ensures.last) c.now-moment.ensures.told;
    })
    (sym c.now-moment.ensures.last) c.in_ok-purge.ensures.purged c.in-Ok.ensures.made.new c.in-Ok.ensures.many c.serve_desks.ensures.stopped

pub returns-in-Err-clause-stopped : goal.returns-in-Err-clause-stopped
returns-in-Err-clause-stopped g c = inl (record {
  clock = record {
    counted = c.now-moment.ensures.counted;
    added = subst (Told (g.C.Clock.readings c.args.clock.now) (g.C.Clock.told c.args.clock.now) (g.C.Clock.told c.now-moment.new.self)) (sym c.now-moment.ensures.last) c.now-moment.ensures.told;
  };
  net = refl;
})

pub returns-in_err-purge-clause-stopped : goal.returns-in_err-purge-clause-stopped
returns-in_err-purge-clause-stopped g c =
    let p = err_from_is_err_and c.from_residual.result c.from_residual.ensures.1 in
    rw (p.1, p.2) (purge_stops _ c.args.count _ (known c.args.pass.now) (known c.purge.new.pass) _ _ c.now-moment.result c.in_err-purge.field-0.0
    (record {
      counted = c.now-moment.ensures.counted;
      added = subst (Told (g.C.Clock.readings c.args.clock.now) (g.C.Clock.told c.args.clock.now) (g.C.Clock.told c.now-moment.new.self)) (sym c.now-moment.ensures.last) c.now-moment.ensures.told;
    })
    (sym c.now-moment.ensures.last) c.in_err-purge.ensures.stops)
