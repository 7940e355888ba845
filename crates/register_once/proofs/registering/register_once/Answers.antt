use Rattle.std.proofs.Common.{refl, sym, subst}
use Rattle.std.proofs.lemmas.Result.{err_from_is_err_and}
use Rattle.fed_ports.specs.Times.{IsOneReading, Told}
use Rattle.resolve_call.specs.Ports.{call_seen, clock_seen}
use Rattle.http_plain.specs.Networks.{network_seen}
use Rattle.register_once.specs.Opened.{IsRegistrationAt, wanted_of}
use Rattle.register_once.proofs.OutcomeLaws.{registration-by}
use Rattle.register_once.proofs.registering.register_once.Goals as goal

pub returns-in_err-opened-clause-registers : goal.returns-in_err-opened-clause-registers
returns-in_err-opened-clause-registers g c =
    let p = err_from_is_err_and c.from_residual.result c.from_residual.ensures.1 in
    rw (p.1, p.2) (record {
      ends = record { cause = c.in_err-opened.ensures.stopped (call_seen g.N.Network g.C.Clock c.args.net.now c.args.clock.now); unasked = refl };
      files = c.in_err-opened.ensures.files;
      source = c.in_err-opened.ensures.source;
      store = c.in_err-opened.ensures.store;
    })

pub returns-clause-registers : goal.returns-clause-registers
returns-clause-registers g c =
    let reading : IsOneReading (clock_seen g.C.Clock c.args.clock.now) (clock_seen g.C.Clock c.now-moment.new.self) = record {
      counted = c.now-moment.ensures.counted;
      added = subst (Told (g.C.Clock.readings c.args.clock.now) (g.C.Clock.told c.args.clock.now) (g.C.Clock.told c.now-moment.new.self)) (sym c.now-moment.ensures.last) c.now-moment.ensures.told;
    } in
    record {
      ends =
          registration-by (wanted_of c.args.order) _ _ _ _ _ _ _ _ _ _ (clock_seen g.C.Clock c.args.clock.now) (clock_seen g.C.Clock c.now-moment.new.self)
          (network_seen g.N.Network c.args.net.now) (network_seen g.N.Network c.register_over.new.net) c.in_ok-opened.opened c.register_over.result
          (c.in_ok-opened.ensures.opened (call_seen g.N.Network g.C.Clock c.args.net.now c.args.clock.now)) reading
          (subst (λ moment. IsRegistrationAt c.in_ok-opened.opened c.args.order.anchor.now moment (network_seen g.N.Network c.args.net.now) (network_seen g.N.Network c.register_over.new.net) c.register_over.result)
          (sym c.now-moment.ensures.last) c.register_over.ensures.registers);
      files = c.in_ok-opened.ensures.files;
      source = c.in_ok-opened.ensures.source;
      store = c.in_ok-opened.ensures.store;
    }
