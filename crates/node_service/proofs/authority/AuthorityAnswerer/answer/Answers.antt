use Rattle.std.proofs.Common.{◌≡◌, Ok, Err, refl, sym, subst}
use Rattle.fed_ports.specs.Times.{Told, IsOneReading, clock_at}
use Rattle.node_service.proofs.ConnectionLaws.{request_alone}
use Rattle.node_service.proofs.authority.AuthorityAnswerer.answer.Goals as goal

pub returns-in-Ok-clause-step : goal.returns-in-Ok-clause-step
returns-in-Ok-clause-step g c =
    let clock = g.C.Clock in
    let old = c.args.self.now.clock.now in
    let new = c.now-t.new.self in
    let last = c.now-t.ensures.last in
    let reading : IsOneReading (clock_at (clock.readings old) (clock.last old) (clock.told old)) (clock_at (clock.readings new) (clock.last new) (clock.told new)) = record {
      counted = c.now-t.ensures.counted;
      added = subst (Told (clock.readings old) (clock.told old) (clock.told new)) (sym last) c.now-t.ensures.told;
    } in
    (record { node = refl; reads = refl }, (c.in-Ok.field-0, refl, request_alone c.args.self.now.node.now _ c.now-t.result _ _ c.args.asked.now (Ok c.in-Ok.field-0) _ _ c.requires.ready.0 c.in-Ok.ensures.answers reading last))

pub returns-in-Ok-clause-reason : goal.returns-in-Ok-clause-reason
returns-in-Ok-clause-reason g c =
    let clock = g.C.Clock in
    let old = c.args.self.now.clock.now in
    let new = c.now-t.new.self in
    let last = c.now-t.ensures.last in
    let reading : IsOneReading (clock_at (clock.readings old) (clock.last old) (clock.told old)) (clock_at (clock.readings new) (clock.last new) (clock.told new)) = record {
      counted = c.now-t.ensures.counted;
      added = subst (Told (clock.readings old) (clock.told old) (clock.told new)) (sym last) c.now-t.ensures.told;
    } in
    (c.in-Ok.ensures.answers _ _ reading last).has_reason

pub returns-in-Err-Memory-clause-gives_up : goal.returns-in-Err-Memory-clause-gives_up
returns-in-Err-Memory-clause-gives_up g c =
    let clock = g.C.Clock in
    let old = c.args.self.now.clock.now in
    let new = c.now-t.new.self in
    let last = c.now-t.ensures.last in
    let reading : IsOneReading (clock_at (clock.readings old) (clock.last old) (clock.told old)) (clock_at (clock.readings new) (clock.last new) (clock.told new)) = record {
      counted = c.now-t.ensures.counted;
      added = subst (Told (clock.readings old) (clock.told old) (clock.told new)) (sym last) c.now-t.ensures.told;
    } in (
      record { node = refl; reads = refl },
      rw c.in-Err-Memory.field-0-is at (request_alone c.args.self.now.node.now _ c.now-t.result _ _ c.args.asked.now (Err c.in-Err-Memory.field-0) _ _ c.requires.ready.0 c.in-Err-Memory.ensures.answers reading last),
    )
