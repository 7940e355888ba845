use Rattle.std.proofs.Common.{◌≡◌, sym, subst}
use Rattle.fed_ports.specs.Times.{Told, IsOneReading, clock_at}
use Rattle.fed_serve.proofs.answering.answer.Goals as goal

pub returns-clause-answers : goal.returns-clause-answers
returns-clause-answers g c =
    let clock = g.C.Clock in
    let last = c.now-t.ensures.last in
    let reading : IsOneReading (clock_at (clock.readings c.args.clock.now) (clock.last c.args.clock.now) (clock.told c.args.clock.now))
    (clock_at (clock.readings c.now-t.new.self) (clock.last c.now-t.new.self) (clock.told c.now-t.new.self)) = record {
      counted = c.now-t.ensures.counted;
      added = subst (Told (clock.readings c.args.clock.now) (clock.told c.args.clock.now) (clock.told c.now-t.new.self)) (sym last) c.now-t.ensures.told;
    } in
    c.answer_request.ensures.answers _ _ reading last
