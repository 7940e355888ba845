use Rattle.std.proofs.Common.{◌≡◌, Some, Ok, rules, sym, subst}
use Rattle.fed_ports.specs.Times.{Told}
use Rattle.turn_log.specs.Groups.{known}
use Rattle.fed_resolver.specs.Calls.{GaveAll}
use Rattle.fed_serve.specs.Resolutions.{call_at}
use Rattle.fed_serve.specs.Steps.{IsAnswer, came_of}
use Rattle.fed_serve.proofs.serving.answer_came.Goals as goal

pub returns-in-Some-clause-made : goal.returns-in-Some-clause-made
returns-in-Some-clause-made g c =
    let source = g.S.TimeSource in
    let link = g.L.Link in
    let count = g.G.Ledger.count in
    let before = call_at (known c.args.pass.now) (link.web c.args.link.now) (link.calls c.args.link.now) (link.link_faults c.args.link.now) (count c.args.steps.now.ledger) in
    let now = call_at (known c.answer_to.new.pass) (link.web c.answer_to.new.link) (link.calls c.answer_to.new.link) (link.link_faults c.answer_to.new.link)
    (count c.answer_to.new.steps.ledger) in
    let walks = GaveAll link.gave c.args.link.now c.answer_to.new.link in
    let is : c.args.came.now ≡ Some c.in-Some.came = search rules in
    record {
      clock = record {
        counted = c.now-t.ensures.counted;
        added = subst (Told (source.readings c.args.clock.now) (source.told c.args.clock.now) (source.told c.now-t.new.clock)) (sym c.now-t.ensures.last) c.now-t.ensures.told;
      };
      answer = subst (λ o. IsAnswer c.args.node.now walks (source.last c.now-t.new.clock) before now (came_of o) c.answer_to.result) (sym is)
          (subst (λ t. IsAnswer c.args.node.now walks t before now (Ok c.in-Some.came) c.answer_to.result) (sym c.now-t.ensures.last) c.answer_to.ensures.answer);
    }
