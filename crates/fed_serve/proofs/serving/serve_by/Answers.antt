use Rattle.std.proofs.Common.{◌≡◌, rules}
use Rattle.fed_resolver.specs.Calls.{GaveAll}
use Rattle.fed_serve.specs.Moments.{peer_at}
use Rattle.fed_serve.proofs.Asking.{has_reason}
use Rattle.fed_serve.proofs.Outcomes.{answered}
use Rattle.fed_serve.proofs.serving.serve_by.Goals as goal

pub send_answer-requires : goal.send_answer-requires
send_answer-requires g c =
    let is = c.in-Ok.ensures.made.answer in
    has_reason c.args.node.now.registry _ is.handling _ _ c.in-Ok.answer.response is.does.told.3

pub returns-in-Ok-clause-serves : goal.returns-in-Ok-clause-serves
returns-in-Ok-clause-serves g c =
    let node = c.args.node.now in
    let source = g.P.Source in
    let sink = g.P.Sink in
    let mid = c.read.new.peer in
    let end = c.send_answer.new.peer in
    let left : source.left end ≡ source.left mid = search rules in
    let read_faults : source.read_faults end ≡ source.read_faults mid = search rules in
    let walks = GaveAll g.L.Link.gave c.args.link.now c.answer_came-answer.new.link in
    answered node walks _ _ (peer_at (source.left mid) (sink.held mid) (source.read_faults mid) (sink.write_faults mid)) c.in_ok-came.came c.in-Ok.answer c.send_answer.result
    (record { reading = c.in_ok-came.ensures; left = left; read_faults = read_faults })
    c.in-Ok.ensures.made
    c.send_answer.ensures.sent c.send_answer.ensures.cause
