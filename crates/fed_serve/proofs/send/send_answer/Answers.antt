use Rattle.std.proofs.Common.{Ok, Err, refl, subst}
use Rattle.fed_serve.specs.Steps.{Sends}
use Rattle.fed_serve.proofs.send.send_answer.Goals as goal

pub returns-in-Ok-clause-sent : goal.returns-in-Ok-clause-sent
returns-in-Ok-clause-sent g c =
    let sent = c.send-sent.ensures.sent in
    let sink = g.P.Sink in
    record {
      said = sent.0;
      says = sent.1;
      sent = Ok c.in-Ok.status;
      sends = subst (Sends (sink.held c.args.peer.now) (sink.held c.send-sent.new.peer) sent.0) c.in-Ok.is sent.2;
      telling = (refl, refl, refl);
    }

pub returns-in-Err-clause-sent : goal.returns-in-Err-clause-sent
returns-in-Err-clause-sent g c =
    let sent = c.send-sent.ensures.sent in
    let sink = g.P.Sink in
    record {
      said = sent.0;
      says = sent.1;
      sent = Err c.in-Err.fault;
      sends = subst (Sends (sink.held c.args.peer.now) (sink.held c.send-sent.new.peer) sent.0) c.in-Err.is sent.2;
      telling = refl;
    }
