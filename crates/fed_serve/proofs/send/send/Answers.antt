use Rattle.std.proofs.Common.{◌≡◌, Err, refl, inr, subst}
use Rattle.http_plain.specs.Writings.{Writes}
use Rattle.fed_serve.specs.Responses.{out_of_memory}
use Rattle.fed_serve.specs.Steps.{Sends}
use Rattle.fed_serve.proofs.send.send.Goals as goal

pub returns-in_default-clause-sent : goal.returns-in_default-clause-sent
returns-in_default-clause-sent g c = (out_of_memory, inr refl, c.send_out_of_memory.ensures.sent)

-- nothing of the response was written before
pub returns-in-Err-Memory-clause-sent : goal.returns-in-Err-Memory-clause-sent
returns-in-Err-Memory-clause-sent g c =
    let sink = g.P.Sink in
    let old = sink.held c.args.peer.now in
    let mid = sink.held c.write_response.new.to in
    let last = sink.held c.send_out_of_memory-in-Err-Memory.new.peer in
    let same : mid ≡ old = subst (λ e. Writes old mid c.in-Ok.response (Err e)) c.in-Err-Memory.field-0-is c.in-Err-Memory.ensures.written in
    (out_of_memory, inr refl, subst (λ h. Sends h last out_of_memory c.send_out_of_memory-in-Err-Memory.result) same c.send_out_of_memory-in-Err-Memory.ensures.sent)
