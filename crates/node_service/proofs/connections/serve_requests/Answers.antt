use Rattle.std.proofs.Common.{ap, sym}
use Rattle.fed_ports.specs.Times.{clock_at}
use Rattle.fed_serve.specs.Moments.{answer_at}
use Rattle.node_service.specs.Streams.{request_limit}
use Rattle.node_service.specs.Tools.{call_with}
use Rattle.node_service.proofs.StreamLaws.{kept, stays}
use Rattle.node_service.proofs.connections.serve_requests.Goals as goal

pub returns : goal.returns
returns g c =
    let clock = g.C.Clock in
    let is = c.serve_stream.ensures.served in
    let call = call_with c.serve_stream.new.answerer.tools.now in
    -- the clock that the authority reads is still the one that it was given
    let read = c.clock-1.given.1 (sym (stays _ _ _ _ is).reads) in
    record {
      attends = (
        call_with c.args.tools.now,
        call,
        c.serve_stream.result,
        record {
          reads = _;
          serves = kept request_limit _ _ c.serve_stream.result _ is (ap (λ now. answer_at (clock_at (clock.readings now) (clock.last now) (clock.told now)) call) read);
          whole = c.serve_stream.ensures.whole;
          ended = c.serve_stream.ensures.ended;
        },
      );
    }
