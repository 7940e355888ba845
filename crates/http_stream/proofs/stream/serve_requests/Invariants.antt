use Rattle.std.proofs.Common.{◌≡◌, ◌≤◌}
use Rattle.http_stream.specs.Conversations.{stream_at}
use Rattle.http_stream.proofs.Serving.{SoFar}
use Rattle.http_stream.proofs.stream.serve_requests.Given as goal

abbrev pub invariant-loop-inbox : goal.invariant-loop-inbox
invariant-loop-inbox g l = let source = g.P.Source in let sink = g.P.Sink in let answerer = g.A.Answerer in record {
  ready : answerer.ready l.answerer;
  some : 1 ≤ l.left;
  within : l.left ≤ l.most;
  reads : source.read_faults l.peer ≡ source.read_faults l.fn.peer;
  writes : sink.write_faults l.peer ≡ sink.write_faults l.fn.peer;
  so_far : SoFar answerer.step l.most l.left l.left
      (stream_at (source.left l.fn.peer) (sink.held l.fn.peer) (source.read_faults l.fn.peer) (sink.write_faults l.fn.peer) (answerer.at l.fn.answerer))
      (stream_at (source.left l.peer) (sink.held l.peer) (source.read_faults l.peer) (sink.write_faults l.peer) (answerer.at l.answerer)) l.inbox;
}

abbrev pub decreases-loop-inbox : goal.decreases-loop-inbox
decreases-loop-inbox g l = l.left
