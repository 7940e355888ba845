use Rattle.http_stream.proofs.Streaming.{are_requests, end_inside}
use Rattle.http_stream.proofs.stream.serve_stream.Goals as goal

pub returns-clause-whole : goal.returns-clause-whole
returns-clause-whole g c = are_requests g.A.Answerer.step g.A.Answerer.gives_up c.args.most _ _ c.serve_requests.result c.serve_requests.ensures.served

pub returns-clause-ended : goal.returns-clause-ended
returns-clause-ended g c is = end_inside g.A.Answerer.step g.A.Answerer.gives_up c.args.most _ _ c.serve_requests.result c.requires.some c.serve_requests.ensures.served is
