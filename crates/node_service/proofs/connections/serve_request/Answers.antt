use Rattle.node_service.proofs.ConnectionLaws.{answered_alone}
use Rattle.node_service.proofs.connections.serve_request.Goals as goal

pub returns : goal.returns
returns g c = record { attends = (_, _, c.serve_one.result, answered_alone c.args.server.now.node.now _ _ _ c.serve_one.result c.requires.alone c.serve_one.ensures.serves) }
