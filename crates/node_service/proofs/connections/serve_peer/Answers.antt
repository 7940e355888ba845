use Rattle.node_service.proofs.connections.serve_peer.Goals as goal

pub returns-then-server : goal.returns-then-server
returns-then-server g c = rw c.if-server.true c.serve_requests.ensures

pub returns-else-server : goal.returns-else-server
returns-else-server g c = rw c.if-server.false c.serve_request.ensures
