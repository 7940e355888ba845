use Rattle.node_files.specs.Orders.{order_of}
use Rattle.node_service.proofs.EndLaws.{ends_with, ends_without}
use Rattle.node_service.proofs.service.serve_authority.Goals as goal

pub returns-in-Err-clause-ends : goal.returns-in-Err-clause-ends
returns-in-Err-clause-ends g c =
    rw c.from.ensures (ends_without _ _ _ _ _ _ _ _ c.in-Err.fault c.open_authority.ensures.files c.in-Err.ensures.node c.in-Err.ensures.counts)

pub returns-in-Ok-clause-ends : goal.returns-in-Ok-clause-ends
returns-in-Ok-clause-ends g c =
    ends_with _ (order_of c.args.config.now c.args.port c.args.connections) _ _ _ _ _ _ _ _ c.in-Ok.registry c.serve_alone-end.result c.open_authority.ensures.files c.in-Ok.ensures.counts
    (record { is_node = c.in-Ok.ensures.node.0; is_authority = c.in-Ok.ensures.node.1 }) c.serve_alone-end.ensures.ends
