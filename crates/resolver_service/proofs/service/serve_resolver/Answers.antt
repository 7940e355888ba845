use Rattle.std.proofs.Common.{refl}
use Rattle.node_files.specs.Orders.{order_of}
use Rattle.resolver_service.proofs.EndLaws.{ends_with, ends_without}
use Rattle.resolver_service.proofs.NodeLaws.{has_workers}
use Rattle.resolver_service.proofs.service.serve_resolver.Goals as goal

pub serve_registry-requires-clause-workers : goal.serve_registry-requires-clause-workers
serve_registry-requires-clause-workers g c = λ lives within. has_workers _ _ c.in-Ok.registry c.in-Ok.ensures.node.0

pub serve_registry-requires-clause-resolves : goal.serve_registry-requires-clause-resolves
serve_registry-requires-clause-resolves g c = λ lives within. c.in-Ok.ensures.node.1

pub returns-in-Err : goal.returns-in-Err
returns-in-Err g c = record {
  ends = rw c.from.ensures (record { ended = ends_without _ _ _ (g.D.Store.files c.open_resolver.new.store) _ _ _ c.in-Err.fault c.in-Err.ensures.node c.in-Err.ensures.counts; files = c.open_resolver.ensures.files; exchanges = refl });
}

pub returns-in-Ok : goal.returns-in-Ok
returns-in-Ok g c = record {
  ends = record {
    ended =
        ends_with _ (order_of c.args.config.now c.args.port c.args.connections) _ (g.D.Store.files c.open_resolver.new.store) _ _ _ _ c.in-Ok.registry c.serve_registry.result c.in-Ok.ensures.counts
        c.in-Ok.ensures.node.0 c.serve_registry.ensures.ends;
    files = c.open_resolver.ensures.files;
    exchanges = c.serve_registry.ensures.exchanges;
  };
}
