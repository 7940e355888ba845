use Rattle.std.proofs.lemmas.Result.{err_from_is_err_and}
use Rattle.fed_json.specs.declared.tree.Json.{Json}
use Rattle.authority_core.specs.Nodes.{Node}
use Rattle.node_files.proofs.NodeLaws.{answers_on, counts_after, counts_on, node_of_ring, ring_part}
use Rattle.node_files.proofs.opening.node_for.Goals as goal

pub returns-in_err-config-clause-node : goal.returns-in_err-config-clause-node
returns-in_err-config-clause-node g c =
    let p = err_from_is_err_and c.from_residual.result c.from_residual.ensures.1 in
    rw (p.1, p.2) (answers_on (g.D.Store.files c.args.store.now) _ _ c.in_err-config.field-0.0 (λ node it. (it.tree, it.is_tree))
    (c.in_err-config.ensures.tree (g.D.Store.files c.args.store.now)))

pub returns-in_err-config-clause-counts : goal.returns-in_err-config-clause-counts
returns-in_err-config-clause-counts g c =
    let p = err_from_is_err_and c.from_residual.result c.from_residual.ensures.1 in
    rw (p.1, p.2) (counts_on Json Node _ _ c.in_err-config.field-0.0 (c.in_err-config.ensures.steady (g.D.Store.store_faults c.args.store.now)))

pub returns-in_err-ring-clause-node : goal.returns-in_err-ring-clause-node
returns-in_err-ring-clause-node g c =
    let p = err_from_is_err_and c.from_residual-in_err-ring.result c.from_residual-in_err-ring.ensures.1 in
    rw (p.1, p.2) (answers_on (g.D.Store.files c.args.store.now) _ _ c.in_err-ring.field-0.0
    (ring_part (g.D.Store.files c.args.store.now) c.args.bytes c.in_ok-config.config (c.in_ok-config.ensures.tree (g.D.Store.files c.args.store.now)))
    c.in_err-ring.ensures.ring)

pub returns-clause-node : goal.returns-clause-node
returns-clause-node g c =
    node_of_ring (g.D.Store.files c.args.store.now) c.args.bytes c.in_ok-config.config c.in_ok-ring.ring c.registry.result
    (c.in_ok-config.ensures.tree (g.D.Store.files c.args.store.now)) c.in_ok-ring.ensures.ring (c.registry.ensures.node (g.D.Store.files c.args.store.now))

pub returns-clause-counts : goal.returns-clause-counts
returns-clause-counts g c =
    counts_after _ _ _ c.registry.result c.in_ok-ring.ensures.counts (c.registry.ensures.steady (g.D.Store.store_faults c.ring_for.new.store))
