use Rattle.std.proofs.Common.{rules, ⊎_elim, ap}
use Rattle.std.proofs.lemmas.Result.{err_from_is_err_and}
use Rattle.authority_core.specs.Nodes.{Node}
use Rattle.node_files.proofs.NodeLaws.{answers_on, one_node}
use Rattle.node_files.proofs.opening.open_authority.Goals as goal

pub returns-in_err-registry-clause-node : goal.returns-in_err-registry-clause-node
returns-in_err-registry-clause-node g c =
    let p = err_from_is_err_and c.from_residual.result c.from_residual.ensures.1 in
    rw (p.1, p.2) (answers_on (g.D.Store.files c.args.store.now) _ _ c.in_err-registry.field-0.0 (λ node it. (node, it.0)) c.in_err-registry.ensures.node)

pub returns-then-is_some-clause-node : goal.returns-then-is_some-clause-node
returns-then-is_some-clause-node g c = λ node it. ⊎_elim (λ untold. untold)
    (λ same. search (rules, ap (λ (n : Node). n.settings.resolver) same, it.1, c.resolver_config.ensures, c.is_some.ensures, c.if-is_some.true))
    (one_node (g.D.Store.files c.args.store.now) c.args.config.now node c.in_ok-registry.registry it.0 c.in_ok-registry.ensures.node)
