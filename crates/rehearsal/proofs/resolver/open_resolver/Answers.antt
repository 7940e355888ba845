use Rattle.std.proofs.Common.{◌∙◌}
use Rattle.std.proofs.lemmas.Result.{IfOk-weaker}
use Rattle.rehearsal.proofs.RehearsalLaws.{configured-as}
use Rattle.rehearsal.proofs.resolver.open_resolver.Goals as goal

pub returns-clause-node : goal.returns-clause-node
returns-clause-node c =
    IfOk-weaker c.open_node.result _ _
    (λ opened is. (c.in_ok-registry.registry, configured-as _ _ _ _ c.in_ok-registry.registry (c.as_slice.ensures ∙ c.in_ok-config.ensures) c.in_ok-ring.ensures c.in_ok-registry.ensures, is))
    c.open_node.ensures.node
