use Rattle.std.proofs.Common.{refl, ap, sym, subst}
use Rattle.std.specs.Prelude.{IfSome}
use Rattle.statement_shelf.specs.Passes.{IsPassOfAll}
use Rattle.fed_serve.specs.declared.node.Node.{Node}
use Rattle.fed_serve.specs.declared.part.ResolverPart.{ResolverPart}
use Rattle.resolver_service.proofs.EndLaws.{opened_from}
use Rattle.resolver_service.proofs.node.open_with.Goals as goal

pub returns-in-Ok-clause-opened : goal.returns-in-Ok-clause-opened
returns-in-Ok-clause-opened c =
    opened_from c.args.registry c.args.parts (record { commons = c.in-Ok.commons; signer = c.args.parts.signer; control = c.args.parts.control }) _ c.requires refl refl
    c.in-Ok.ensures.opened c.node_with-node.ensures refl refl

pub returns-in-Ok-clause-of : goal.returns-in-Ok-clause-of
returns-in-Ok-clause-of c =
    subst (λ (r : _). IfSome r (λ (part : ResolverPart). IsPassOfAll part.commons c.in-Ok.pass)) (sym (ap (λ (n : Node). n.resolver) c.node_with-node.ensures)) c.in-Ok.ensures.of
