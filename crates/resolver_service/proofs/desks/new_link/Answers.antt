use Rattle.std.proofs.Common.{◌≡◌, [], sym, subst}
use Rattle.std.specs.Prelude.{IfSome}
use Rattle.resolver_service.proofs.desks.new_link.Goals as goal

pub returns-in-Ok-clause-silent : goal.returns-in-Ok-clause-silent
returns-in-Ok-clause-silent g c = subst (λ network. IfSome (g.N.Network.exchanges network) (λ told. told ≡ [])) (sym c.new.ensures.network) c.in-Ok.ensures.exchanges
