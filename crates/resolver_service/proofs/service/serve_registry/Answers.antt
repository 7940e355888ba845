use Rattle.std.proofs.Common.{refl, inl}
use Rattle.resolver_service.proofs.service.serve_registry.Goals as goal

pub returns-in-Err-clause-ends : goal.returns-in-Err-clause-ends
returns-in-Err-clause-ends g c = (refl, inl refl)

pub returns-in-Some-clause-ends : goal.returns-in-Some-clause-ends
returns-in-Some-clause-ends g c = c.serve_post-end.ensures.ends c.args.registry c.in-Ok.ensures.opened
