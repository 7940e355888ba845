use Rattle.std.proofs.Common.{rules}
use Rattle.turn_log.specs.Groups.{known}
use Rattle.resolver_service.proofs.StopLaws.{takes_joined, takes_worn}
use Rattle.resolver_service.proofs.batch.take_next.Goals as goal

pub returns-then-is_worn-clause-takes : goal.returns-then-is_worn-clause-takes
returns-then-is_worn-clause-takes g c = takes_worn c.args.is_worn (known c.args.pass.now) (known c.args.own) c.if-is_worn.true

pub returns-else-is_worn-clause-takes : goal.returns-else-is_worn-clause-takes
returns-else-is_worn-clause-takes g c = takes_joined c.args.is_worn (known c.args.pass.now) (known c.args.own) _ c.if-is_worn.false (search rules)
