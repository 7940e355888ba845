use Rattle.std.proofs.Common.{Ok}
use Rattle.turn_log.specs.Groups.{known}
use Rattle.resolver_service.proofs.StopLaws.{takes_none, takes_same}
use Rattle.resolver_service.proofs.batch.take_in.Goals as goal

pub returns-in-Ok-clause-takes : goal.returns-in-Ok-clause-takes
returns-in-Ok-clause-takes g c =
    takes_same c.args.so_far (Ok tt) c.args.is_worn (known c.args.pass.now) (known c.args.own) (known c.take_next.new.pass) c.take_next.result c.in-Ok.is c.take_next.ensures.takes

pub returns-in-Err-clause-takes : goal.returns-in-Err-clause-takes
returns-in-Err-clause-takes g c = takes_none c.args.so_far c.in-Err.stop c.args.is_worn (known c.args.pass.now) (known c.args.own) c.in-Err.is
