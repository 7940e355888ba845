use Rattle.std.proofs.Common.{ap}
use Rattle.turn_log.specs.Groups.{known}
use Rattle.resolver_service.proofs.StopLaws.{ends_desk}
use Rattle.resolver_service.proofs.batch.end_desk.Goals as goal

pub returns-clause-ends : goal.returns-clause-ends
returns-clause-ends g c =
    ends_desk c.args.desk _ _ c.args.so_far c.take_in-taken.result c.memory_first.result c.settle_peer-settled.result c.is_worn-worn.result (known c.parted-own.result.0) c.parted-own.result.1
    c.is_worn-worn.ensures (ap known c.parted-own.ensures.0) c.parted-own.ensures.1 c.take_in-taken.ensures.takes c.settle_peer-settled.ensures.settled c.settle_peer-settled.ensures.err
    c.memory_first.ensures
