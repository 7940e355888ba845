use Rattle.turn_log.specs.Groups.{known}
use Rattle.resolver_service.proofs.DeskLaws.{routes_as, same_none}
use Rattle.resolver_service.proofs.desks.new_desk.Goals as goal

pub desk_with-requires-clause-silent : goal.desk_with-requires-clause-silent
desk_with-requires-clause-silent g c = λ lives within. c.in_ok-link.ensures.silent

pub returns-in-Ok-clause-new : goal.returns-in-Ok-clause-new
returns-in-Ok-clause-new g c = routes_as _ _ _ (known c.args.pass.now) c.desk_with.result c.in_ok-link.ensures.routes c.desk_with.ensures.new

pub returns-in-Err-clause-same : goal.returns-in-Err-clause-same
returns-in-Err-clause-same g c = same_none (known c.args.pass.now)

pub returns-in_err-link-clause-same : goal.returns-in_err-link-clause-same
returns-in_err-link-clause-same g c = same_none (known c.args.pass.now)
