use Rattle.turn_log.specs.Groups.{known}
use Rattle.resolver_service.proofs.EndLaws.{ends_stopped, has_served}
use Rattle.resolver_service.proofs.service.serve_listening.Goals as goal

pub returns-in-Ok-clause-ends : goal.returns-in-Ok-clause-ends
returns-in-Ok-clause-ends g c = λ node is. (
  has_served _ node c.args.server.now.opened.now c.args.server.now.part.now c.args.connections _ _ (known c.args.pass) (known c.serve_batches-served.new.pass) is c.requires.part
      (record { parts = c.requires.unused.parts_unused; book = c.requires.unused.book_unused }) c.in-Ok.ensures.serves c.is_history.ensures,
  c.in-Ok.ensures.stops,
)

pub returns-in-Err-clause-ends : goal.returns-in-Err-clause-ends
returns-in-Err-clause-ends g c = λ node is.
    ends_stopped _ node c.args.server.now.opened.now c.args.server.now.part.now c.args.connections _ _ (known c.args.pass) (known c.serve_batches-served.new.pass) c.in-Err.stop c.stopped.result is c.requires.part
    (record { parts = c.requires.unused.parts_unused; book = c.requires.unused.book_unused }) c.stopped.ensures c.in-Err.ensures.stops c.in-Err.ensures.stopped c.is_history.ensures
