use Rattle.std.proofs.Common.{◌≡◌, ℕ, List, [], ◌∷◌, ◌++◌, length, ap, ◌∙◌}
use Rattle.std.specs.Prelude.{slice_set}
use Rattle.turn_log.specs.Groups.{known}
use Rattle.statement_shelf.specs.declared.calls.ShelfCall.{ShelfCall}
use Rattle.statement_shelf.specs.declared.calls.ShelfReply.{ShelfReply}
use Rattle.resolve_round.specs.declared.trace.Event.{Event}
use Rattle.resolve_round.specs.declared.trace.Event.TheVariants.{Shelf}
use Rattle.resolve_round.proofs.ActsLaws.{continues-none, continues-one, continues-same, continues-worn, halt-worn, reply-can}
use Rattle.resolve_round.proofs.Lasts.{last-within, popped-last, put-last}
use Rattle.resolve_round.proofs.acts.record_call.Goals as goal

-- the call with its reply stands in the room that was taken
added : (old pushed new : List Event) (x : Event) (at : ℕ) (told call : ShelfCall) (r : ShelfReply) → at ≡ length old → pushed ≡ old ++ x ∷ [] → new ≡ slice_set pushed at (Shelf told r) → told ≡ call
    → new ≡ old ++ Shelf call r ∷ []
added old pushed new x at told call r place push is same = put-last old pushed new x (Shelf told r) at place push is ∙ ap (λ k. old ++ Shelf k r ∷ []) same

pub set-requires : goal.set-requires
set-requires g c = last-within c.args.events.now c.push.new.self _ c.len-at.result c.len-at.ensures c.in_ok-push.ensures.ok

pub returns-in_err-told-clause-continues : goal.returns-in_err-told-clause-continues
returns-in_err-told-clause-continues g c = continues-none c.args.events.now (known c.args.pass.now)

pub returns-in_err-push-clause-continues : goal.returns-in_err-push-clause-continues
returns-in_err-push-clause-continues g c = continues-same c.args.events.now c.push.new.self (known c.args.pass.now) c.in_err-push.ensures.err

pub returns-in-Ok-clause-continues : goal.returns-in-Ok-clause-continues
returns-in-Ok-clause-continues g c =
    let is = added c.args.events.now c.push.new.self c.set.new.self _ c.len-at.result c.in_ok-told.told c.args.call c.in-Ok.reply c.len-at.ensures c.in_ok-push.ensures.ok c.set.ensures c.in_ok-told.ensures in
    continues-one c.args.events.now c.set.new.self (known c.args.pass.now) (known c.shelf.new.pass) c.args.call c.in-Ok.reply c.requires.work c.in-Ok.ensures.told is

pub returns-in-Ok-clause-ok : goal.returns-in-Ok-clause-ok
returns-in-Ok-clause-ok g c =
    record {
      answer = c.in-Ok.reply;
      is = added c.args.events.now c.push.new.self c.set.new.self _ c.len-at.result c.in_ok-told.told c.args.call c.in-Ok.reply c.len-at.ensures c.in_ok-push.ensures.ok c.set.ensures c.in_ok-told.ensures;
      can = reply-can (known c.args.pass.now) (known c.shelf.new.pass) c.args.call c.in-Ok.reply c.requires.work c.in-Ok.ensures.told c.is_history.ensures.parts_legal;
    }

pub returns-in-Err-clause-continues : goal.returns-in-Err-clause-continues
returns-in-Err-clause-continues g c =
    let same = popped-last c.args.events.now c.push.new.self c.pop.new.self _ c.pop.result c.in_ok-push.ensures.ok c.pop.ensures in
    continues-worn c.args.events.now c.pop.new.self (known c.args.pass.now) (known c.shelf.new.pass) c.args.call c.requires.work c.in-Err.ensures.worn.1 same

pub returns-in-Err-clause-err : goal.returns-in-Err-clause-err
returns-in-Err-clause-err g c = popped-last c.args.events.now c.push.new.self c.pop.new.self _ c.pop.result c.in_ok-push.ensures.ok c.pop.ensures

pub returns-in-Err-clause-halt : goal.returns-in-Err-clause-halt
returns-in-Err-clause-halt g c = halt-worn (known c.args.pass.now) (known c.shelf.new.pass) c.args.call c.in-Err.worn.count c.requires.work c.in-Err.ensures.worn.1 c.in-Err.ensures.worn.0
