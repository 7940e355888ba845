use Rattle.std.proofs.Common.{List, [], ◌∷◌, ◌++◌, sym, ap, rules, ◌∙◌}
use Rattle.turn_log.specs.Groups.{known}
use Rattle.statement_shelf.specs.declared.calls.BookCall.TheVariants.{Read}
use Rattle.resolve_round.specs.declared.trace.Event.{Event}
use Rattle.resolve_round.specs.declared.trace.Event.TheVariants.{Book}
use Rattle.resolve_round.proofs.Lasts.{popped-last, put-last}
use Rattle.fed_resolver.proofs.ReadLaws.{read-can, read-fresh, read-gains, unread-fresh, unread-gains, worn-gains}
use Rattle.fed_resolver.proofs.book.read_book.Goals as goal

pub returns-in-Ok-clause-gains : goal.returns-in-Ok-clause-gains
returns-in-Ok-clause-gains g c =
    let is = put-last c.args.trace.now.events c.push.new.self c.set.new.self _ (Book (Read c.in_ok-told.told) c.in-Ok.reply) c.len-at.result c.len-at.ensures c.in_ok-push.ensures.ok c.set.ensures in
    let one = is ∙ ap (λ l. l ++ Book (Read c.in_ok-told.told) c.in-Ok.reply ∷ []) c.requires.none ∙ ap (λ a. Book (Read a) c.in-Ok.reply ∷ []) (c.in_ok-told.ensures ∙ sym c.in_ok-asked.ensures) in
    read-gains _ (known c.args.pass.now) (known c.book.new.pass) c.in_ok-asked.asked c.in-Ok.reply c.in-Ok.ensures.told c.is_history.ensures.book_legal c.set.new.self one

pub returns-in-Ok-clause-fresh : goal.returns-in-Ok-clause-fresh
returns-in-Ok-clause-fresh g c =
    let is = put-last c.args.trace.now.events c.push.new.self c.set.new.self _ (Book (Read c.in_ok-told.told) c.in-Ok.reply) c.len-at.result c.len-at.ensures c.in_ok-push.ensures.ok c.set.ensures in
    let one = is ∙ ap (λ l. l ++ Book (Read c.in_ok-told.told) c.in-Ok.reply ∷ []) c.requires.none ∙ ap (λ a. Book (Read a) c.in-Ok.reply ∷ []) (c.in_ok-told.ensures ∙ sym c.in_ok-asked.ensures) in
    read-fresh _ (known c.args.pass.now) (known c.book.new.pass) c.in_ok-asked.asked c.in-Ok.reply c.in-Ok.ensures.told c.is_history.ensures.book_legal (record c.args.trace.now { events = c.set.new.self }) one

pub returns-in-Ok-clause-read : goal.returns-in-Ok-clause-read
returns-in-Ok-clause-read g c =
    let is = put-last c.args.trace.now.events c.push.new.self c.set.new.self _ (Book (Read c.in_ok-told.told) c.in-Ok.reply) c.len-at.result c.len-at.ensures c.in_ok-push.ensures.ok c.set.ensures in
    let one = is ∙ ap (λ l. l ++ Book (Read c.in_ok-told.told) c.in-Ok.reply ∷ []) c.requires.none ∙ ap (λ a. Book (Read a) c.in-Ok.reply ∷ []) c.in_ok-told.ensures in
    record {
      answer = c.in-Ok.reply;
      is = ap (λ (es : List Event). record c.args.trace.now { events = es }) one;
      can = read-can _ (known c.args.pass.now) (known c.book.new.pass) c.in_ok-asked.asked c.in-Ok.reply c.in-Ok.ensures.told c.is_history.ensures.book_legal;
    }

pub returns-in-Err-clause-gains : goal.returns-in-Err-clause-gains
returns-in-Err-clause-gains g c =
    let same = popped-last c.args.trace.now.events c.push.new.self c.pop.new.self _ c.pop.result c.in_ok-push.ensures.ok c.pop.ensures in
    worn-gains (known c.args.pass.now) (known c.book.new.pass) c.pop.new.self c.in-Err.ensures.worn.1 (same ∙ c.requires.none)

pub returns-in-Err-clause-fresh : goal.returns-in-Err-clause-fresh
returns-in-Err-clause-fresh g c = λ anchors.
    let same = popped-last c.args.trace.now.events c.push.new.self c.pop.new.self _ c.pop.result c.in_ok-push.ensures.ok c.pop.ensures in
    unread-fresh anchors (known c.args.pass.now) (record c.args.trace.now { events = c.pop.new.self }) (same ∙ c.requires.none)

pub returns-in-Err-clause-unread : goal.returns-in-Err-clause-unread
returns-in-Err-clause-unread g c =
    let same = popped-last c.args.trace.now.events c.push.new.self c.pop.new.self _ c.pop.result c.in_ok-push.ensures.ok c.pop.ensures in
    ap (λ (es : List Event). record c.args.trace.now { events = es }) same

pub returns-in_err-asked-clause-gains : goal.returns-in_err-asked-clause-gains
returns-in_err-asked-clause-gains g c = unread-gains (known c.args.pass.now) c.args.trace.now.events c.requires.none

pub returns-in_err-told-clause-gains : goal.returns-in_err-told-clause-gains
returns-in_err-told-clause-gains g c = unread-gains (known c.args.pass.now) c.args.trace.now.events c.requires.none

pub returns-in_err-push-clause-gains : goal.returns-in_err-push-clause-gains
returns-in_err-push-clause-gains g c = unread-gains (known c.args.pass.now) c.push.new.self (search rules)
