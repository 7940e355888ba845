use Rattle.std.proofs.Common.{◌++◌, sym, ap, ◌∙◌, append-nil}
use Rattle.std.proofs.lemmas.Result.{err_from_is_err_and}
use Rattle.resolve_round.specs.Traces.{puts_in}
use Rattle.resolve_search.proofs.AnsweringLaws.{put-useless, read-is, read-split, tells-useless}
use Rattle.resolve_search.proofs.CallLaws.{keeps-err, keeps-none, keeps-ok, keeps-stop}
use Rattle.resolve_search.proofs.answering.report_on.Goals as goal

-- ---- memory was wanting at the reading

pub returns-in_err-signed-clause-keeps : goal.returns-in_err-signed-clause-keeps
returns-in_err-signed-clause-keeps g c =
    let p = err_from_is_err_and c.from_residual.result c.from_residual.ensures.1 in
    rw (p.1, p.2) (keeps-stop g.G.Ledger.count c.args.age c.args.search.now c.args.call.now c.requires.ready)

-- ---- a statement of the names was got

pub try_read-requires-clause-read : goal.try_read-requires-clause-read
try_read-requires-clause-read g c = read-is c.args.issuer.now c.args.subject.now c.args.ask.now c.in-Some.signed c.in_ok-signed.field-0 c.in_ok-signed.ensures c.in-Some.is

pub try_read-requires-clause-split : goal.try_read-requires-clause-split
try_read-requires-clause-split g c = read-split c.args.issuer.now c.args.subject.now c.args.ask.now c.in-Some.signed c.in_ok-signed.field-0 c.in_ok-signed.ensures c.in-Some.is

pub returns-in-Err-clause-keeps : goal.returns-in-Err-clause-keeps
returns-in-Err-clause-keeps g c = keeps-err g.G.Ledger.count c.args.age c.args.search.now c.args.call.now c.try_read.new.call _ c.in-Err.ensures.keeps

pub returns-in-Ok-clause-keeps : goal.returns-in-Ok-clause-keeps
returns-in-Ok-clause-keeps g c = keeps-ok g.G.Ledger.count c.args.age c.args.search.now c.args.call.now c.try_read.new.call _ _ c.in-Ok.ensures.keeps

pub returns-in-Ok-clause-tells : goal.returns-in-Ok-clause-tells
returns-in-Ok-clause-tells g c =
    c.answer_read.ensures c.args.call.now.trace.now.moment c.args.issuer.now c.args.subject.now
    (read-is c.args.issuer.now c.args.subject.now c.args.ask.now c.in-Some.signed c.in_ok-signed.field-0 c.in_ok-signed.ensures c.in-Some.is) c.in-Ok.ensures.passes

-- ---- nothing of the names reads

pub returns-in-None-clause-keeps : goal.returns-in-None-clause-keeps
returns-in-None-clause-keeps g c = keeps-none g.G.Ledger.count c.args.age c.args.search.now c.args.call.now _ c.requires.ready

pub returns-in-None-clause-puts : goal.returns-in-None-clause-puts
returns-in-None-clause-puts g c =
    sym (append-nil (puts_in c.args.call.now.trace.now.events))
    ∙ ap (λ l. puts_in c.args.call.now.trace.now.events ++ l)
    (sym (put-useless c.args.fresh c.args.call.now.trace.now.moment c.args.age c.args.issuer.now c.args.subject.now c.args.ask.now c.in_ok-signed.field-0 c.in_ok-signed.ensures c.in-None.is))

pub returns-in-None-clause-tells : goal.returns-in-None-clause-tells
returns-in-None-clause-tells g c =
    tells-useless c.args.call.now.trace.now.moment c.args.issuer.now c.args.subject.now c.args.ask.now c.useless.result c.in_ok-signed.field-0 c.in_ok-signed.ensures c.in-None.is c.useless.ensures
