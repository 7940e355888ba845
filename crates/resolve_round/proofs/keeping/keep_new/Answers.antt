use Rattle.std.proofs.lemmas.Result.{IfOk-weaker}
use Rattle.entity_statement.specs.Told.{told}
use Rattle.resolve_round.proofs.CallLaws.{cache-none}
use Rattle.resolve_round.proofs.KeepingLaws.{puts-new, puts-old}
use Rattle.resolve_round.proofs.keeping.keep_new.Goals as goal

pub returns-then-fresh-clause-holds : goal.returns-then-fresh-clause-holds
returns-then-fresh-clause-holds g c = λ search page holds. c.keep.ensures.holds search (page c.if-fresh.true) holds

pub returns-then-fresh-clause-good : goal.returns-then-fresh-clause-good
returns-then-fresh-clause-good g c = IfOk-weaker c.keep.result _ _ (λ _ kept search page good. kept search (page c.if-fresh.true) good) c.keep.ensures.good

pub returns-then-fresh-clause-puts : goal.returns-then-fresh-clause-puts
returns-then-fresh-clause-puts g c =
    IfOk-weaker c.keep.result _ _
    (λ _ adds. puts-new c.args.fresh c.args.call.now.trace.now c.args.age c.args.url.now c.args.signed.now.compact.whole (told c.args.signed.now.statement) c.keep.new.call.trace.now.events c.if-fresh.true adds)
    c.keep.ensures.puts

pub returns-else-fresh-clause-uses : goal.returns-else-fresh-clause-uses
returns-else-fresh-clause-uses g c = cache-none c.args.call.now _ c.requires.of

pub returns-else-fresh-clause-holds : goal.returns-else-fresh-clause-holds
returns-else-fresh-clause-holds g c = λ search page holds. holds

pub returns-else-fresh-clause-good : goal.returns-else-fresh-clause-good
returns-else-fresh-clause-good g c = λ search page good. good

pub returns-else-fresh-clause-puts : goal.returns-else-fresh-clause-puts
returns-else-fresh-clause-puts g c =
    puts-old c.args.fresh c.args.call.now.trace.now c.args.age c.args.url.now c.args.signed.now.compact.whole (told c.args.signed.now.statement) c.if-fresh.false
