use Rattle.std.proofs.Common.{true, false, sym, ◌∙◌}
use Rattle.std.proofs.lemmas.Result.{IfOk-weaker}
use Rattle.entity_statement.specs.Told.{told}
use Rattle.resolve_search.proofs.AnsweringLaws.{passes-old, passes-other, passes-own}
use Rattle.resolve_round.proofs.CallLaws.{tests-none}
use Rattle.resolve_search.proofs.answering.passes.Goals as goal

-- ---- a superior's statement

pub returns-then-not-own-clause-tests : goal.returns-then-not-own-clause-tests
returns-then-not-own-clause-tests g c = tests-none g.G.Ledger.count c.args.call.now true c.requires.of

pub returns-then-not-own-clause-passes : goal.returns-then-not-own-clause-passes
returns-then-not-own-clause-passes g c =
    passes-other c.args.own c.args.call.now.trace.now.moment c.args.signed.now.compact.whole (told c.args.signed.now.statement) c.if-not-own.true

pub returns-then-not-own-clause-stays_true : goal.returns-then-not-own-clause-stays_true
returns-then-not-own-clause-stays_true g c = λ age search obtained holds. holds

pub returns-then-not-own-clause-proved : goal.returns-then-not-own-clause-proved
returns-then-not-own-clause-proved g c = λ search obtained good. good

-- ---- a configuration that isn't current

pub returns-then-not-is_current-clause-tests : goal.returns-then-not-is_current-clause-tests
returns-then-not-is_current-clause-tests g c = tests-none g.G.Ledger.count c.args.call.now false c.requires.of

pub returns-then-not-is_current-clause-passes : goal.returns-then-not-is_current-clause-passes
returns-then-not-is_current-clause-passes g c =
    passes-old c.args.own c.args.call.now.trace.now.moment c.args.signed.now.compact.whole (told c.args.signed.now.statement) c.if-not-own.false (sym c.is_current.ensures ∙ c.if-not-is_current.true)

pub returns-then-not-is_current-clause-stays_true : goal.returns-then-not-is_current-clause-stays_true
returns-then-not-is_current-clause-stays_true g c = λ age search obtained holds. holds

pub returns-then-not-is_current-clause-proved : goal.returns-then-not-is_current-clause-proved
returns-then-not-is_current-clause-proved g c = λ search obtained good. good

-- ---- one that is

pub returns-clause-passes : goal.returns-clause-passes
returns-clause-passes g c =
    IfOk-weaker c.seals_itself.result _ _
    (λ good is.
    passes-own c.args.own c.args.call.now.trace.now.moment c.args.signed.now.compact.whole (told c.args.signed.now.statement) good c.if-not-own.false (sym c.is_current.ensures ∙ c.if-not-is_current.false) is)
    c.seals_itself.ensures.sealed
