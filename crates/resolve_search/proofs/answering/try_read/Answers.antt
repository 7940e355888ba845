use Rattle.std.proofs.Common.{sym, ap, ◌∙◌, subst, bytes_eq}
use Rattle.std.proofs.lemmas.Result.{err_from_is_err_and}
use Rattle.entity_statement.specs.Told.{told}
use Rattle.chain_climb.specs.Climbs.{page_named}
use Rattle.resolve_search.specs.Answering.{passes_as}
use Rattle.resolve_round.specs.Knowing.{AnswersStand}
use Rattle.resolve_search.proofs.AnsweringLaws.{named-reads, put-new, read-fetched, read-obtained}
use Rattle.resolve_round.proofs.CallLaws.{acted-behind, acted-of, cache-counted}
use Rattle.resolve_round.proofs.GettingLaws.{holds-answers}
use Rattle.resolve_search.proofs.ReportLaws.{puts-tested, same-call, same-checks, same-tested}
use Rattle.resolve_round.proofs.TestingLaws.{counts-sum}
use Rattle.resolve_search.proofs.answering.try_read.Goals as goal

pub keep_new-requires-clause-of : goal.keep_new-requires-clause-of
keep_new-requires-clause-of g c = c.requires.ready.of

pub keep_new-requires-clause-answers : goal.keep_new-requires-clause-answers
keep_new-requires-clause-answers g c = holds-answers c.args.age c.args.search.now c.args.call.now.trace.now c.requires.ready.holds

-- ---- the page wasn't kept

pub returns-in_err-keep_new-clause-keeps : goal.returns-in_err-keep_new-clause-keeps
returns-in_err-keep_new-clause-keeps g c =
    let p = err_from_is_err_and c.from_residual.result c.from_residual.ensures.1 in
    let uses = c.in_err-keep_new.ensures.uses in
    rw (p.1, p.2) (record {
      acts = uses.acts;
      same = same-call c.args.call.now.trace.now c.keep_new.new.call.trace.now uses.only;
      counted = cache-counted g.G.Ledger.count c.args.call.now c.keep_new.new.call _ uses;
      holds = c.keep_new.ensures.holds c.args.search.now (λ fresh. read-fetched c.args.call.now.trace.now.moment c.args.issuer.now c.args.subject.now c.args.ask.now c.args.signed.now c.requires.read c.args.call.now.trace.now c.args.search.now c.requires.among (c.requires.fetched fresh)) c.requires.ready.holds;
      good = tt;
    })

-- ---- it was kept, where it was fetched now

pub passes-requires-clause-of : goal.passes-requires-clause-of
passes-requires-clause-of g c = acted-of c.args.call.now c.keep_new.new.call c.in_ok-keep_new.ensures.uses.acts

pub passes-requires-clause-reads : goal.passes-requires-clause-reads
passes-requires-clause-reads g c =
    named-reads (page_named c.args.issuer.now c.args.subject.now c.args.ask.now.url) c.args.signed.now.compact.whole (told c.args.signed.now.statement) c.requires.read.named

pub passes-requires-clause-answers : goal.passes-requires-clause-answers
passes-requires-clause-answers g c =
    subst AnswersStand (sym (same-checks c.args.call.now.trace.now c.keep_new.new.call.trace.now c.in_ok-keep_new.ensures.uses.only)) (holds-answers c.args.age c.args.search.now c.args.call.now.trace.now c.requires.ready.holds)

pub returns-in_err-good-clause-keeps : goal.returns-in_err-good-clause-keeps
returns-in_err-good-clause-keeps g c =
    let p = err_from_is_err_and c.from_residual-in_err-good.result c.from_residual-in_err-good.ensures.1 in
    let acts = c.in_err-good.ensures.tests.acts in
    rw (p.1, p.2) (record {
      acts = (acted-behind c.args.call.now c.keep_new.new.call c.passes.new.call acts.0 c.in_ok-keep_new.ensures.uses.acts, acts.1);
      same = same-tested c.args.call.now.trace.now c.keep_new.new.call.trace.now c.passes.new.call.trace.now c.in_ok-keep_new.ensures.uses.only c.in_err-good.ensures.tests.only;
      counted = counts-sum c.args.call.now.trace.now.checks c.keep_new.new.call.trace.now.checks c.passes.new.call.trace.now.checks _ _ _ (cache-counted g.G.Ledger.count c.args.call.now c.keep_new.new.call _ c.in_ok-keep_new.ensures.uses) c.in_err-good.ensures.tests.counted;
      holds = c.in_err-good.ensures.stays_true c.args.age c.args.search.now (read-obtained c.args.call.now.trace.now.moment c.args.issuer.now c.args.subject.now c.args.ask.now c.args.signed.now c.requires.read c.keep_new.new.call.trace.now c.args.search.now c.requires.among) (c.in_ok-keep_new.ensures.holds c.args.search.now (λ fresh. read-fetched c.args.call.now.trace.now.moment c.args.issuer.now c.args.subject.now c.args.ask.now c.args.signed.now c.requires.read c.args.call.now.trace.now c.args.search.now c.requires.among (c.requires.fetched fresh)) c.requires.ready.holds);
      good = tt;
    })

-- ---- it is known whether it is good

pub returns-clause-keeps : goal.returns-clause-keeps
returns-clause-keeps g c = record {
  acts = acted-behind c.args.call.now c.keep_new.new.call c.passes.new.call c.in_ok-good.ensures.tests.acts c.in_ok-keep_new.ensures.uses.acts;
  same = same-tested c.args.call.now.trace.now c.keep_new.new.call.trace.now c.passes.new.call.trace.now c.in_ok-keep_new.ensures.uses.only c.in_ok-good.ensures.tests.only;
  counted = counts-sum c.args.call.now.trace.now.checks c.keep_new.new.call.trace.now.checks c.passes.new.call.trace.now.checks _ _ _ (cache-counted g.G.Ledger.count c.args.call.now c.keep_new.new.call _ c.in_ok-keep_new.ensures.uses) c.in_ok-good.ensures.tests.counted;
  holds = c.in_ok-good.ensures.stays_true c.args.age c.args.search.now (read-obtained c.args.call.now.trace.now.moment c.args.issuer.now c.args.subject.now c.args.ask.now c.args.signed.now c.requires.read c.keep_new.new.call.trace.now c.args.search.now c.requires.among) (c.in_ok-keep_new.ensures.holds c.args.search.now (λ fresh. read-fetched c.args.call.now.trace.now.moment c.args.issuer.now c.args.subject.now c.args.ask.now c.args.signed.now c.requires.read c.args.call.now.trace.now c.args.search.now c.requires.among (c.requires.fetched fresh)) c.requires.ready.holds);
  good = c.in_ok-good.ensures.proved c.args.search.now (read-obtained c.args.call.now.trace.now.moment c.args.issuer.now c.args.subject.now c.args.ask.now c.args.signed.now c.requires.read c.keep_new.new.call.trace.now c.args.search.now c.requires.among) (c.in_ok-keep_new.ensures.good c.args.search.now (λ fresh. read-fetched c.args.call.now.trace.now.moment c.args.issuer.now c.args.subject.now c.args.ask.now c.args.signed.now c.requires.read c.args.call.now.trace.now c.args.search.now c.requires.among (c.requires.fetched fresh)) c.requires.ready.good);
}

pub returns-clause-looks : goal.returns-clause-looks
returns-clause-looks g c = c.in_ok-good.ensures.tests.only.looks ∙ c.in_ok-keep_new.ensures.puts.looks

pub returns-clause-puts : goal.returns-clause-puts
returns-clause-puts g c =
    puts-tested c.args.call.now.trace.now c.keep_new.new.call.trace.now c.passes.new.call.trace.now c.in_ok-keep_new.ensures.uses.only c.in_ok-good.ensures.tests.only _ _ c.in_ok-keep_new.ensures.puts
    (put-new c.args.call.now.trace.now.moment c.args.issuer.now c.args.subject.now c.args.ask.now c.args.signed.now c.requires.read c.args.fresh c.args.age c.requires.fetched)

pub returns-clause-passes : goal.returns-clause-passes
returns-clause-passes g c =
    let text = c.args.signed.now.compact.whole in
    let s = told c.args.signed.now.statement in
    let same = (same-call c.args.call.now.trace.now c.keep_new.new.call.trace.now c.in_ok-keep_new.ensures.uses.only).moment in
    c.in_ok-good.ensures.passes ∙ ap (λ own. passes_as own c.keep_new.new.call.trace.now.moment text s) c.is_own-own.ensures
    ∙ ap (λ t. passes_as (bytes_eq c.args.issuer.now c.args.subject.now) t text s) same
