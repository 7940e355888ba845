use Rattle.std.proofs.Common.{◌<◌, ◌++◌, length, get_or, sym, ap, ◌∙◌, subst}
use Rattle.std.proofs.lemmas.Result.{err_from_is_err_and}
use Rattle.chain_climb.specs.Climbs.{page_named}
use Rattle.chain_climb.specs.Elements.{Among}
use Rattle.resolve_round.specs.declared.trace.Ask.{Ask}
use Rattle.resolve_search.specs.Answering.{TellsAsk, put_of}
use Rattle.resolve_round.specs.Courses.{is_hit}
use Rattle.resolve_round.specs.Getting.{IsPlace, point}
use Rattle.resolve_round.specs.Linking.{link_view}
use Rattle.resolve_round.specs.Traces.{puts_in}
use Rattle.resolve_round.proofs.PlaceLaws.{place-call, place-item, place-within}
use Rattle.resolve_round.proofs.CallLaws.{acted-behind, acted-of, cache-counted}
use Rattle.resolve_search.proofs.CallLaws.{link-stop}
use Rattle.resolve_search.proofs.ReportLaws.{page-report, same-call, same-got}
use Rattle.resolve_round.proofs.TestingLaws.{counts-sum}
use Rattle.resolve_round.proofs.WalkLaws.{stumbled-still}
use Rattle.resolve_search.proofs.answering.answer_page.Goals as goal

-- ---- nothing was got

pub returns-in_err-place-clause-keeps : goal.returns-in_err-place-clause-keeps
returns-in_err-place-clause-keeps g c =
    let p = err_from_is_err_and c.from_residual.result c.from_residual.ensures.1 in
    let uses = c.in_err-place.ensures.uses in
    rw (p.1, p.2) (record {
      acts = uses.acts;
      same = same-call c.args.call.now.trace.now c.obtain.new.call.trace.now uses.only;
      counted = cache-counted g.G.Ledger.count c.args.call.now c.obtain.new.call _ uses;
      holds = c.in_err-place.ensures.holds;
      good = tt;
    })

pub returns-in_err-place-clause-link : goal.returns-in_err-place-clause-link
returns-in_err-place-clause-link g c =
    let p = err_from_is_err_and c.from_residual.result c.from_residual.ensures.1 in
    rw (p.1, p.2) c.in_err-place.ensures.link

pub returns-in_default-clause-keeps : goal.returns-in_default-clause-keeps
returns-in_default-clause-keeps g c =
    let uses = c.in_ok-place.ensures.uses in
    record {
      acts = uses.acts;
      same = same-call c.args.call.now.trace.now c.obtain.new.call.trace.now uses.only;
      counted = cache-counted g.G.Ledger.count c.args.call.now c.obtain.new.call _ uses;
      holds = c.in_ok-place.ensures.holds;
      good = c.in_ok-place.ensures.good;
    }

pub returns-in_default-clause-link : goal.returns-in_default-clause-link
returns-in_default-clause-link g c = c.in_ok-place.ensures.link

pub returns-in_default-clause-report : goal.returns-in_default-clause-report
returns-in_default-clause-report g c = rw c.in_default.is at c.in_ok-place.ensures.source

-- ---- the ask at its place

pub bounds-as_slice-place : goal.bounds-as_slice-place
bounds-as_slice-place g c =
    let is : IsPlace c.args.aim.now c.args.page.now.url.now (point c.args.call.now.trace.now c.args.search.now) (point c.obtain.new.call.trace.now c.obtain.new.search) c.in-Some.place = rw c.in-Some.is at c.in_ok-place.ensures.source in
    subst (λ l. c.in-Some.place.at < length l) (sym c.as_slice.ensures) (place-within c.obtain.new.search.asks c.in-Some.place.at is.ask is.there)

pub report_on-requires-clause-ready : goal.report_on-requires-clause-ready
report_on-requires-clause-ready g c = record {
  of = acted-of c.args.call.now c.obtain.new.call c.in_ok-place.ensures.uses.acts;
  holds = c.in_ok-place.ensures.holds;
  good = c.in_ok-place.ensures.good;
}

pub report_on-requires-clause-among : goal.report_on-requires-clause-among
report_on-requires-clause-among g c =
    let is : IsPlace c.args.aim.now c.args.page.now.url.now (point c.args.call.now.trace.now c.args.search.now) (point c.obtain.new.call.trace.now c.obtain.new.search) c.in-Some.place = rw c.in-Some.is at c.in_ok-place.ensures.source in
    let at = c.index-as_slice-place.is ∙ ap (λ l. get_or l c.in-Some.place.at c.index-as_slice-place.result) c.as_slice.ensures in
    subst (λ a. Among a c.obtain.new.search.asks) (sym (place-item c.obtain.new.search.asks c.in-Some.place.at is.ask c.index-as_slice-place.result is.there at)) is.among

pub report_on-requires-clause-fetched : goal.report_on-requires-clause-fetched
report_on-requires-clause-fetched g c =
    let is : IsPlace c.args.aim.now c.args.page.now.url.now (point c.args.call.now.trace.now c.args.search.now) (point c.obtain.new.call.trace.now c.obtain.new.search) c.in-Some.place = rw c.in-Some.is at c.in_ok-place.ensures.source in
    let at = c.index-as_slice-place.is ∙ ap (λ l. get_or l c.in-Some.place.at c.index-as_slice-place.result) c.as_slice.ensures in
    let same = place-item c.obtain.new.search.asks c.in-Some.place.at is.ask c.index-as_slice-place.result is.there at in
    λ fresh. ap is_hit same ∙ place-call c.args.aim.now c.args.page.now.url.now (point c.args.call.now.trace.now c.args.search.now) (point c.obtain.new.call.trace.now c.obtain.new.search) c.in-Some.place is fresh

-- ---- the report

pub returns-in_err-answer-clause-keeps : goal.returns-in_err-answer-clause-keeps
returns-in_err-answer-clause-keeps g c =
    let p = err_from_is_err_and c.from_residual-in_err-answer.result c.from_residual-in_err-answer.ensures.1 in
    let acts = c.in_err-answer.ensures.keeps.acts in
    rw (p.1, p.2) (record {
      acts = (acted-behind c.args.call.now c.obtain.new.call c.report_on.new.call acts.0 c.in_ok-place.ensures.uses.acts, acts.1);
      same = same-got c.args.call.now.trace.now c.obtain.new.call.trace.now c.report_on.new.call.trace.now c.in_ok-place.ensures.uses.only c.in_err-answer.ensures.keeps.same;
      counted = counts-sum c.args.call.now.trace.now.checks c.obtain.new.call.trace.now.checks c.report_on.new.call.trace.now.checks _ _ _ (cache-counted g.G.Ledger.count c.args.call.now c.obtain.new.call _ c.in_ok-place.ensures.uses) c.in_err-answer.ensures.keeps.counted;
      holds = c.in_err-answer.ensures.keeps.holds;
      good = tt;
    })

pub returns-in_err-answer-clause-link : goal.returns-in_err-answer-clause-link
returns-in_err-answer-clause-link g c =
    let p = err_from_is_err_and c.from_residual-in_err-answer.result c.from_residual-in_err-answer.ensures.1 in
    let link = c.in_ok-place.ensures.link in
    rw p.1 (
      link-stop (link_view g.L.Link.calls g.L.Link.link_faults g.L.Link.web g.L.Link.gave) c.args.link.now c.obtain.new.link c.obtain.new.link c.args.search.now c.obtain.new.search c.obtain.new.search link.0 link.1 p.0,
      stumbled-still g.L.Link.gave c.args.link.now c.obtain.new.link c.args.search.now.asks c.obtain.new.search.asks link.1,
    )

pub returns-clause-keeps : goal.returns-clause-keeps
returns-clause-keeps g c = record {
  acts = acted-behind c.args.call.now c.obtain.new.call c.report_on.new.call c.in_ok-answer.ensures.keeps.acts c.in_ok-place.ensures.uses.acts;
  same = same-got c.args.call.now.trace.now c.obtain.new.call.trace.now c.report_on.new.call.trace.now c.in_ok-place.ensures.uses.only c.in_ok-answer.ensures.keeps.same;
  counted = counts-sum c.args.call.now.trace.now.checks c.obtain.new.call.trace.now.checks c.report_on.new.call.trace.now.checks _ _ _ (cache-counted g.G.Ledger.count c.args.call.now c.obtain.new.call _ c.in_ok-place.ensures.uses) c.in_ok-answer.ensures.keeps.counted;
  holds = c.in_ok-answer.ensures.keeps.holds;
  good = c.in_ok-answer.ensures.keeps.good;
}

pub returns-clause-link : goal.returns-clause-link
returns-clause-link g c = c.in_ok-place.ensures.link

pub returns-clause-report : goal.returns-clause-report
returns-clause-report g c =
    let is : IsPlace c.args.aim.now c.args.page.now.url.now (point c.args.call.now.trace.now c.args.search.now) (point c.obtain.new.call.trace.now c.obtain.new.search) c.in-Some.place = rw c.in-Some.is at c.in_ok-place.ensures.source in
    let at = c.index-as_slice-place.is ∙ ap (λ l. get_or l c.in-Some.place.at c.index-as_slice-place.result) c.as_slice.ensures in
    let same = place-item c.obtain.new.search.asks c.in-Some.place.at is.ask c.index-as_slice-place.result is.there at in
    let tells = subst (λ (a : Ask). TellsAsk c.obtain.new.call.trace.now.moment (page_named c.args.page.now.issuer.now c.args.page.now.subject.now a.url) a c.in_ok-answer.answer) same c.in_ok-answer.ensures.tells in
    let puts = c.in_ok-answer.ensures.puts
    ∙ ap (λ (a : Ask). puts_in c.obtain.new.call.trace.now.events ++ put_of c.in-Some.place.fresh c.obtain.new.call.trace.now.moment c.args.aim.now.age (page_named c.args.page.now.issuer.now c.args.page.now.subject.now a.url) a) same in
    page-report c.args.aim.now c.args.page.now.issuer.now c.args.page.now.subject.now c.args.page.now.url.now (point c.args.call.now.trace.now c.args.search.now) (point c.obtain.new.call.trace.now c.obtain.new.search) c.in-Some.place is
    c.report_on.new.call.trace.now c.in_ok-answer.answer (same-call c.args.call.now.trace.now c.obtain.new.call.trace.now c.in_ok-place.ensures.uses.only).moment tells c.in_ok-answer.ensures.looks puts
