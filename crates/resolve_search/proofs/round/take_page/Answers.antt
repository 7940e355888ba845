use Rattle.std.proofs.Common.{Some, None, true}
use Rattle.std.proofs.lemmas.Result.{err_from_is_err_and}
use Rattle.chain_climb.specs.Climbs.{page_named}
use Rattle.resolve_search.specs.Answering.{IsPageReport}
use Rattle.resolve_round.specs.Getting.{IsSpentAt, point}
use Rattle.resolve_round.specs.Linking.{link_seen, link_view}
use Rattle.resolve_round.proofs.GettingLaws.{holds-counts}
use Rattle.resolve_search.proofs.CallLaws.{keeps-break, keeps-err, keeps-ok, link-by}
use Rattle.resolve_search.proofs.WalkRounds.{walked-same}
use Rattle.resolve_search.proofs.TurningLaws.{answer_of, asks-ended, fits-page, given-page, good-ended, grows-page, holds-ended, page-turn, spent-turn, uses-ended}
use Rattle.resolve_search.proofs.round.take_page.Goals as goal

-- ---- an object is worn, or memory was wanting

pub returns-in_err-answer-clause-keeps : goal.returns-in_err-answer-clause-keeps
returns-in_err-answer-clause-keeps g c =
    let p = err_from_is_err_and c.from_residual.result c.from_residual.ensures.1 in
    rw (p.1, p.2) (keeps-err g.G.Ledger.count c.args.aim.now.age c.answer_page.new.search c.args.call.now c.answer_page.new.call _ c.in_err-answer.ensures.keeps)

pub returns-in_err-answer-clause-link : goal.returns-in_err-answer-clause-link
returns-in_err-answer-clause-link g c =
    let p = err_from_is_err_and c.from_residual.result c.from_residual.ensures.1 in
    rw (p.1, p.2) c.in_err-answer.ensures.link

-- ---- an answer

pub give-requires : goal.give-requires
give-requires g c =
    let page = page_named c.args.page.now.issuer.now c.args.page.now.subject.now c.args.page.now.url.now in
    let old = point c.args.call.now.trace.now c.args.search.now in
    let new = point c.answer_page.new.call.trace.now c.answer_page.new.search in
    let told : IsPageReport c.args.aim.now page old new (Some c.in-Some.answer) = rw c.in-Some.is at c.in_ok-answer.ensures.report in
    fits-page c.args.aim.now c.requires.under.0 old new c.args.session.now c.requires.under.1 page c.in-Some.answer told.0 c.requires.wants.want told.1 told.2

pub returns-in_err-give-in-Some-clause-keeps : goal.returns-in_err-give-in-Some-clause-keeps
returns-in_err-give-in-Some-clause-keeps g c =
    let p = err_from_is_err_and c.from_residual-in_err-give-in-Some.result c.from_residual-in_err-give-in-Some.ensures.1 in
    rw (p.1, p.2) (keeps-break g.G.Ledger.count c.args.aim.now.age c.answer_page.new.search c.args.call.now c.answer_page.new.call _ c.in_ok-answer.ensures.keeps)

pub returns-in_err-give-in-Some-clause-link : goal.returns-in_err-give-in-Some-clause-link
returns-in_err-give-in-Some-clause-link g c =
    let link = c.in_ok-answer.ensures.link in
    link-by (link_view g.L.Link.calls g.L.Link.link_faults g.L.Link.web g.L.Link.gave) c.args.link.now c.answer_page.new.link c.answer_page.new.link c.args.search.now c.answer_page.new.search c.answer_page.new.search link.0 link.1 c.from_residual-in_err-give-in-Some.result

pub returns-in_ok-give-in-Some-clause-keeps : goal.returns-in_ok-give-in-Some-clause-keeps
returns-in_ok-give-in-Some-clause-keeps g c = keeps-ok g.G.Ledger.count c.args.aim.now.age c.answer_page.new.search c.args.call.now c.answer_page.new.call _ None c.in_ok-answer.ensures.keeps

pub returns-in_ok-give-in-Some-clause-link : goal.returns-in_ok-give-in-Some-clause-link
returns-in_ok-give-in-Some-clause-link g c = c.in_ok-answer.ensures.link

pub returns-in_ok-give-in-Some-clause-turn : goal.returns-in_ok-give-in-Some-clause-turn
returns-in_ok-give-in-Some-clause-turn g c =
    let page = page_named c.args.page.now.issuer.now c.args.page.now.subject.now c.args.page.now.url.now in
    let old = point c.args.call.now.trace.now c.args.search.now in
    let new = point c.answer_page.new.call.trace.now c.answer_page.new.search in
    let told : IsPageReport c.args.aim.now page old new (Some c.in-Some.answer) = rw c.in-Some.is at c.in_ok-answer.ensures.report in
    λ start under.
    page-turn c.args.aim.now start old new c.args.session.now c.give.new.self under page c.requires.wants c.in-Some.answer told.0 told.1 told.2 c.in_ok-answer.ensures.keeps.same c.in_ok-give-in-Some.ensures.ok

pub returns-in_ok-give-in-Some-clause-grows : goal.returns-in_ok-give-in-Some-clause-grows
returns-in_ok-give-in-Some-clause-grows g c =
    let page = page_named c.args.page.now.issuer.now c.args.page.now.subject.now c.args.page.now.url.now in
    let old = point c.args.call.now.trace.now c.args.search.now in
    let new = point c.answer_page.new.call.trace.now c.answer_page.new.search in
    let told : IsPageReport c.args.aim.now page old new (Some c.in-Some.answer) = rw c.in-Some.is at c.in_ok-answer.ensures.report in
    let given_is = given-page c.args.session.now page c.in-Some.answer told.0 c.requires.wants.want told.1 in
    grows-page c.args.session.now c.give.new.self (answer_of page told.0) (rw given_is at c.in_ok-give-in-Some.ensures.ok)

-- ---- all calls were made

pub returns-in-None-clause-keeps : goal.returns-in-None-clause-keeps
returns-in-None-clause-keeps g c =
    let keeps = c.in_ok-answer.ensures.keeps in
    record {
      acts = keeps.acts;
      same = keeps.same;
      counted = keeps.counted;
      holds = holds-ended c.args.aim.now.age c.answer_page.new.call.trace.now c.answer_page.new.search c.spent.new.search true c.spent.ensures.search keeps.holds;
      good = good-ended c.args.aim.now.age c.answer_page.new.call.trace.now c.answer_page.new.search c.spent.new.search true c.spent.ensures.search keeps.good;
    }

pub returns-in-None-clause-link : goal.returns-in-None-clause-link
returns-in-None-clause-link g c =
    let seen = (link_seen (g.L.Link.calls c.args.link.now) (g.L.Link.link_faults c.args.link.now) (g.L.Link.web c.args.link.now)) in
    let now = link_seen (g.L.Link.calls c.answer_page.new.link) (g.L.Link.link_faults c.answer_page.new.link) (g.L.Link.web c.answer_page.new.link) in
    let link = c.in_ok-answer.ensures.link in (
      uses-ended 0 seen now c.args.search.now c.answer_page.new.search c.spent.new.search true c.spent.ensures.search link.0,
      walked-same g.L.Link.gave c.args.link.now c.answer_page.new.link c.args.search.now.asks c.answer_page.new.search.asks c.spent.new.search.asks (asks-ended c.answer_page.new.search c.spent.new.search true c.spent.ensures.search) link.1,
    )

pub returns-in-None-clause-turn : goal.returns-in-None-clause-turn
returns-in-None-clause-turn g c =
    let page = page_named c.args.page.now.issuer.now c.args.page.now.subject.now c.args.page.now.url.now in
    let old = point c.args.call.now.trace.now c.args.search.now in
    let new = point c.answer_page.new.call.trace.now c.answer_page.new.search in
    let spent : IsSpentAt c.args.aim.now.looks c.args.aim.now.bounds.calls c.args.page.now.url.now old new = rw c.in-None.is at c.in_ok-answer.ensures.report in
    λ start under.
    spent-turn c.args.aim.now start old new c.args.session.now under (holds-counts c.args.aim.now.age c.args.search.now c.args.call.now.trace.now c.requires.ready.holds) page c.requires.wants.want spent c.spent.new.search
    c.spent.ensures.paths c.spent.ensures.search c.spent.result c.spent.ensures.end
