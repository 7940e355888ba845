use Rattle.std.proofs.Common.{ℕ, None, refl, sym, ◌∙◌, subst}
use Rattle.std.proofs.lemmas.Result.{err_from_is_err_and}
use Rattle.chain_climb.specs.Sessions.{Fits}
use Rattle.chain_climb.specs.declared.answer.Answer.TheVariants.{Invalid, PolicyFails}
use Rattle.resolve_search.specs.declared.judging.Ruling.TheVariants as Ruled
use Rattle.resolve_round.specs.Getting.{point}
use Rattle.resolve_search.specs.Judging.{IsRuled, case_at, texts_at}
use Rattle.resolve_round.proofs.GettingLaws.{holds-counts}
use Rattle.resolve_round.proofs.LinkLaws.{uses-none}
use Rattle.resolve_search.proofs.CallLaws.{judged-err, judged-keeps, keeps-break}
use Rattle.resolve_search.proofs.TurningLaws.{found-turn, given-verdict, good-ended, grows-verdict, holds-ended, uses-ended, verdict-turn}
use Rattle.resolve_search.proofs.round.take_path.Goals as goal

pub judge_path-requires-clause-of : goal.judge_path-requires-clause-of
judge_path-requires-clause-of g c = c.requires.ready.of

pub judge_path-requires-clause-holds : goal.judge_path-requires-clause-holds
judge_path-requires-clause-holds g c = c.requires.ready.holds

pub give-requires : goal.give-requires
give-requires g c = subst (λ w. Fits c.args.session.now w PolicyFails) (sym c.requires.wants.want) tt

pub give-requires-in-Invalid : goal.give-requires-in-Invalid
give-requires-in-Invalid g c = subst (λ w. Fits c.args.session.now w Invalid) (sym c.requires.wants.want) tt

pub returns-in_err-texts-clause-unused : goal.returns-in_err-texts-clause-unused
returns-in_err-texts-clause-unused g c = λ seen. uses-none seen c.args.search.now c.args.search.now refl

pub returns-in_err-give-in-PolicyFails-clause-unused : goal.returns-in_err-give-in-PolicyFails-clause-unused
returns-in_err-give-in-PolicyFails-clause-unused g c = λ seen. uses-none seen c.args.search.now c.args.search.now refl

pub returns-in_err-give-in-Invalid-clause-unused : goal.returns-in_err-give-in-Invalid-clause-unused
returns-in_err-give-in-Invalid-clause-unused g c = λ seen. uses-none seen c.args.search.now c.args.search.now refl

pub returns-in_ok-give-in-PolicyFails-clause-unused : goal.returns-in_ok-give-in-PolicyFails-clause-unused
returns-in_ok-give-in-PolicyFails-clause-unused g c = λ seen. uses-none seen c.args.search.now c.args.search.now refl

pub returns-in_ok-give-in-Invalid-clause-unused : goal.returns-in_ok-give-in-Invalid-clause-unused
returns-in_ok-give-in-Invalid-clause-unused g c = λ seen. uses-none seen c.args.search.now c.args.search.now refl

-- ---- it broke off

pub returns-in_err-texts-clause-keeps : goal.returns-in_err-texts-clause-keeps
returns-in_err-texts-clause-keeps g c =
    let p = err_from_is_err_and c.from_residual.result c.from_residual.ensures.1 in
    rw (p.1, p.2) (judged-err g.G.Ledger.count c.args.aim.now.age c.args.search.now c.args.call.now c.judge_path.new.call _ c.in_err-texts.ensures.judges)

-- ---- a valid chain

pub returns-in-Valid-clause-unused : goal.returns-in-Valid-clause-unused
returns-in-Valid-clause-unused g c = λ seen.
    uses-ended 0 seen seen c.args.search.now c.args.search.now c.found.new.search c.args.search.now.ended c.found.ensures.search (uses-none seen c.args.search.now c.args.search.now refl)

pub returns-in-Valid-clause-keeps : goal.returns-in-Valid-clause-keeps
returns-in-Valid-clause-keeps g c =
    let keeps = judged-keeps {B = ℕ} g.G.Ledger.count c.args.aim.now.age c.args.search.now c.args.call.now c.judge_path.new.call _ 0 c.requires.ready c.in_ok-texts.ensures.judges in
    record {
      acts = keeps.acts;
      same = keeps.same;
      counted = keeps.counted;
      holds = holds-ended c.args.aim.now.age c.judge_path.new.call.trace.now c.args.search.now c.found.new.search c.args.search.now.ended c.found.ensures.search keeps.holds;
      good = good-ended c.args.aim.now.age c.judge_path.new.call.trace.now c.args.search.now c.found.new.search c.args.search.now.ended c.found.ensures.search keeps.good;
    }

pub returns-in-Valid-clause-turn : goal.returns-in-Valid-clause-turn
returns-in-Valid-clause-turn g c =
    let told : IsRuled c.judge_path.new.call.trace.now (case_at c.args.call.now.trace.now c.args.aim.now.anchor (texts_at c.args.search.now.asks c.args.path.urls)) (Ruled.Valid c.in-Valid.texts c.in-Valid.resolved) =
    rw c.in-Valid.is at (rw c.as_slice.ensures at c.in_ok-texts.ensures.ruled) in
    λ start under.
    found-turn c.args.aim.now start (point c.args.call.now.trace.now c.args.search.now) c.args.session.now under (holds-counts c.args.aim.now.age c.args.search.now c.args.call.now.trace.now c.requires.ready.holds) c.judge_path.new.call.trace.now
    c.in_ok-texts.ensures.judges.tests.only c.args.path c.requires.wants.want c.in-Valid.texts c.in-Valid.resolved told c.found.new.search c.found.ensures.paths c.found.ensures.search c.found.result c.found.ensures.end

-- ---- a chain that isn't valid

pub returns-in_ok-give-in-PolicyFails-clause-keeps : goal.returns-in_ok-give-in-PolicyFails-clause-keeps
returns-in_ok-give-in-PolicyFails-clause-keeps g c = judged-keeps g.G.Ledger.count c.args.aim.now.age c.args.search.now c.args.call.now c.judge_path.new.call _ None c.requires.ready c.in_ok-texts.ensures.judges

pub returns-in_ok-give-in-PolicyFails-clause-turn : goal.returns-in_ok-give-in-PolicyFails-clause-turn
returns-in_ok-give-in-PolicyFails-clause-turn g c =
    let told : IsRuled c.judge_path.new.call.trace.now (case_at c.args.call.now.trace.now c.args.aim.now.anchor (texts_at c.args.search.now.asks c.args.path.urls)) Ruled.PolicyFails =
    rw c.in-PolicyFails.is at (rw c.as_slice.ensures at c.in_ok-texts.ensures.ruled) in
    λ start under.
    verdict-turn c.args.aim.now start (point c.args.call.now.trace.now c.args.search.now) c.args.session.now c.give.new.self under c.judge_path.new.call.trace.now c.in_ok-texts.ensures.judges.tests.only c.args.path c.requires.wants
    PolicyFails tt told c.in_ok-give-in-PolicyFails.ensures.ok

pub returns-in_ok-give-in-PolicyFails-clause-grows : goal.returns-in_ok-give-in-PolicyFails-clause-grows
returns-in_ok-give-in-PolicyFails-clause-grows g c =
    grows-verdict c.args.session.now c.give.new.self (record { path = c.args.path; answer = PolicyFails })
    (c.in_ok-give-in-PolicyFails.ensures.ok ∙ given-verdict c.args.session.now c.args.path PolicyFails c.requires.wants.want)

pub returns-in_err-give-in-PolicyFails-clause-keeps : goal.returns-in_err-give-in-PolicyFails-clause-keeps
returns-in_err-give-in-PolicyFails-clause-keeps g c =
    let p = err_from_is_err_and c.from_residual-in_err-give-in-PolicyFails.result c.from_residual-in_err-give-in-PolicyFails.ensures.1 in
    rw (p.1, p.2) (keeps-break g.G.Ledger.count c.args.aim.now.age c.args.search.now c.args.call.now c.judge_path.new.call _ (judged-keeps {B = ℕ} g.G.Ledger.count c.args.aim.now.age c.args.search.now c.args.call.now c.judge_path.new.call _ 0 c.requires.ready c.in_ok-texts.ensures.judges))

pub returns-in_ok-give-in-Invalid-clause-keeps : goal.returns-in_ok-give-in-Invalid-clause-keeps
returns-in_ok-give-in-Invalid-clause-keeps g c = judged-keeps g.G.Ledger.count c.args.aim.now.age c.args.search.now c.args.call.now c.judge_path.new.call _ None c.requires.ready c.in_ok-texts.ensures.judges

pub returns-in_ok-give-in-Invalid-clause-turn : goal.returns-in_ok-give-in-Invalid-clause-turn
returns-in_ok-give-in-Invalid-clause-turn g c =
    let told : IsRuled c.judge_path.new.call.trace.now (case_at c.args.call.now.trace.now c.args.aim.now.anchor (texts_at c.args.search.now.asks c.args.path.urls)) Ruled.Invalid =
    rw c.in-Invalid.is at (rw c.as_slice.ensures at c.in_ok-texts.ensures.ruled) in
    λ start under.
    verdict-turn c.args.aim.now start (point c.args.call.now.trace.now c.args.search.now) c.args.session.now c.give-in-Invalid.new.self under c.judge_path.new.call.trace.now c.in_ok-texts.ensures.judges.tests.only c.args.path c.requires.wants
    Invalid tt told c.in_ok-give-in-Invalid.ensures.ok

pub returns-in_ok-give-in-Invalid-clause-grows : goal.returns-in_ok-give-in-Invalid-clause-grows
returns-in_ok-give-in-Invalid-clause-grows g c =
    grows-verdict c.args.session.now c.give-in-Invalid.new.self (record { path = c.args.path; answer = Invalid })
    (c.in_ok-give-in-Invalid.ensures.ok ∙ given-verdict c.args.session.now c.args.path Invalid c.requires.wants.want)

pub returns-in_err-give-in-Invalid-clause-keeps : goal.returns-in_err-give-in-Invalid-clause-keeps
returns-in_err-give-in-Invalid-clause-keeps g c =
    let p = err_from_is_err_and c.from_residual-in_err-give-in-Invalid.result c.from_residual-in_err-give-in-Invalid.ensures.1 in
    rw (p.1, p.2) (keeps-break g.G.Ledger.count c.args.aim.now.age c.args.search.now c.args.call.now c.judge_path.new.call _ (judged-keeps {B = ℕ} g.G.Ledger.count c.args.aim.now.age c.args.search.now c.args.call.now c.judge_path.new.call _ 0 c.requires.ready c.in_ok-texts.ensures.judges))
