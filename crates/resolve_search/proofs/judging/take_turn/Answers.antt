use Rattle.std.proofs.Common.{refl}
use Rattle.std.proofs.lemmas.Result.{err_from_is_err_and}
use Rattle.chain_check.specs.Judging.{IsJudgementOn, texts_of}
use Rattle.chain_check.specs.Verdicts.{CanBeWritten}
use Rattle.chain_check.specs.declared.judged.Judged.TheVariants.{Told}
use Rattle.resolve_search.specs.Judging.{case_at}
use Rattle.resolve_search.proofs.CallLaws.{judges-none, judges-stop}
use Rattle.resolve_search.proofs.ChainLaws.{own-texts, told-ruled}
use Rattle.resolve_search.proofs.judging.take_turn.Goals as goal

pub judge_candidate-requires-clause-own : goal.judge_candidate-requires-clause-own
judge_candidate-requires-clause-own g c = own-texts c.args.call.now.trace.now (case_at c.args.call.now.trace.now c.args.aim.now.anchor (texts_of c.args.chain)) 0 c.args.chain c.requires.tried

-- ---- memory was wanting

pub returns-in_err-verdict-clause-judges : goal.returns-in_err-verdict-clause-judges
returns-in_err-verdict-clause-judges g c =
    let p = err_from_is_err_and c.from_residual.result c.from_residual.ensures.1 in
    rw (p.1, p.2) (judges-stop g.G.Ledger.count c.args.aim.now.age c.args.search.now c.args.call.now c.requires.of c.requires.holds)

-- ---- a verdict

pub returns-in-Told-clause-judges : goal.returns-in-Told-clause-judges
returns-in-Told-clause-judges g c = judges-none g.G.Ledger.count c.args.aim.now.age c.args.search.now c.args.call.now _ c.requires.of c.requires.holds

pub returns-in-Told-clause-turn : goal.returns-in-Told-clause-turn
returns-in-Told-clause-turn g c =
    let case = case_at c.args.call.now.trace.now c.args.aim.now.anchor (texts_of c.args.chain) in
    let judged : IsJudgementOn case c.args.chain (Told c.in-Told.verdict) = rw c.in-Told.is at (c.in_ok-verdict.ensures.judgement c.args.aim.now.anchor c.args.call.now.trace.now.moment c.requires.candidate.passes) in
    let written : CanBeWritten c.in-Told.verdict = rw c.in-Told.is at c.in_ok-verdict.ensures.written in
    λ n tried. told-ruled c.args.call.now.trace.now case n c.args.chain c.in-Told.verdict c.ruled_by.result tried judged written refl c.ruled_by.ensures

-- ---- a test is wanted

pub test_seal-requires-clause-needs : goal.test_seal-requires-clause-needs
test_seal-requires-clause-needs g c = rw c.in-Untried.is at (c.in_ok-verdict.ensures.judgement c.args.aim.now.anchor c.args.call.now.trace.now.moment c.requires.candidate.passes)
