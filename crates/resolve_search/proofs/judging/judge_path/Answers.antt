use Rattle.std.proofs.Common.{◌≡◌, IfOk, map, sym, ap, ◌∙◌, subst}
use Rattle.std.proofs.lemmas.Result.{err_from_is_err_and}
use Rattle.chain_check.specs.Judging.{texts_of}
use Rattle.resolve_search.specs.Judging.{IsRuled, IsTried, case_at, texts_at, untried}
use Rattle.resolve_search.proofs.CallLaws.{judges-none, judges-stop}
use Rattle.resolve_search.proofs.ChainLaws.{chain-texts, got-same, refusal-ruled, start-tried, texts-got}
use Rattle.resolve_search.proofs.judging.judge_path.Goals as goal

pub returns-in_err-chain-clause-judges : goal.returns-in_err-chain-clause-judges
returns-in_err-chain-clause-judges g c =
    let p = err_from_is_err_and c.from_residual.result c.from_residual.ensures.1 in
    rw (p.1, p.2) (judges-stop g.G.Ledger.count c.args.aim.now.age c.args.search.now c.args.call.now c.requires.of c.requires.holds)

pub returns-in_err-entries-clause-judges : goal.returns-in_err-entries-clause-judges
returns-in_err-entries-clause-judges g c =
    let p = err_from_is_err_and c.from_residual-in_err-entries.result c.from_residual-in_err-entries.ensures.1 in
    rw (p.1, p.2) (judges-stop g.G.Ledger.count c.args.aim.now.age c.args.search.now c.args.call.now c.requires.of c.requires.holds)

pub returns-in-Refused-clause-judges : goal.returns-in-Refused-clause-judges
returns-in-Refused-clause-judges g c = judges-none g.G.Ledger.count c.args.aim.now.age c.args.search.now c.args.call.now _ c.requires.of c.requires.holds

pub returns-in-Refused-clause-ruled : goal.returns-in-Refused-clause-ruled
returns-in-Refused-clause-ruled g c =
    let old = c.args.call.now.trace.now in
    let texts = texts_at c.args.search.now.asks c.args.urls.now in
    let own : texts_of c.in_ok-chain.chain ≡ texts = chain-texts c.args.search.now.asks c.as_slice.result.now c.args.urls.now c.in_ok-chain.chain c.as_slice.ensures c.in_ok-chain.ensures in
    let told = (rw c.in-Refused.is at c.in_ok-entries.ensures.screening) old.keys.keys in
    subst (λ t. IsRuled old (case_at old c.args.aim.now.anchor t) c.refused.result) own
    (subst (IsRuled old (case_at old c.args.aim.now.anchor (texts_of c.in_ok-chain.chain))) (sym c.refused.ensures) (refusal-ruled old (case_at old c.args.aim.now.anchor (texts_of c.in_ok-chain.chain)) c.in-Refused.place c.in-Refused.reason told.0))

-- ---- a candidate

pub judge_turns-requires-clause-got : goal.judge_turns-requires-clause-got
judge_turns-requires-clause-got g c =
    let own = chain-texts c.args.search.now.asks c.as_slice.result.now c.args.urls.now c.in_ok-chain.chain c.as_slice.ensures c.in_ok-chain.ensures in
    got-same c.args.search.now.asks (texts_of c.in_ok-chain.chain) (texts_at c.args.search.now.asks c.args.urls.now) own (texts-got c.args.search.now.asks c.args.urls.now)

pub judge_turns-requires-clause-candidate : goal.judge_turns-requires-clause-candidate
judge_turns-requires-clause-candidate g c =
    let told = (rw c.in-Candidate.is at c.in_ok-entries.ensures.screening) c.args.call.now.trace.now.keys.keys in
    record { passes = told.0; read = told.1 }

pub judge_turns-requires-clause-tried : goal.judge_turns-requires-clause-tried
judge_turns-requires-clause-tried g c =
    let own = chain-texts c.args.search.now.asks c.as_slice.result.now c.args.urls.now c.in_ok-chain.chain c.as_slice.ensures c.in_ok-chain.ensures in
    subst (λ t. IsTried c.args.call.now.trace.now (case_at c.args.call.now.trace.now c.args.aim.now.anchor t) 0 c.in_ok-chain.chain) (sym own)
    (start-tried c.args.call.now.trace.now c.args.aim.now.anchor c.in_ok-chain.chain (texts_at c.args.search.now.asks c.args.urls.now)
    (c.in_ok-chain.ensures ∙ ap (λ asks. map untried (texts_at asks c.args.urls.now)) c.as_slice.ensures))

pub returns-in-Candidate-clause-ruled : goal.returns-in-Candidate-clause-ruled
returns-in-Candidate-clause-ruled g c =
    let own = chain-texts c.args.search.now.asks c.as_slice.result.now c.args.urls.now c.in_ok-chain.chain c.as_slice.ensures c.in_ok-chain.ensures in
    subst (λ t. IfOk c.judge_turns.result (IsRuled c.judge_turns.new.call.trace.now (case_at c.args.call.now.trace.now c.args.aim.now.anchor t))) own c.judge_turns.ensures.ruled
