use Rattle.std.proofs.lemmas.Result.{err_from_is_err_and}
use Rattle.chain_check.proofs.JudgedLaws.{resolve-judged, resolved-judged, signature-judged, untried-judged}
use Rattle.chain_check.proofs.ResolveLaws.{Passes-err}
use Rattle.chain_check.proofs.judging.judged.Goals as goal

pub returns-in_err-test-clause-judgement : goal.returns-in_err-test-clause-judgement
returns-in_err-test-clause-judgement c =
    let p = err_from_is_err_and c.from_residual.result c.from_residual.ensures.1 in
    rw (p.1, p.2) (Passes-err c.in_err-test.field-0.0 _ _ _ _ (signature-judged c.args.chain.now c.args.keys.now.keys c.args.entries.now c.requires.read) c.in_err-test.ensures)

pub returns-in-Some-clause-judgement : goal.returns-in-Some-clause-judgement
returns-in-Some-clause-judgement c =
    untried-judged c.args.chain.now c.args.keys.now.keys c.args.entries.now c.requires.read c.in-Some.test.place c.in-Some.test.public (rw c.in-Some.is at c.in_ok-test.ensures)

pub returns-in_err-resolve-in-None-clause-judgement : goal.returns-in_err-resolve-in-None-clause-judgement
returns-in_err-resolve-in-None-clause-judgement c =
    let p = err_from_is_err_and c.from_residual-in_err-resolve-in-None.result c.from_residual-in_err-resolve-in-None.ensures.1 in
    rw (p.1, p.2) (Passes-err c.in_err-resolve-in-None.field-0.0 _ _ _ _
    (resolve-judged c.args.chain.now c.args.keys.now.keys c.args.entries.now c.requires.read (rw c.in-None.is at c.in_ok-test.ensures)) c.in_err-resolve-in-None.ensures.resolved)

pub returns-in_ok-resolve-in-None-clause-judgement : goal.returns-in_ok-resolve-in-None-clause-judgement
returns-in_ok-resolve-in-None-clause-judgement c =
    resolved-judged c.args.chain.now c.args.keys.now.keys c.args.entries.now c.requires.read (rw c.in-None.is at c.in_ok-test.ensures) c.in_ok-resolve-in-None.field-0 c.in_ok-resolve-in-None.ensures.resolved
