use Rattle.std.proofs.lemmas.Result.{IfOk-weaker}
use Rattle.chain_check.specs.declared.screened.Screened.{Screened}
use Rattle.chain_check.specs.Judging.{texts_of}
use Rattle.chain_check.specs.Screening.{IsScreening}
use Rattle.chain_check.proofs.judging.judge.Goals as goal

pub judge_candidate-requires-clause-read : goal.judge_candidate-requires-clause-read
judge_candidate-requires-clause-read c = ((rw c.in-Candidate.is at c.in_ok-entries.ensures.screening) c.args.keys.now.keys).1

pub returns-in-Candidate-clause-judgement : goal.returns-in-Candidate-clause-judgement
returns-in-Candidate-clause-judgement c =
    let to = ((rw c.in-Candidate.is at c.in_ok-entries.ensures.screening) c.args.keys.now.keys).0 in
    IfOk-weaker c.judge_candidate.result _ _ (λ judged is. is c.args.anchor.now c.args.t to) c.judge_candidate.ensures.judgement

pub returns-in-Refused-clause-judgement : goal.returns-in-Refused-clause-judgement
returns-in-Refused-clause-judgement c =
    let told = (rw c.in-Refused.is at c.in_ok-entries.ensures.screening) c.args.keys.now.keys in
    (told.0, λ place public need. told.1 need.0)
