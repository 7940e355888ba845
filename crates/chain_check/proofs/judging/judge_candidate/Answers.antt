use Rattle.chain_check.proofs.judging.judge_candidate.Goals as goal

pub returns-in-Ok-clause-judgement : goal.returns-in-Ok-clause-judgement
returns-in-Ok-clause-judgement c = rw (← c.as_slice-2.ensures) c.in-Ok.ensures.judgement

pub returns-in-Err-Refused-clause-judgement : goal.returns-in-Err-Refused-clause-judgement
returns-in-Err-Refused-clause-judgement c = rw (← c.as_slice-2.ensures) (rw c.in-Err-Refused.field-0-is at c.in-Err-Refused.ensures.judgement)
