use Rattle.chain_check.proofs.screening.screen.Goals as goal

pub returns-in-Ok-clause-screening : goal.returns-in-Ok-clause-screening
returns-in-Ok-clause-screening c = rw (← c.as_slice.ensures) c.in-Ok.ensures.screening

pub returns-in-Err-Refused-clause-screening : goal.returns-in-Err-Refused-clause-screening
returns-in-Err-Refused-clause-screening c = rw (← c.as_slice.ensures) (rw c.in-Err-Refused.field-0-is at c.in-Err-Refused.ensures.screening)
