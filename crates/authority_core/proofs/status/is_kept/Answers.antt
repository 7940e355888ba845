use Rattle.authority_core.proofs.status.is_kept.Goals as goal

pub returns-clause-test : goal.returns-clause-test
returns-clause-test g c = rw c.in_ok-kept.ensures at c.is_sealed.ensures.test

pub returns-clause-counted : goal.returns-clause-counted
returns-clause-counted g c = rw c.in_ok-kept.ensures at c.is_sealed.ensures.counted
