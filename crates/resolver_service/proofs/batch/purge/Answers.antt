use Rattle.resolver_service.proofs.DeskLaws.{worn_purge}
use Rattle.resolver_service.proofs.batch.purge.Goals as goal

pub returns-in-Ok-clause-purged : goal.returns-in-Ok-clause-purged
returns-in-Ok-clause-purged g c = (c.in-Ok.dropped, c.in-Ok.ensures.told)

pub returns-in-Err-clause-worn : goal.returns-in-Err-clause-worn
returns-in-Err-clause-worn g c = worn_purge _ _ _ _ c.in-Err.ensures.worn

pub returns-in-Err-clause-stops : goal.returns-in-Err-clause-stops
returns-in-Err-clause-stops g c = c.in-Err.ensures.worn.1
