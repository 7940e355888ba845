use Rattle.std.proofs.Common.{rules}
use Rattle.chain_check.proofs.resolving.merge_at.Goals as goal

pub returns-in-Err-Conflict-clause-merged : goal.returns-in-Err-Conflict-clause-merged
returns-in-Err-Conflict-clause-merged c = search rules

pub returns-in-Ok-clause-merged : goal.returns-in-Ok-clause-merged
returns-in-Ok-clause-merged c = search rules
