use Rattle.std.proofs.Common.{rules}
use Rattle.authority_core.proofs.status.has_ended.Goals as goal

pub returns-in-Some : goal.returns-in-Some
returns-in-Some c = search rules
