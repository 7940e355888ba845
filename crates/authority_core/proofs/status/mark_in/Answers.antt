use Rattle.std.proofs.Common.{rules}
use Rattle.authority_core.proofs.status.mark_in.Goals as goal

pub returns-then-eq : goal.returns-then-eq
returns-then-eq c = search rules
