use Rattle.std.proofs.Common.{rules}
use Rattle.authority_core.proofs.status.standing.Goals as goal

pub returns-then-is_among : goal.returns-then-is_among
returns-then-is_among c = search rules
