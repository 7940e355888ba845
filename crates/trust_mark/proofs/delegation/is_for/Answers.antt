use Rattle.std.proofs.Common.{rules}
use Rattle.trust_mark.proofs.delegation.is_for.Goals as goal

pub returns-then-eq-2 : goal.returns-then-eq-2
returns-then-eq-2 c = search rules
