use Rattle.std.proofs.Common.{rules}
use Rattle.entity_statement.proofs.statement.Statement.is_current.Goals as goal

pub returns-then-self-saturating_add : goal.returns-then-self-saturating_add
returns-then-self-saturating_add c = search rules

pub returns-else-self-saturating_add : goal.returns-else-self-saturating_add
returns-else-self-saturating_add c = search rules
