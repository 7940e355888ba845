use Rattle.entity_statement.proofs.Facts.{required-small}
use Rattle.entity_statement.proofs.parts.read_validity.Goals as goal

pub returns-clause-issued : goal.returns-clause-issued
returns-clause-issued c = required-small _ c.args.claims.now c.in_ok-iat.iat c.in_ok-iat.ensures

pub returns-clause-ends : goal.returns-clause-ends
returns-clause-ends c = required-small _ c.args.claims.now c.in_ok-exp.exp c.in_ok-exp.ensures
