use Rattle.entity_statement.proofs.Facts.{constraints-utf8}
use Rattle.entity_statement.proofs.parts.read_rules.Goals as goal

pub returns-clause-names : goal.returns-clause-names
returns-clause-names c = constraints-utf8 _ c.args.claims.now c.in_ok-constraints.constraints c.in_ok-constraints.ensures c.requires
