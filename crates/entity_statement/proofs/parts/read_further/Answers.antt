use Rattle.entity_statement.proofs.Facts.{hints-differ, metadata-is}
use Rattle.entity_statement.proofs.parts.read_further.Goals as goal

pub returns-clause-once : goal.returns-clause-once
returns-clause-once c = hints-differ c.args.own c.args.claims.now c.in_ok-hints.hints c.in_ok-hints.ensures

pub returns-clause-parameters : goal.returns-clause-parameters
returns-clause-parameters c = metadata-is c.args.claims.now _ c.in_ok-check_metadata.ensures
