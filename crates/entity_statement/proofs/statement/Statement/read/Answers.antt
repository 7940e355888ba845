use Rattle.std.proofs.Common.{rules}
use Rattle.entity_statement.specs.Told.{told}
use Rattle.entity_statement.specs.Table.{GivesBy, claims_of}
use Rattle.entity_statement.proofs.Laws.{answer_found, answer_only}
use Rattle.entity_statement.proofs.statement.Statement.read.Goals as goal

pub returns-in-Ok-clause-found : goal.returns-in-Ok-clause-found
unfolding claims_of
returns-in-Ok-clause-found c =
    let exact : GivesBy told c.of_claims.result (claims_of c.args.compact.now) = search rules in
    answer_found c.args.compact.now c.of_claims.result exact

pub returns-in-Ok-clause-only : goal.returns-in-Ok-clause-only
unfolding claims_of
returns-in-Ok-clause-only c =
    let exact : GivesBy told c.of_claims.result (claims_of c.args.compact.now) = search rules in
    answer_only c.args.compact.now c.of_claims.result exact
