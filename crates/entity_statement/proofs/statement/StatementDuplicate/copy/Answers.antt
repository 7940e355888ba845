use Rattle.entity_statement.proofs.Same.{same_statement}
use Rattle.entity_statement.proofs.statement.StatementDuplicate.copy.Goals as goal

pub returns-in-Ok : goal.returns-in-Ok
returns-in-Ok c = same_statement _ c.args.self.now (record {
  iss = c.in_ok-common.ensures.iss;
  sub = c.in_ok-common.ensures.sub;
  iat = c.in_ok-common.ensures.iat;
  exp = c.in_ok-common.ensures.exp;
  jwks = c.in_ok-common.ensures.jwks;
  hints = c.in-Ok.ensures.hints;
  metadata = c.in_ok-metadata.ensures;
  policy = c.in-Ok.ensures.policy;
  constraints = c.in-Ok.ensures.constraints;
  marks = c.in-Ok.ensures.marks;
  issuers = c.in-Ok.ensures.issuers;
  owners = c.in-Ok.ensures.owners;
})
