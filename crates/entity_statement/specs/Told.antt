-- What the values of the code say.
use Rattle.std.specs.Prelude.{List, codes, map, unwrap_or}
use Rattle.fed_json.specs.declared.tree.Member.{Member}
use Rattle.fed_json.specs.Trees.{find}
use Rattle.entity_statement.specs.declared.parts.Common.{Common}
use Rattle.entity_statement.specs.declared.parts.Validity.{Validity}
use Rattle.entity_statement.specs.declared.parts.Rules.{Rules}
use Rattle.entity_statement.specs.declared.parts.Marks.{Marks}
use Rattle.entity_statement.specs.declared.parts.Further.{Further}
use Rattle.entity_statement.specs.declared.statement.Statement.{Statement}
use Rattle.entity_statement.specs.Claims.{Claims, CommonClaims, FurtherClaims, MarkClaims, RuleClaims, ValidityClaims, no_metadata, told_owner}

-- the claims that every statement has, the key set by its keys (section 3.1.1)
abbrev pub told_common : Common → CommonClaims
told_common c = record { iss = c.iss; sub = c.sub; iat = c.iat; exp = c.exp; keys = c.jwks.keys }

-- when it holds, the key set by its keys (section 3.1.1)
abbrev pub told_validity : Validity → ValidityClaims
told_validity v = record { iat = v.iat; exp = v.exp; keys = v.jwks.keys }

-- what a superior rules (section 3.1.3)
abbrev pub told_rules : Rules → RuleClaims
told_rules r = record { policy = r.policy; constraints = r.constraints }

-- what a configuration says of trust marks, the owners' key sets by their keys (section 3.1.2)
abbrev pub told_marks : Marks → MarkClaims
told_marks m = record { marks = m.marks; issuers = m.issuers; owners = map told_owner m.owners }

-- the claims beside the common ones; the metadata stays in its place among the members (sections 3.1.1 to 3.1.3)
abbrev pub told_further : List Member → Further → FurtherClaims
told_further members f = record {
  hints = f.hints;
  metadata = unwrap_or (find (codes "metadata") members) no_metadata;
  rules = told_rules f.rules;
  marks = told_marks f.marks;
}

-- the claims of a statement, its key sets by their keys (sections 3.1.1 to 3.1.3)
abbrev pub told : Statement → Claims
told s = record {
  iss = s.iss;
  sub = s.sub;
  iat = s.iat;
  exp = s.exp;
  keys = s.jwks.keys;
  hints = s.hints;
  metadata = s.metadata;
  policy = s.policy;
  constraints = s.constraints;
  marks = s.marks;
  issuers = s.issuers;
  owners = map told_owner s.owners;
}
