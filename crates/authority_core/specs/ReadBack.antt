-- What the statements of a node read back as: exactly what is configured (OpenID Federation 1.0 section 3.1).
use Rattle.std.specs.Prelude.{◌≡◌, ℕ, List, [], Option, Some, None, Ok, unwrap_or}
use Rattle.fed_json.specs.declared.tree.Json.{Json}
use Rattle.fed_json.specs.Reading.{tree_in}
use Rattle.jws_form.specs.declared.compact.Compact.{Compact}
use Rattle.jwk_set.specs.declared.jwk.Jwk.{Jwk}
use Rattle.policy_merge.specs.Shapes.{policy_shape}
use Rattle.chain_limits.specs.Reading.{constraints_of, no_constraints}
use Rattle.entity_statement.specs.Claims.{Claims, no_metadata}
use Rattle.entity_statement.specs.Forms.{hints_of, issuers_of, marks_of, owners_of}
use Rattle.entity_statement.specs.Table.{claims_of, statement_type}
use Rattle.node_config.specs.Nodes.{Settings, Subordinate}
use Rattle.authority_core.specs.Endpoints.{own_metadata}
use Rattle.authority_core.specs.Issued.{end_of}

-- a text of the type of statements whose payload is this tree says these claims
abbrev pub ReadsAs : Json → Claims → Type 0
ReadsAs tree claims = (c : Compact) → c.typ ≡ Some statement_type → tree_in c.payload ≡ Some tree → claims_of c ≡ Ok claims

-- what a configured claim says, and what an absent one does
abbrev pub said : {X : Type 0} → (Json → Option X) → X → Option Json → X
said form empty None = empty
said form empty (Some tree) = unwrap_or (form tree) empty

-- what the node's configuration says (sections 3.1.1 and 3.1.2)
abbrev pub own_claims : Settings → List Jwk → ℕ → Claims
own_claims settings keys t = record {
  iss = settings.id;
  sub = settings.id;
  iat = t;
  exp = end_of settings.lifetime t;
  keys = keys;
  hints = said hints_of [] settings.claims.hints;
  metadata = own_metadata settings;
  policy = [];
  constraints = no_constraints;
  marks = said marks_of [] settings.claims.marks;
  issuers = said issuers_of [] settings.claims.issuers;
  owners = said owners_of [] settings.claims.owners;
}

-- what the statement about a subordinate says (sections 3.1.1 and 3.1.3)
abbrev pub claims_about : Settings → Subordinate → ℕ → Claims
claims_about settings s t = record {
  iss = settings.id;
  sub = s.entity.id;
  iat = t;
  exp = end_of settings.lifetime t;
  keys = s.entity.keys;
  hints = [];
  metadata = unwrap_or s.claims.metadata no_metadata;
  policy = said policy_shape [] s.claims.policy;
  constraints = said constraints_of no_constraints s.claims.constraints;
  marks = [];
  issuers = [];
  owners = [];
}
