-- Statements that say the same are the same.
use Rattle.std.proofs.Common.{◌≡◌, ◌<◌, ℕ, Bool, IsTrue}
use Rattle.std.specs.List.{list_all}
use Rattle.std.specs.Str.{is_utf8}
use Rattle.std.proofs.Math.Path.{PathP, to_path_p}
use Rattle.std.proofs.Props.{props}
use denote.Struct.Props.{props as facts}
use Rattle.fed_base.specs.Moments.{moment_limit}
use Rattle.fed_json.specs.Metadata.{IsMetadata, is_metadata}
use Rattle.chain_limits.specs.declared.constraints.Constraints.{Constraints}
use Rattle.chain_limits.specs.Reading.{HoldsUtf8}
use Rattle.entity_statement.specs.declared.statement.Statement.{Statement}
use Rattle.entity_statement.specs.Claims.{mark_utf8, issuers_utf8}
use Rattle.entity_statement.specs.Forms.{all_differ}

-- proofs of one fact of equal values
over : {X : Type 0} (P : X → Type 0) → ((x : X) → IsProp (P x)) → {x y : X} (e : x ≡ y) (p : P x) (q : P y) → PathP (λ i. P (e i)) p q
over P is {y = y} e p q = to_path_p (λ i. P (e i)) (is y _ q)

moments : (n : ℕ) → IsProp (n < moment_limit)
moments n = hlevel facts

utf8 : (limits : Constraints) → IsProp (HoldsUtf8 limits)
utf8 limits = hlevel (props, facts)

tests : {X : Type 0} (test : X → Bool) (x : X) → IsProp (IsTrue (test x))
tests test x = hlevel facts

-- two statements say the same of each claim
pub record SaysTheSame (a b : Statement) : Type 0 where
  pub iss : a.iss ≡ b.iss
  pub sub : a.sub ≡ b.sub
  pub iat : a.iat ≡ b.iat
  pub exp : a.exp ≡ b.exp
  pub jwks : a.jwks ≡ b.jwks
  pub hints : a.hints ≡ b.hints
  pub metadata : a.metadata ≡ b.metadata
  pub policy : a.policy ≡ b.policy
  pub constraints : a.constraints ≡ b.constraints
  pub marks : a.marks ≡ b.marks
  pub issuers : a.issuers ≡ b.issuers
  pub owners : a.owners ≡ b.owners

pub same_statement : (a b : Statement) → SaysTheSame a b → a ≡ b
same_statement a b same = λ i. record {
  iss = same.iss i;
  sub = same.sub i;
  iat = same.iat i;
  exp = same.exp i;
  jwks = same.jwks i;
  hints = same.hints i;
  metadata = same.metadata i;
  policy = same.policy i;
  constraints = same.constraints i;
  marks = same.marks i;
  issuers = same.issuers i;
  owners = same.owners i;
  issued = over (λ n. n < moment_limit) moments same.iat a.issued b.issued i;
  ends = over (λ n. n < moment_limit) moments same.exp a.ends b.ends i;
  once = over (λ ids. IsTrue (all_differ ids)) (tests all_differ) same.hints a.once b.once i;
  parameters = over IsMetadata (tests is_metadata) same.metadata a.parameters b.parameters i;
  names = over HoldsUtf8 utf8 same.constraints a.names b.names i;
  marks_utf8 = over (λ ms. IsTrue (list_all mark_utf8 ms)) (tests (list_all mark_utf8)) same.marks a.marks_utf8 b.marks_utf8 i;
  issuers_utf8 = over (λ ms. IsTrue (list_all issuers_utf8 ms)) (tests (list_all issuers_utf8)) same.issuers a.issuers_utf8 b.issuers_utf8 i;
  owners_utf8 = over (λ os. IsTrue (list_all (λ o. is_utf8 o.mark_type) os)) (tests (list_all (λ o. is_utf8 o.mark_type))) same.owners a.owners_utf8 b.owners_utf8 i;
}
