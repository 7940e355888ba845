-- What an authority issues: texts that read as what it states and are sealed by it; and what a chain of such texts may be
-- refused for (OpenID Federation 1.0 sections 3, 4 and 10.2).
use Rattle.std.specs.Prelude.{◌≡◌, ◌<◌, ◌⊎◌, ℕ, List, map, length, Some, Ok, slice_get}
use Rattle.std.specs.List.{AllByRecursion}
use Rattle.fed_base.specs.Places.{FailsFirst}
use Rattle.jws_form.specs.declared.compact.Compact.{Compact}
use Rattle.jws_form.specs.Compact.{IsCompact}
use Rattle.jwk_set.specs.declared.jwk.Jwk.{Jwk}
use Rattle.jwk_set.specs.KeySets.{key_named}
use Rattle.slh_dsa.specs.Keys.{Keys}
use Rattle.sealed.specs.Seals.{IsSealedBy}
use Rattle.sealed.specs.Sealing.{signer_key, signer_name}
use Rattle.entity_statement.specs.Claims.{Claims}
use Rattle.entity_statement.specs.Signed.{statement_of}
use Rattle.entity_statement.specs.Table.{claims_of}
use Rattle.chain_check.specs.declared.reason.Reason.{Reason}
use Rattle.chain_check.specs.declared.reason.Reason.TheVariants.{Form, Names, Times, Signature}
use Rattle.chain_check.specs.declared.verdict.Verdict.TheVariants.{Refused}
use Rattle.chain_check.specs.Chains.{Texts, max_statements, statements_of}
use Rattle.chain_check.specs.Names.{LosesNames}
use Rattle.chain_check.specs.Resolving.{FailsToResolve}
use Rattle.chain_check.specs.Signatures.{CurrentAt, superior_keys}
use Rattle.chain_check.specs.Validity.{Case, case_of}
use Rattle.chain_check.specs.Verdicts.{IsVerdictOn}
use Rattle.authority_core.specs.Nodes.{Node, node_signer}

-- ---- what is issued

-- a text, the key pair that signed it, and the claims that it states
pub record Issue : Type 0 where
  pub signer : Keys
  pub text : List ℕ
  pub claims : Claims

-- the keys name the signer: its public key stands among them under its name and its algorithm (RFC 7515 sections 4.1.1 and 4.1.4)
abbrev pub NamesSigner : Keys → List Jwk → Type 0
NamesSigner signer keys = key_named (signer_name signer) signer.alg keys ≡ Some (signer_key signer)

-- the parts of a text that say these claims, and whose header names the signer (section 3.1)
pub record SaysAs (issue : Issue) (parts : Compact) : Type 0 where
  pub claims : claims_of parts ≡ Ok issue.claims
  pub algorithm : parts.alg ≡ issue.signer.alg
  pub named : parts.kid ≡ Some (signer_name issue.signer)

pub record IsIssue (issue : Issue) : Type 0 where
  -- the text reads as a statement that says these claims, (section 3.1)
  pub reads : statement_of issue.text ≡ Some issue.claims
  -- whichever way it is taken apart, (RFC 7515 section 7.1)
  pub parts : (parts : Compact) → IsCompact issue.text parts → SaysAs issue parts
  -- and is sealed by each set that names its signer, (RFC 7515 section 5.2)
  pub seals : (keys : List Jwk) → NamesSigner issue.signer keys → IsSealedBy issue.text keys
  -- as do the keys that a configuration states (section 3.1.1, `jwks`)
  pub own : issue.claims.iss ≡ issue.claims.sub → NamesSigner issue.signer issue.claims.keys

-- what a node issues is signed by the newest live key of its ring
abbrev pub issue_by : Node → List ℕ → Claims → Issue
issue_by node text claims = record { signer = node_signer node; text = text; claims = claims }

-- ---- chains of what is issued

-- the texts, the leaf's first (section 4), and what they say
abbrev pub issue_text : Issue → List ℕ
issue_text issue = issue.text

abbrev pub issue_claims : Issue → Claims
issue_claims issue = issue.claims

abbrev pub texts_of : List Issue → Texts
texts_of issues = map issue_text issues

abbrev pub said_by : List Issue → List Claims
said_by issues = map issue_claims issues

-- each is an issue, of any authority and at any moment
abbrev pub AreIssues : List Issue → Type 0
AreIssues issues = AllByRecursion IsIssue issues

-- the statements of such a chain are those that were issued, each of them
abbrev pub IssuesAreRead : Type 0
IssuesAreRead = (issues : List Issue) → AreIssues issues → statements_of (texts_of issues) ≡ said_by issues

-- no chain has this length, as is told at the place: there is none, or there are more than 14 (section 4)
abbrev pub IsNoLength : ℕ → ℕ → Type 0
IsNoLength n place = ((n ≡ 0) × (place ≡ 0)) ⊎ ((max_statements < n) × (place ≡ max_statements))

-- the keys of its superior, those of the trust anchor for the last, don't name the signer of the text at the place
pub record IsUnnamed (issues : List Issue) (keys : List Jwk) (place : ℕ) : Type 0 where
  pub issue : Issue
  pub there : slice_get issues place ≡ Some issue
  pub unnamed : ¬ NamesSigner issue.signer (superior_keys (said_by issues) keys place)

-- all that a chain of issues may be refused for, by the reason that is told: its length, its names, its times, keys that don't
-- name the signer, and what its statements limit and ask for by policies. So none of its texts fails to read, by its type, a
-- claim or otherwise; and no signature fails under keys that name its signer, nor the leaf's under its own
abbrev pub MayBeRefused : List Issue → Case → ℕ → Reason → Type 0
MayBeRefused issues case place Form = IsNoLength (length issues) place
MayBeRefused issues case place Names = LosesNames (said_by issues) case.anchor place
MayBeRefused issues case place Times = FailsFirst (CurrentAt (said_by issues) case.moment) (length issues) place
MayBeRefused issues case place Signature = IsUnnamed issues case.keys place
MayBeRefused issues case place reason = FailsToResolve (said_by issues) place reason

-- the case of a chain of issues
abbrev pub case_by : List Issue → List ℕ → List Jwk → ℕ → Case
case_by issues anchor keys moment = case_of (texts_of issues) anchor keys moment

-- a chain of issues is refused for nothing else
abbrev pub IssuesAreRefusedOnly : Type 0
IssuesAreRefusedOnly = (issues : List Issue) (anchor : List ℕ) (keys : List Jwk) (moment place : ℕ) (reason : Reason) → AreIssues issues
    → IsVerdictOn (case_by issues anchor keys moment) (Refused place reason) → MayBeRefused issues (case_by issues anchor keys moment) place reason
