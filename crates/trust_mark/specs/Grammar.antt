-- Which claims a text says, one fact a claim (OpenID Federation 1.0 sections 7 and 8.4).
use Rattle.std.specs.Prelude.{◌≡◌, ℕ, List, codes, Option, Some, None, option_map}
use Rattle.fed_json.specs.declared.tree.Json.{Text, Object}
use Rattle.fed_json.specs.declared.tree.Member.{Member}
use Rattle.fed_json.specs.Trees.{find}
use Rattle.fed_json.specs.Reading.{tree_in}
use Rattle.jws_form.specs.declared.compact.Compact.{Compact}
use Rattle.entity_statement.specs.Grammar.{NamesEntity, NamesMoment}
use Rattle.trust_mark.specs.Claims.{Name, delegation_type_name, mark_type_name, status_type_name}
use Rattle.trust_mark.specs.Statuses.{status_word}
use Rattle.trust_mark.specs.declared.mark.Mark.{Mark}
use Rattle.trust_mark.specs.declared.status.StatusAnswer.{StatusAnswer}

-- the claim is this text (RFC 8259 section 7)
abbrev pub NamesText : Name → List Member → List ℕ → Type 0
NamesText name members text = find name members ≡ Some (Text text)

-- the claim is absent, or it is this moment (RFC 7519 section 2, NumericDate)
abbrev pub MayNameMoment : Name → List Member → Option ℕ → Type 0
MayNameMoment name members None = find name members ≡ None
MayNameMoment name members (Some n) = NamesMoment name members n

-- the claim is absent, or it is this text (RFC 8259 section 7)
abbrev pub MayNameText : Name → List Member → Option (List ℕ) → Type 0
MayNameText name members text = find name members ≡ option_map Text text

-- the claims that marks and delegations have (sections 7.1 and 7.2.1)
pub record SaysCommon (members : List Member) (m : Mark) : Type 0 where
  pub iss : NamesEntity (codes "iss") members m.iss
  pub sub : NamesEntity (codes "sub") members m.sub
  pub trust_mark_type : NamesText (codes "trust_mark_type") members m.mark_type
  pub iat : NamesMoment (codes "iat") members m.iat
  pub exp : MayNameMoment (codes "exp") members m.exp

-- the payload is an object of these members, under a header of this type (RFC 7515 section 4.1.9)
pub record HasPayload (name : List ℕ) (c : Compact) (members : List Member) : Type 0 where
  pub typed : c.typ ≡ Some name
  pub object : tree_in c.payload ≡ Some (Object members)

-- the parts of a compact text are a mark that says this (section 7.1)
pub record IsMark (c : Compact) (m : Mark) : Type 0 where
  pub members : List Member
  pub payload : HasPayload mark_type_name c members
  pub common : SaysCommon members m
  pub delegation : MayNameText (codes "delegation") members m.delegation

-- the parts of a compact text are a delegation that says this (section 7.2.1)
pub record IsDelegation (c : Compact) (m : Mark) : Type 0 where
  pub members : List Member
  pub payload : HasPayload delegation_type_name c members
  pub common : SaysCommon members m
  pub first_hand : m.delegation ≡ None

-- the parts of a compact text are an answer that says this (section 8.4.2)
pub record IsStatusAnswer (c : Compact) (a : StatusAnswer) : Type 0 where
  pub members : List Member
  pub payload : HasPayload status_type_name c members
  pub iss : NamesEntity (codes "iss") members a.iss
  pub iat : NamesMoment (codes "iat") members a.iat
  pub trust_mark : NamesText (codes "trust_mark") members a.trust_mark
  pub status : NamesText (codes "status") members (status_word a.status)
