-- What is answered on a text as a resolver's reply: that it can be acted on, or the first thing that is wrong with it (OpenID Federation
-- 1.0 section 8.3).
use Rattle.std.specs.Prelude.{◌≡◌, ◌≤◌, ◌⊎◌, ℕ, List, length, slice_get, Bool, true, false, Option, Some, None, IsTrue}
use Rattle.fed_base.specs.Places.{HoldsBelow}
use Rattle.fed_json.specs.declared.tree.Json.{Json}
use Rattle.fed_json.specs.declared.tree.Member.{Member}
use Rattle.fed_json.specs.Forms.{IsWhole}
use Rattle.fed_json.specs.Trees.{find, object_members}
use Rattle.jwk_set.specs.declared.jwk.Jwk.{Jwk}
use Rattle.entity_statement.specs.Claims.{Identifier}
use Rattle.entity_statement.specs.Use.{current_at}
use Rattle.chain_check.specs.Chains.{statements_of}
use Rattle.chain_check.specs.Names.{subject_at}
use Rattle.chain_check.specs.Validity.{Case as ChainCase, IsValid, ResolvesTo, case_of as chain_case}
use Rattle.chain_check.specs.Verdicts.{HasUtf8Names, IsVerdictOn as IsChainVerdict, least_exp}
use Rattle.chain_check.specs.declared.verdict.Resolved.{Resolved}
use Rattle.chain_check.specs.declared.verdict.Verdict.{Verdict as ChainVerdict}
use Rattle.chain_check.specs.declared.verdict.Verdict.TheVariants as chain
use Rattle.resolve_reply.specs.declared.said.Said.{Said}
use Rattle.reply_check.specs.declared.claimed.Claimed.{Claimed}
use Rattle.reply_check.specs.declared.flaw.Flaw.{Flaw}
use Rattle.reply_check.specs.declared.verdict.ReplyReason.{ReplyReason}
use Rattle.reply_check.specs.declared.verdict.ReplyReason.TheVariants.{Form, Signature, Chain, Subject, Metadata, End, Mark, Times}
use Rattle.reply_check.specs.declared.verdict.ReplyVerdict.{ReplyVerdict}
use Rattle.reply_check.specs.declared.verdict.ReplyVerdict.TheVariants.{Sound, Refused}
use Rattle.reply_check.specs.Marks.{IsFirstFlaw, MarksStand}
use Rattle.reply_check.specs.Readings.{IsSealedReply, reply_of}

-- what a reply is judged by: its text, the resolver's keys, the identifier and the keys of the trust anchor, and a moment
pub record Case : Type 0 where
  pub text : List ℕ
  pub resolver : List Jwk
  pub anchor : Identifier
  pub keys : List Jwk
  pub moment : ℕ

abbrev pub case_of : List ℕ → List Jwk → Identifier → List Jwk → ℕ → Case
case_of text resolver anchor keys moment = record { text = text; resolver = resolver; anchor = anchor; keys = keys; moment = moment }

-- ---- conditions

-- its chain, as it is judged at the reply's own moment (section 10.2)
abbrev pub chain_in : Case → Said → ChainCase
chain_in q said = chain_case said.chain q.anchor q.keys said.iat

-- the member at the place stands among the others too, under its name
abbrev pub IsWithinAt : List Member → List Member → ℕ → Type 0
IsWithinAt carried members j = (m : Member) → slice_get carried j ≡ Some m → find m.name members ≡ Some m.value

-- each member does
abbrev pub AreWithin : List Member → List Member → Type 0
AreWithin carried members = HoldsBelow (IsWithinAt carried members) (length carried)

-- for each entity type that it carries it says what this metadata says (section 8.3.2, `metadata`)
abbrev pub SaysMetadata : Said → Json → Type 0
SaysMetadata said metadata = AreWithin (object_members said.metadata) (object_members metadata)

-- the reply is current: issued at a moment at most a minute from now, and not ended (section 8.3.2, `iat` and `exp`)
abbrev pub IsCurrent : Said → ℕ → Type 0
IsCurrent said t = IsTrue (current_at said.iat said.exp t)

-- a relying party can act on the reply at the moment; the signatures of these of its marks were checked
pub record IsSound (q : Case) : Type 0 where
  pub claimed : Claimed
  pub checked : List Bool
  -- the text reads as a reply (section 8.3.2)
  pub reads : reply_of q.text ≡ Some claimed
  -- it is sealed by the resolver
  pub sealed : IsSealedReply q.text q.resolver
  -- its chain is valid up to the anchor, under the anchor's keys, at the reply's own moment (section 10.2)
  pub valid : IsValid (chain_in q claimed.said)
  -- it is about the chain's leaf
  pub subject : claimed.said.sub ≡ subject_at (statements_of claimed.said.chain) 0
  -- its metadata is the leaf's under the merged policy, for the types that it carries (section 6.1.4)
  pub metadata : Json
  pub resolves : ResolvesTo (statements_of claimed.said.chain) metadata
  pub says : SaysMetadata claimed.said metadata
  -- it holds no longer than the chain
  pub ends : claimed.said.exp ≤ least_exp (statements_of claimed.said.chain)
  -- each mark is good, as far as the reply shows it, and lasts as long as the reply
  pub marks : MarksStand claimed.said checked
  -- it is current
  pub current : IsCurrent claimed.said q.moment

-- ---- the verdict, condition by condition

-- where a condition holds, the next ones decide; where it doesn't, this reason is the answer
abbrev pub Needs : Type 0 → ReplyReason → (ReplyVerdict → Type 0) → ReplyVerdict → Type 0
Needs condition reason next v = (condition × next v) ⊎ ((¬ condition) × (v ≡ Refused reason))

-- the reply is current
abbrev pub AnswersTimes : Claimed → List Bool → ℕ → ReplyVerdict → Type 0
AnswersTimes c checked t = Needs (IsCurrent c.said t) Times (λ v. v ≡ Sound c checked)

-- each mark stands; else the first that doesn't is told
abbrev pub AnswersMarks : Claimed → ℕ → ReplyVerdict → Type 0
AnswersMarks c t v =
    ((checked : List Bool) × MarksStand c.said checked × AnswersTimes c checked t v)
    ⊎ ((place : ℕ) × (flaw : Flaw) × IsFirstFlaw c.said place flaw × (v ≡ Refused (Mark place flaw)))

-- it ends no later than the chain
abbrev pub AnswersEnd : Claimed → Resolved → ℕ → ReplyVerdict → Type 0
AnswersEnd c r t = Needs (c.said.exp ≤ r.exp) End (AnswersMarks c t)

-- it says the metadata that the chain resolves to, for the types that it carries
abbrev pub AnswersMetadata : Claimed → Resolved → ℕ → ReplyVerdict → Type 0
AnswersMetadata c r t = Needs (SaysMetadata c.said r.metadata) Metadata (AnswersEnd c r t)

-- it is about the chain's leaf
abbrev pub AnswersSubject : Claimed → Resolved → ℕ → ReplyVerdict → Type 0
AnswersSubject c r t = Needs (c.said.sub ≡ r.leaf) Subject (AnswersMetadata c r t)

-- its chain is valid; else the chain's first failure is told
abbrev pub AnswersVerdict : Claimed → ChainVerdict → ℕ → ReplyVerdict → Type 0
AnswersVerdict c (chain.Valid r) t v = AnswersSubject c r t v
AnswersVerdict c (chain.Refused place reason) t v = v ≡ Refused (Chain place reason)

abbrev pub AnswersChain : ChainCase → Claimed → ℕ → ReplyVerdict → Type 0
AnswersChain case c t v = (found : ChainVerdict) × IsChainVerdict case found × AnswersVerdict c found t v

-- it is sealed by the resolver
abbrev pub AnswersSignature : Case → Claimed → ReplyVerdict → Type 0
AnswersSignature q c = Needs (IsSealedReply q.text q.resolver) Signature (AnswersChain (chain_in q c.said) c q.moment)

-- the text reads as a reply
abbrev pub AnswersForm : Case → Option Claimed → ReplyVerdict → Type 0
AnswersForm q (Some c) v = AnswersSignature q c v
AnswersForm q None v = v ≡ Refused Form

-- the verdict on the text: of several faults the first in the order of the reasons
abbrev pub IsVerdictOn : Case → ReplyVerdict → Type 0
IsVerdictOn q v = AnswersForm q (reply_of q.text) v

-- ---- what holds of verdicts

-- a relying party can act on it
abbrev pub is_sound : ReplyVerdict → Bool
is_sound (Sound claimed checked) = true
is_sound (Refused reason) = false

-- the metadata that is told, and the names that a reason tells, can be written as JSON (RFC 8259 section 8.1)
abbrev pub CanBeTold : ReplyVerdict → Type 0
CanBeTold (Sound claimed checked) = IsWhole claimed.said.metadata
CanBeTold (Refused (Chain place reason)) = HasUtf8Names reason
CanBeTold (Refused _) = Unit {0}
