-- Which of a reply's trust marks stand, as far as the reply itself shows it (OpenID Federation 1.0 sections 7.3 and 8.3.2).
use Rattle.std.specs.Prelude.{◌≡◌, ◌⊎◌, ◌-◌, ℕ, List, [], length, map, bytes_eq, nat_lt, Bool, true, false, Option, Some, None, is_some, if◌then◌else◌, slice_get, unwrap_or}
use Rattle.std.specs.Option.{option_and_then, option_map_or}
use Rattle.jwk_set.specs.declared.jwk.Jwk.{Jwk}
use Rattle.fed_base.specs.Places.{HoldsBelow}
use Rattle.entity_statement.specs.Claims.{Claims, Identifier}
use Rattle.entity_statement.specs.Signed.{statement_of}
use Rattle.entity_statement.specs.declared.marks.MarkEntry.{MarkEntry}
use Rattle.trust_mark.specs.Marks.{Case, IsGood, case_of, mark_of}
use Rattle.trust_mark.specs.Verdicts.{IsFirstReason, IsVerdictOn}
use Rattle.trust_mark.specs.declared.mark.Mark.{Mark}
use Rattle.trust_mark.specs.declared.verdict.MarkReason.{MarkReason}
use Rattle.trust_mark.specs.declared.verdict.MarkReason.TheVariants.{Signature}
use Rattle.trust_mark.specs.declared.verdict.MarkVerdict.{MarkVerdict}
use Rattle.trust_mark.specs.declared.verdict.MarkVerdict.TheVariants as mark
use Rattle.chain_check.specs.Chains.{Texts}
use Rattle.resolve_reply.specs.declared.said.Said.{Said}
use Rattle.reply_check.specs.declared.flaw.Flaw.{Flaw}
use Rattle.reply_check.specs.declared.flaw.Flaw.TheVariants.{Bad, Late}

-- ---- by what marks are judged

-- the statements at both ends of a chain (section 4)
abbrev pub first_of : Texts → Option Claims
first_of chain = option_and_then statement_of (slice_get chain 0)

abbrev pub last_of : Texts → Option Claims
last_of chain = option_and_then statement_of (slice_get chain (length chain - 1))

-- the configurations of the leaf and of the trust anchor, the moment of the reply, and its end
pub record Here : Type 0 where
  pub leaf : Claims
  pub anchor : Claims
  pub moment : ℕ
  pub end : ℕ

abbrev pub here_of : Said → Claims → Claims → Here
here_of said leaf anchor = record { leaf = leaf; anchor = anchor; moment = said.iat; end = said.exp }

-- the keys of an issuer whose configuration stands in the reply's chain: the leaf, or the trust anchor
unfoldable pub known_keys : Here → Identifier → Option (List Jwk)
known_keys here iss =
    if bytes_eq iss here.leaf.sub then Some here.leaf.keys
    else if bytes_eq iss here.anchor.sub then Some here.anchor.keys
    else None

-- those of the issuer of the mark that the entry's text reads as
unfoldable pub issuer_keys : Here → MarkEntry → Option (List Jwk)
issuer_keys here entry = option_and_then (λ mark. known_keys here mark.iss) (mark_of entry.text)

-- the reply shows the keys of the mark's issuer, so that its signature is checked
abbrev pub is_checked : Here → MarkEntry → Bool
is_checked here entry = is_some (issuer_keys here entry)

-- the entry as it is judged: by no key where its issuer's configuration doesn't stand in the chain
abbrev pub case_in : Here → MarkEntry → Case
case_in here entry = case_of entry here.leaf.sub here.anchor (unwrap_or (issuer_keys here entry) []) here.moment

-- ---- marks that stand

-- the mark meets each condition before that of its signature, which can't be checked (section 7.3)
pub record IsUnchecked (here : Here) (entry : MarkEntry) : Type 0 where
  pub unknown : is_checked here entry ≡ false
  pub before : IsFirstReason (case_in here entry) Signature

-- the mark ends before a moment; without `exp` it never does (section 7.1)
abbrev pub ends_before : ℕ → Mark → Bool
ends_before end mark = option_map_or (λ exp. nat_lt exp end) mark.exp false

-- the reply holds longer than the entry's mark (section 8.3.2, `exp`)
unfoldable pub is_late : Here → MarkEntry → Bool
is_late here entry = option_map_or (ends_before here.end) (mark_of entry.text) false

-- the mark is good as far as the reply shows it, and ends no sooner
pub record Stands (here : Here) (entry : MarkEntry) : Type 0 where
  pub passes : IsGood (case_in here entry) ⊎ IsUnchecked here entry
  pub lasts : is_late here entry ≡ false

-- ---- what is wrong with others

-- the reason for which it isn't good; that it isn't sealed counts only where that was checked
abbrev pub reason_by : Bool → MarkVerdict → Option MarkReason
reason_by checked (mark.Good exp) = None
reason_by true (mark.Bad reason) = Some reason
reason_by false (mark.Bad Signature) = None
reason_by false (mark.Bad reason) = Some reason

-- that reason, or else that it is late
abbrev pub flaw_by : Option MarkReason → Bool → Option Flaw
flaw_by (Some reason) late = Some (Bad reason)
flaw_by None true = Some Late
flaw_by None false = None

-- what is wrong with an entry, by the verdict on its mark, and whether it is late
abbrev pub IsFlaw : Here → MarkEntry → Option Flaw → Type 0
IsFlaw here entry flaw =
    (verdict : MarkVerdict) × IsVerdictOn (case_in here entry) verdict × (flaw ≡ flaw_by (reason_by (is_checked here entry) verdict) (is_late here entry))

-- ---- all marks of a reply

-- the entry at the place stands
abbrev pub StandsAt : Here → List MarkEntry → ℕ → Type 0
StandsAt here marks j = (entry : MarkEntry) → slice_get marks j ≡ Some entry → Stands here entry

-- the configurations at the ends of what is said's chain
pub record HasEnds (said : Said) (leaf anchor : Claims) : Type 0 where
  pub leaf_config : first_of said.chain ≡ Some leaf
  pub anchor_config : last_of said.chain ≡ Some anchor

-- each of these marks stands
abbrev pub AllStand : Here → List MarkEntry → Type 0
AllStand here marks = HoldsBelow (StandsAt here marks) (length marks)

-- each mark of the reply stands, and the signatures of these were checked, in the order of the marks
pub record MarksStand (said : Said) (checked : List Bool) : Type 0 where
  pub leaf : Claims
  pub anchor : Claims
  pub ends : HasEnds said leaf anchor
  pub stand : AllStand (here_of said leaf anchor) said.marks
  pub checked_are : checked ≡ map (is_checked (here_of said leaf anchor)) said.marks

-- the first of these marks that doesn't stand is at this place, and this is wrong with it
pub record FlawsFirst (here : Here) (marks : List MarkEntry) (place : ℕ) (flaw : Flaw) : Type 0 where
  pub entry : MarkEntry
  pub there : slice_get marks place ≡ Some entry
  pub before : HoldsBelow (StandsAt here marks) place
  pub has : IsFlaw here entry (Some flaw)

-- the same of the marks of a reply
pub record IsFirstFlaw (said : Said) (place : ℕ) (flaw : Flaw) : Type 0 where
  pub leaf : Claims
  pub anchor : Claims
  pub ends : HasEnds said leaf anchor
  pub first : FlawsFirst (here_of said leaf anchor) said.marks place flaw
