-- What the steps of a check answer; no public clause cites it.
use Rattle.std.specs.Prelude.{◌≡◌, ◌≢◌, ◌≤◌, List, Option, Some, None, IsSome, option_map}
use Rattle.jwk_set.specs.declared.jwk.Jwk.{Jwk}
use Rattle.jwk_set.specs.declared.set.JwkSet.{JwkSet}
use Rattle.entity_statement.specs.Told.{told}
use Rattle.entity_statement.specs.declared.marks.MarkEntry.{MarkEntry}
use Rattle.chain_check.specs.declared.verdict.Resolved.{Resolved}
use Rattle.chain_check.specs.Chains.{Texts}
use Rattle.resolve_reply.specs.declared.said.Said.{Said}
use Rattle.reply_check.specs.declared.judging.Judging.{Judging}
use Rattle.reply_check.specs.declared.looked.Looked.{Looked}
use Rattle.reply_check.specs.declared.looked.Looked.TheVariants.{Flawed, Stand}
use Rattle.reply_check.specs.declared.looked.Place.{Place}
use Rattle.reply_check.specs.declared.verdict.ReplyReason.{ReplyReason}
use Rattle.reply_check.specs.declared.verdict.ReplyReason.TheVariants.{Subject, Metadata, End}
use Rattle.reply_check.specs.Marks.{AllStand, FlawsFirst, HasEnds, Here, IsFirstFlaw, MarksStand, first_of, last_of}
use Rattle.reply_check.specs.Verdicts.{SaysMetadata}

-- ---- by what marks are judged

-- what the code holds, its statements by their claims
abbrev pub here_by : Judging → Here
here_by j = record { leaf = told j.leaf; anchor = told j.anchor; moment = j.moment; end = j.end }

-- by what the marks of a reply are judged
pub record IsJudging (said : Said) (j : Judging) : Type 0 where
  pub ends : HasEnds said (told j.leaf) (told j.anchor)
  pub moment : j.moment ≡ said.iat
  pub end : j.end ≡ said.exp

-- the chain has statements at its ends
pub record CanEnd (chain : Texts) : Type 0 where
  pub first : IsSome (first_of chain)
  pub last : IsSome (last_of chain)

-- ---- marks

-- the keys of a set, where there is one
abbrev pub keys_in : Option JwkSet → Option (List Jwk)
keys_in set = option_map (λ (s : JwkSet). s.keys) set

-- the first of some marks that doesn't stand, or none
abbrev pub IsFirst : Here → List MarkEntry → Option Place → Type 0
IsFirst here marks (Some at) = FlawsFirst here marks at.place at.flaw
IsFirst here marks None = AllStand here marks

-- the same of the marks of a reply, with those that were checked
abbrev pub AreLooked : Said → Looked → Type 0
AreLooked said (Flawed at) = IsFirstFlaw said at.place at.flaw
AreLooked said (Stand checked) = MarksStand said checked

-- ---- beside the chain

-- what is said fits what the chain resolves to, or its first fault
abbrev pub IsSaidFault : Said → Resolved → Option ReplyReason → Type 0
IsSaidFault said r None = (said.sub ≡ r.leaf) × SaysMetadata said r.metadata × (said.exp ≤ r.exp)
IsSaidFault said r (Some Subject) = said.sub ≢ r.leaf
IsSaidFault said r (Some Metadata) = (said.sub ≡ r.leaf) × ¬ SaysMetadata said r.metadata
IsSaidFault said r (Some End) = (said.sub ≡ r.leaf) × SaysMetadata said r.metadata × ¬ (said.exp ≤ r.exp)
IsSaidFault said r (Some reason) = ⊥
