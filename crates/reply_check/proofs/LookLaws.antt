-- From what looking at the marks answers to what is said of them.
use Rattle.std.proofs.Common.{◌≡◌, ◌<◌, ◌+◌, ℕ, List, [], length, map, get_or, Bool, false, Option, Some, None, is_some, below_more, ap, ap₂, ◌∙◌, subst, unwrap_or}
use Rattle.std.specs.Option.{option_and_then, option_map_or}
use Rattle.fed_base.specs.Places.{HoldsBelow}
use Rattle.jwk_set.specs.declared.jwk.Jwk.{Jwk}
use Rattle.entity_statement.specs.Told.{told}
use Rattle.entity_statement.specs.declared.marks.MarkEntry.{MarkEntry}
use Rattle.trust_mark.specs.Marks.{case_of, mark_of}
use Rattle.trust_mark.specs.Verdicts.{IsVerdictOn}
use Rattle.trust_mark.specs.declared.mark.Mark.{Mark}
use Rattle.trust_mark.specs.declared.verdict.MarkVerdict.{MarkVerdict}
use Rattle.resolve_reply.specs.declared.said.Said.{Said}
use Rattle.reply_check.specs.declared.flaw.Flaw.{Flaw}
use Rattle.reply_check.specs.declared.judging.Judging.{Judging}
use Rattle.reply_check.specs.Marks.{AllStand, FlawsFirst, Here, IsFirstFlaw, IsFlaw, MarksStand, Stands, StandsAt, ends_before, flaw_by, here_of, is_checked, is_late, issuer_keys, known_keys, reason_by}
use Rattle.reply_check.specs.Stages.{IsJudging, here_by}
use Rattle.reply_check.proofs.MarkLaws.{none-stands}
use Rattle.reply_check.proofs.PlaceLaws.{at-place, there-at}

-- ---- one entry

pub flaw-is : (here : Here) (entry : MarkEntry) (mark : Option Mark) (late checked : Bool) (keys : Option (List Jwk)) (verdict : MarkVerdict) (flaw : Option Flaw)
    → mark ≡ mark_of entry.text → late ≡ option_map_or (ends_before here.end) mark false
    → keys ≡ option_and_then (λ (m : Mark). known_keys here m.iss) mark → checked ≡ is_some keys
    → IsVerdictOn (case_of entry here.leaf.sub here.anchor (unwrap_or keys []) here.moment) verdict → flaw ≡ flaw_by (reason_by checked verdict) late
    → IsFlaw here entry flaw
unfolding issuer_keys is_late
flaw-is here entry mark late checked keys verdict flaw mark-is late-is keys-are checked-is is flaw-by =
    let same : keys ≡ option_and_then (λ (m : Mark). known_keys here m.iss) (mark_of entry.text) = keys-are ∙ ap (option_and_then (λ (m : Mark). known_keys here m.iss)) mark-is in (
      verdict,
      subst (λ (k : Option (List Jwk)). IsVerdictOn (case_of entry here.leaf.sub here.anchor (unwrap_or k []) here.moment) verdict) same is,
      flaw-by ∙ ap₂ (λ c l. flaw_by (reason_by c verdict) l) (checked-is ∙ ap is_some same) (late-is ∙ ap (λ (m : Option Mark). option_map_or (ends_before here.end) m false) mark-is),
    )

pub checked-is : (here : Here) (entry : MarkEntry) (mark : Option Mark) (keys : Option (List Jwk)) (checked : Bool) → mark ≡ mark_of entry.text
    → keys ≡ option_and_then (λ (m : Mark). known_keys here m.iss) mark → checked ≡ is_some keys → checked ≡ is_checked here entry
unfolding issuer_keys
checked-is here entry mark keys checked mark-is keys-are is =
    is ∙ ap is_some (keys-are ∙ ap (option_and_then (λ (m : Mark). known_keys here m.iss)) mark-is)

-- ---- place by place

pub stands-more : (here : Here) (marks : List MarkEntry) (i : ℕ) (entry : MarkEntry) → i < length marks → entry ≡ get_or marks i entry
    → HoldsBelow (StandsAt here marks) i → IsFlaw here entry None → HoldsBelow (StandsAt here marks) (i + 1)
stands-more here marks i entry less is before none =
    below_more (StandsAt here marks) i before (at-place (Stands here) marks i entry less is (none-stands here entry none))

pub flaws-at : (here : Here) (marks : List MarkEntry) (i : ℕ) (entry : MarkEntry) (flaw : Flaw) → i < length marks → entry ≡ get_or marks i entry
    → HoldsBelow (StandsAt here marks) i → IsFlaw here entry (Some flaw) → FlawsFirst here marks i flaw
flaws-at here marks i entry flaw less is before has = record { entry = entry; there = there-at marks i entry less is; before = before; has = has }

-- ---- of a reply

here-same : (said : Said) (j : Judging) → IsJudging said j → here_by j ≡ here_of said (told j.leaf) (told j.anchor)
here-same said j is =
    let make : ℕ → ℕ → Here = λ m e. record { leaf = told j.leaf; anchor = told j.anchor; moment = m; end = e } in
    ap₂ make is.moment is.end

pub looked-flaw : (said : Said) (j : Judging) (place : ℕ) (flaw : Flaw) → IsJudging said j → FlawsFirst (here_by j) said.marks place flaw → IsFirstFlaw said place flaw
looked-flaw said j place flaw is first =
    record { leaf = told j.leaf; anchor = told j.anchor; ends = is.ends; first = subst (λ here. FlawsFirst here said.marks place flaw) (here-same said j is) first }

pub looked-stand : (said : Said) (j : Judging) (checked : List Bool) → IsJudging said j → AllStand (here_by j) said.marks
    → checked ≡ map (is_checked (here_by j)) said.marks → MarksStand said checked
looked-stand said j checked is all are = record {
  leaf = told j.leaf;
  anchor = told j.anchor;
  ends = is.ends;
  stand = subst (λ here. AllStand here said.marks) (here-same said j is) all;
  checked_are = are ∙ ap (λ here. map (is_checked here) said.marks) (here-same said j is);
}
