-- What is told of a text as a resolver's reply (OpenID Federation 1.0 section 8.3).
use Rattle.std.specs.Prelude.{◌≡◌, ℕ, zero, suc, List, [], ◌∷◌, ◌++◌, length, codes, decimal, slice_index_or, Bool, true, if◌then◌else◌}
use Rattle.fed_json.specs.Compact.{compact}
use Rattle.trust_mark.specs.declared.verdict.MarkReason.{MarkReason}
use Rattle.trust_mark.specs.declared.verdict.MarkReason.TheVariants as reason
use Rattle.reply_check.specs.Verdicts.{Case, IsVerdictOn}
use Rattle.reply_check.specs.declared.flaw.Flaw.{Flaw}
use Rattle.reply_check.specs.declared.flaw.Flaw.TheVariants.{Bad, Late}
use Rattle.reply_check.specs.declared.verdict.ReplyReason.{ReplyReason}
use Rattle.reply_check.specs.declared.verdict.ReplyReason.TheVariants.{Form, Signature, Chain, Subject, Metadata, End, Mark, Times}
use Rattle.reply_check.specs.declared.verdict.ReplyVerdict.{ReplyVerdict}
use Rattle.reply_check.specs.declared.verdict.ReplyVerdict.TheVariants.{Sound, Refused}
use Rattle.cli_commands.specs.Checks.{reason_text}
use Rattle.cli_rings.specs.Replies.{plain}
use Rattle.cli_rings.specs.declared.reply.Reply.{Reply}

-- the word of each reason for which a mark isn't good (section 7.3)
abbrev pub mark_word : MarkReason → List ℕ
mark_word reason.Form = codes "Form"
mark_word reason.Subject = codes "Subject"
mark_word reason.Kind = codes "Kind"
mark_word reason.Unlisted = codes "Unlisted"
mark_word reason.Issuer = codes "Issuer"
mark_word reason.Times = codes "Times"
mark_word reason.Signature = codes "Signature"
mark_word reason.Delegation = codes "Delegation"

-- what is wrong with a mark
abbrev pub flaw_word : Flaw → List ℕ
flaw_word (Bad reason) = mark_word reason
flaw_word Late = codes "Late"

-- a reason: its name, and of a chain and of a mark the place, counted from 0, and what is wrong there
abbrev pub refusal_text : ReplyReason → List ℕ
refusal_text Form = codes "Form"
refusal_text Signature = codes "Signature"
refusal_text (Chain place reason) = codes "Chain " ++ (decimal place ++ (32 ∷ reason_text reason))
refusal_text Subject = codes "Subject"
refusal_text Metadata = codes "Metadata"
refusal_text End = codes "End"
refusal_text (Mark place flaw) = codes "Mark " ++ (decimal place ++ (32 ∷ flaw_word flaw))
refusal_text Times = codes "Times"

-- the line of a mark whose signature wasn't checked, and none of any other
abbrev pub unchecked_line : List Bool → ℕ → List ℕ
unchecked_line checked place = if slice_index_or checked place true then [] else codes "unchecked " ++ (decimal place ++ 10 ∷ [])

-- those of the first n marks
abbrev pub unchecked_lines : List Bool → ℕ → List ℕ
unchecked_lines checked zero = []
unchecked_lines checked (suc n) = unchecked_lines checked n ++ unchecked_line checked n

-- the lines that are written, each with its line end: of a sound reply the entity and the moment at which it ends (seconds since 1970),
-- its metadata in compact form, and the places of the marks whose signatures weren't checked; of any other the reason
abbrev pub lines_of : ReplyVerdict → List ℕ
lines_of (Sound claimed checked) =
    codes "valid "
    ++ (claimed.said.sub ++ (32 ∷ (decimal claimed.said.exp ++ (10 ∷ (compact claimed.said.metadata ++ (10 ∷ unchecked_lines checked (length checked)))))))
lines_of (Refused reason) = codes "refused " ++ (refusal_text reason ++ 10 ∷ [])

-- 0 for a sound reply, 1 for a refused one
abbrev pub status_of : ReplyVerdict → ℕ
status_of (Sound claimed checked) = 0
status_of (Refused reason) = 1

-- what is told of a text by the verdict on it
abbrev pub report_of : ReplyVerdict → Reply
report_of verdict = plain (status_of verdict) (lines_of verdict)

abbrev pub IsReport : Case → Reply → Type 0
IsReport case reply = (verdict : ReplyVerdict) × IsVerdictOn case verdict × (reply ≡ report_of verdict)
