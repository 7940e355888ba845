-- What the stages of a judgement tell of a candidate's statements is the judgement on its texts.
use Rattle.std.proofs.Common.{◌≡◌, ℕ, List, length, sym, subst}
use Rattle.jwk_set.specs.declared.jwk.Jwk.{Jwk}
use Rattle.entity_statement.specs.declared.signed.SignedStatement.{SignedStatement}
use Rattle.chain_check.specs.declared.reason.Reason.{Reason}
use Rattle.chain_check.specs.declared.tried.Tried.{Tried}
use Rattle.chain_check.specs.declared.judged.Judged.TheVariants.{Told, Untried}
use Rattle.chain_check.specs.declared.verdict.Resolved.{Resolved}
use Rattle.chain_check.specs.declared.verdict.Verdict.{Verdict}
use Rattle.chain_check.specs.declared.verdict.Verdict.TheVariants.{Refused, Valid}
use Rattle.fed_base.specs.Places.{FailsFirst}
use Rattle.chain_check.specs.Names.{HasNames}
use Rattle.chain_check.specs.Signatures.{AreCurrent, AreSigned, SignedAt}
use Rattle.chain_check.specs.Validity.{Case, IsWithin, ToSignatures, case_of}
use Rattle.chain_check.specs.Verdicts.{IsResolved, IsVerdictOn}
use Rattle.chain_check.specs.Judging.{IsJudgementOn, IsUntriedFirst, NeedsTest, texts_of}
use Rattle.chain_check.specs.Reading.{AreRead, claims_in, texts_in}
use Rattle.chain_check.specs.Resolving.{FailsToResolve}
use Rattle.chain_check.specs.Screening.{JudgesCandidate}
use Rattle.chain_check.specs.Stages.{FailsUntried, NoTest}
use Rattle.chain_check.proofs.Told.{resolve-told, resolved-told, signature-told}

module _ (chain : List Tried) (keys : List Jwk) (entries : List SignedStatement) (read : AreRead (texts_of chain) entries) where
  module _ (anchor : List ℕ) (t : ℕ) (to : ToSignatures (case_of (texts_of chain) anchor keys t)) where
    abbrev case : Case
    case = case_of (texts_of chain) anchor keys t

    names : HasNames (claims_in entries) anchor
    names = subst (λ claims. HasNames claims anchor) (sym read.statements) to.0.1

    current : AreCurrent (claims_in entries) t
    current = subst (λ claims. AreCurrent claims t) (sym read.statements) to.1

    verdict_judged : NoTest chain (claims_in entries) keys → (verdict : Verdict) → IsVerdictOn case verdict → IsJudgementOn case chain (Told verdict)
    verdict_judged none verdict is = (is, λ place public need. none place public (subst (λ claims. IsUntriedFirst chain claims keys place public) (sym read.statements) need.1))

    signature_at : (place : ℕ) (reason : Reason) → FailsUntried chain (claims_in entries) keys place reason → IsJudgementOn case chain (Told (Refused place reason))
    signature_at place reason told =
        verdict_judged told.2 (Refused place reason)
        (signature-told (texts_of chain) anchor keys t entries read names current place reason
        ((told.0, subst (λ texts. FailsFirst (SignedAt texts (claims_in entries) keys) (length (claims_in entries)) place) (sym read.same) told.1)))

    module _ (told : AreSigned (texts_of chain) (claims_in entries) keys × NoTest chain (claims_in entries) keys) where
      signed : AreSigned (texts_in entries) (claims_in entries) keys
      signed = subst (λ texts. AreSigned texts (claims_in entries) keys) (sym read.same) told.0

      resolve_at : (place : ℕ) (reason : Reason) → FailsToResolve (claims_in entries) place reason → IsJudgementOn case chain (Told (Refused place reason))
      resolve_at place reason fails = verdict_judged told.1 (Refused place reason) (resolve-told (texts_of chain) anchor keys t entries read names current signed place reason fails)

      resolved_at : (resolved : Resolved) → IsWithin (claims_in entries) × IsResolved (claims_in entries) resolved → IsJudgementOn case chain (Told (Valid resolved))
      resolved_at resolved is = verdict_judged told.1 (Valid resolved) (resolved-told (texts_of chain) anchor keys t entries read names current signed resolved is)

  pub signature-judged : (place : ℕ) (reason : Reason) → FailsUntried chain (claims_in entries) keys place reason → JudgesCandidate chain keys (Told (Refused place reason))
  signature-judged place reason told anchor t to = signature_at anchor t to place reason told

  pub untried-judged : (place : ℕ) (public : List ℕ) → IsUntriedFirst chain (claims_in entries) keys place public → JudgesCandidate chain keys (Untried place public)
  untried-judged place public first anchor t to = (to, subst (λ claims. IsUntriedFirst chain claims keys place public) read.statements first)

  module _ (told : AreSigned (texts_of chain) (claims_in entries) keys × NoTest chain (claims_in entries) keys) where
    pub resolve-judged : (place : ℕ) (reason : Reason) → FailsToResolve (claims_in entries) place reason → JudgesCandidate chain keys (Told (Refused place reason))
    resolve-judged place reason fails anchor t to = resolve_at anchor t to told place reason fails

    pub resolved-judged : (resolved : Resolved) → IsWithin (claims_in entries) × IsResolved (claims_in entries) resolved → JudgesCandidate chain keys (Told (Valid resolved))
    resolved-judged resolved is anchor t to = resolved_at anchor t to told resolved is
