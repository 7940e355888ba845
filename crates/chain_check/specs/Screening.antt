-- What is known of a chain before its signatures are looked at (OpenID Federation 1.0 section 10.2).
use Rattle.std.specs.Prelude.{ℕ, List}
use Rattle.jwk_set.specs.declared.jwk.Jwk.{Jwk}
use Rattle.chain_check.specs.declared.judged.Judged.{Judged}
use Rattle.chain_check.specs.declared.screened.Screened.{Screened}
use Rattle.chain_check.specs.declared.screened.Screened.TheVariants.{Candidate, Refused}
use Rattle.chain_check.specs.declared.tried.Tried.{Tried}
use Rattle.chain_check.specs.declared.verdict.Verdict.{Verdict}
use Rattle.chain_check.specs.declared.verdict.Verdict.TheVariants as verdict
use Rattle.chain_check.specs.Chains.{Texts}
use Rattle.chain_check.specs.Judging.{IsJudgementOn, texts_of}
use Rattle.chain_check.specs.Reading.{AreRead}
use Rattle.chain_check.specs.Validity.{Case, ToSignatures, case_of}
use Rattle.chain_check.specs.Verdicts.{IsFirstFailure}

-- the chain passes the classes before Signature, and these are its statements; or this is its first failure, in one of them
abbrev pub IsScreeningOf : Case → Screened → Type 0
IsScreeningOf case (Candidate entries) = ToSignatures case × AreRead case.texts entries
IsScreeningOf case (Refused place reason) = IsFirstFailure case place reason × ¬ ToSignatures case

-- no key is looked at, so this holds of each
abbrev pub IsScreening : Texts → List ℕ → ℕ → Screened → Type 0
IsScreening texts anchor t screened = (keys : List Jwk) → IsScreeningOf (case_of texts anchor keys t) screened

-- what holds of a refusal, where it is one
abbrev pub IfRefused : Screened → (Verdict → Type 0) → Type 0
IfRefused (Candidate entries) P = Unit {0}
IfRefused (Refused place reason) P = P (verdict.Refused place reason)

-- the judgement on the texts, for each anchor and moment at which they pass the classes before Signature
abbrev pub JudgesCandidate : List Tried → List Jwk → Judged → Type 0
JudgesCandidate chain keys judged =
    (anchor : List ℕ) (t : ℕ) → ToSignatures (case_of (texts_of chain) anchor keys t) → IsJudgementOn (case_of (texts_of chain) anchor keys t) chain judged
