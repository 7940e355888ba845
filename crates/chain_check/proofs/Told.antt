-- What the stages of a check tell of the texts that were read is the verdict on them.
use Rattle.std.proofs.Common.{◌≡◌, ◌+◌, ℕ, List, length, Result, Ok, Err, sym, ap, subst}
use Rattle.std.specs.Prelude.{is_ok}
use Rattle.jwk_set.specs.declared.jwk.Jwk.{Jwk}
use Rattle.entity_statement.specs.declared.signed.SignedStatement.{SignedStatement}
use Rattle.chain_check.specs.declared.reason.Reason.{Reason}
use Rattle.chain_check.specs.declared.reason.Reason.TheVariants.{Form, Names, Times, Signature, PathLength, Name, Conflict, Policy}
use Rattle.chain_check.specs.declared.verdict.Resolved.{Resolved}
use Rattle.chain_check.specs.declared.verdict.Verdict.TheVariants.{Valid}
use Rattle.chain_check.specs.declared.verdict.Verdict.TheVariants as verdict
use Rattle.fed_base.specs.Places.{FailsFirst}
use Rattle.fed_base.specs.Counts.{CountsAtMost}
use Rattle.chain_check.specs.Chains.{Texts, statements_of}
use Rattle.chain_check.specs.Names.{HasNames, LosesNames}
use Rattle.chain_check.specs.Signatures.{AreCurrent, AreSigned, CurrentAt, NamesOneKey, SignedAt}
use Rattle.chain_check.specs.Validity.{Case, IsWithin, ToLimits, ToSignatures, ToTimes, case_of}
use Rattle.chain_check.specs.Verdicts.{IsFirstFailure, IsResolved, IsVerdictOn}
use Rattle.chain_check.specs.Resolving.{FailsToResolve}
use Rattle.chain_check.specs.Reading.{AreRead, claims_in, texts_in}
use Rattle.chain_check.specs.Stages.{Passes, verdict_in}
use Rattle.chain_check.specs.Counts.{CountsChecks, CountsSigned, CountsVerdict}
use Rattle.chain_check.specs.declared.stop.Stop.{Stop}
use Rattle.chain_check.specs.declared.stop.Stop.TheVariants as stop

-- ---- the names

pub names-told : (texts : Texts) (anchor : List ℕ) (keys : List Jwk) (t : ℕ) (entries : List SignedStatement) → AreRead texts entries → (place : ℕ) (reason : Reason)
    → (reason ≡ Names) × LosesNames (claims_in entries) anchor place → IsFirstFailure (case_of texts anchor keys t) place reason
names-told texts anchor keys t entries read place reason told =
    subst (IsFirstFailure (case_of texts anchor keys t) place) (sym told.0) ((read.form, subst (λ chain. LosesNames chain anchor place) read.statements told.1))

-- ---- how many signatures were checked

module _ (texts : Texts) (anchor : List ℕ) (keys : List Jwk) (t : ℕ) (entries : List SignedStatement) (read : AreRead texts entries) where
  checks-read : (r : Result (Unit {0}) Stop) (before now : ℕ) → CountsChecks (texts_in entries) (claims_in entries) keys r before now → CountsChecks texts (statements_of texts) keys r before now
  checks-read r before now count =
      subst (λ chain. CountsChecks texts chain keys r before now) read.statements (subst (λ ts. CountsChecks ts (claims_in entries) keys r before now) read.same count)

  -- where a text isn't signed, or memory is wanting at its check
  pub counted-unsigned : (stop : Stop) (P : Unit {0} → Type 0) (Q : ℕ → Type 0) (before now : ℕ) → Passes {X = Unit {0}} (Err stop) P (λ place reason. (reason ≡ Signature) × Q place)
      → CountsChecks (texts_in entries) (claims_in entries) keys (Err stop) before now → CountsVerdict (case_of texts anchor keys t) (verdict_in (Err stop)) before now
  counted-unsigned (stop.Refused place reason) P Q before now told count =
      subst (λ r. CountsVerdict (case_of texts anchor keys t) (Ok (verdict.Refused place r)) before now) (sym told.0) (checks-read (Err (stop.Refused place reason)) before now count)
  counted-unsigned stop.Memory P Q before now told count = checks-read (Err stop.Memory) before now count

  -- where all are
  by_outcome : (r : Result Resolved Stop) (P : Resolved → Type 0) (before now : ℕ) → Passes r P (FailsToResolve (claims_in entries))
      → CountsSigned (length texts) (NamesOneKey texts (statements_of texts) keys) before now → CountsAtMost (length texts + 1) before now
      → CountsVerdict (case_of texts anchor keys t) (verdict_in r) before now
  by_outcome (Ok resolved) P before now told all count = all
  by_outcome (Err (stop.Refused place PathLength)) P before now told all count = all
  by_outcome (Err (stop.Refused place Name)) P before now told all count = all
  by_outcome (Err (stop.Refused place (Conflict t p f s))) P before now told all count = all
  by_outcome (Err (stop.Refused place (Policy t p o))) P before now told all count = all
  by_outcome (Err (stop.Refused place Form)) P before now told all count = absurd told
  by_outcome (Err (stop.Refused place Names)) P before now told all count = absurd told
  by_outcome (Err (stop.Refused place Times)) P before now told all count = absurd told
  by_outcome (Err (stop.Refused place Signature)) P before now told all count = absurd told
  by_outcome (Err stop.Memory) P before now told all count = count

  pub counted-told : (r : Result Resolved Stop) (P : Resolved → Type 0) (before now : ℕ) → Passes r P (FailsToResolve (claims_in entries))
      → CountsChecks (texts_in entries) (claims_in entries) keys (Ok tt) before now → CountsVerdict (case_of texts anchor keys t) (verdict_in r) before now
  counted-told r P before now told count = let read : CountsChecks texts (statements_of texts) keys (Ok tt) before now = checks-read (Ok tt) before now count in by_outcome r P before now told read.0 read.1

-- ---- the classes after the names

module _ (texts : Texts) (anchor : List ℕ) (keys : List Jwk) (t : ℕ) (entries : List SignedStatement) (read : AreRead texts entries) (names : HasNames (claims_in entries) anchor) where
  abbrev case : Case
  case = case_of texts anchor keys t

  to_times : ToTimes case
  to_times = (read.form, subst (λ chain. HasNames chain anchor) read.statements names)

  pub times-told : (place : ℕ) (reason : Reason) → (reason ≡ Times) × FailsFirst (CurrentAt (claims_in entries) t) (length (claims_in entries)) place → IsFirstFailure case place reason
  times-told place reason told =
      subst (IsFirstFailure case place) (sym told.0) ((to_times, subst (λ chain. FailsFirst (CurrentAt chain t) (length chain) place) read.statements told.1))

  module _ (current : AreCurrent (claims_in entries) t) where
    to_signatures : ToSignatures case
    to_signatures = (to_times, subst (λ chain. AreCurrent chain t) read.statements current)

    pub signature-told : (place : ℕ) (reason : Reason) → (reason ≡ Signature) × FailsFirst (SignedAt (texts_in entries) (claims_in entries) keys) (length (claims_in entries)) place
        → IsFirstFailure case place reason
    signature-told place reason told =
        subst (IsFirstFailure case place) (sym told.0)
        ((
          to_signatures,
          subst (λ ts. FailsFirst (SignedAt ts (statements_of texts) keys) (length (statements_of texts)) place) read.same
              (subst (λ chain. FailsFirst (SignedAt (texts_in entries) chain keys) (length chain) place) read.statements told.1),
        ))

    module _ (signed : AreSigned (texts_in entries) (claims_in entries) keys) where
      to_limits : ToLimits case
      to_limits = (to_signatures, subst (λ ts. AreSigned ts (statements_of texts) keys) read.same (subst (λ chain. AreSigned (texts_in entries) chain keys) read.statements signed))

      by_reason : (place : ℕ) (reason : Reason) → FailsToResolve (statements_of texts) place reason → IsFirstFailure case place reason
      by_reason place PathLength told = (to_limits, told)
      by_reason place Name told = (to_limits, told)
      by_reason place (Conflict t p f s) told = (to_limits, told)
      by_reason place (Policy t p o) told = (to_limits, told)
      by_reason place Form told = absurd told
      by_reason place Names told = absurd told
      by_reason place Times told = absurd told
      by_reason place Signature told = absurd told

      pub resolve-told : (place : ℕ) (reason : Reason) → FailsToResolve (claims_in entries) place reason → IsFirstFailure case place reason
      resolve-told place reason told = by_reason place reason (subst (λ chain. FailsToResolve chain place reason) read.statements told)

      pub resolved-told : (resolved : Resolved) → IsWithin (claims_in entries) × IsResolved (claims_in entries) resolved → IsVerdictOn case (Valid resolved)
      resolved-told resolved told =
          let within : IsWithin (statements_of texts) = subst IsWithin read.statements told.0 in
          let is : IsResolved (statements_of texts) resolved = subst (λ chain. IsResolved chain resolved) read.statements told.1 in (
            record {
              form = read.form;
              names = to_times.1;
              current = to_signatures.1;
              signed = to_limits.1;
              within = within;
              merges = ap is_ok is.metadata.merged;
              applies = record { metadata = resolved.metadata; resolves = is.metadata };
            },
            is,
          )
