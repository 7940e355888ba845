-- What the stages of a check say of the texts that were read, and what each answers.
use Rattle.std.specs.Prelude.{◌≡◌, ℕ, List, length, map, Option, Some, None, All, Bool, true, false, Result, Ok, Err}
use Rattle.entity_statement.specs.Claims.{Claims}
use Rattle.entity_statement.specs.Signed.{IsSplit}
use Rattle.entity_statement.specs.Told.{told}
use Rattle.chain_check.specs.declared.reason.Reason.{Reason}
use Rattle.chain_check.specs.declared.reason.Reason.TheVariants.{Signature}
use Rattle.fed_base.specs.declared.faults.Memory.{Memory as NoMemory}
use Rattle.entity_statement.specs.declared.signed.SignedStatement.{SignedStatement}
use Rattle.chain_check.specs.declared.verdict.Resolved.{Resolved}
use Rattle.chain_check.specs.declared.verdict.Verdict.{Verdict}
use Rattle.chain_check.specs.declared.verdict.Verdict.TheVariants as verdict
use Rattle.chain_check.specs.declared.stop.Stop.{Stop}
use Rattle.chain_check.specs.declared.stop.Stop.TheVariants.{Refused, Memory}
use Rattle.jwk_set.specs.declared.jwk.Jwk.{Jwk}
use Rattle.sealed.specs.Seals.{IsSealedBy, Pair}
use Rattle.chain_check.specs.declared.tried.Tried.{Tried}
use Rattle.chain_check.specs.declared.known.Known.{Known}
use Rattle.chain_check.specs.declared.known.Known.TheVariants as known
use Rattle.chain_check.specs.declared.known.Test.{Test}
use Rattle.fed_base.specs.Places.{FailsFirst}
use Rattle.chain_check.specs.Signatures.{AreSigned, SignedAt}
use Rattle.chain_check.specs.Judging.{IsKnownSeal, IsUnknown, IsUntriedFirst, texts_of}
use Rattle.chain_check.specs.Chains.{Texts, HasForm, statements_of}

-- Ok where the stage is passed, else the place and the reason of a failure; of want of memory nothing is said
abbrev pub Passes : {X : Type 0} → Result X Stop → (X → Type 0) → (ℕ → Reason → Type 0) → Type 0
Passes (Ok x) passed failed = passed x
Passes (Err (Refused place reason)) passed failed = failed place reason
Passes (Err Memory) passed failed = Unit {0}

-- the verdict that a check comes to
abbrev pub verdict_in : Result Resolved Stop → Result Verdict NoMemory
verdict_in (Ok resolved) = Ok (verdict.Valid resolved)
verdict_in (Err (Refused place reason)) = Ok (verdict.Refused place reason)
verdict_in (Err Memory) = Err (record {})

-- what is known of a text under the keys of a set
pub record IsKnownFailure (keys : List Jwk) (tried : Tried) : Type 0 where
  pub fails : ¬ IsSealedBy tried.text keys
  pub no_seal : ¬ IsKnownSeal keys tried
  pub no_test : (public : List ℕ) → ¬ IsUnknown keys tried public

abbrev pub IsKnown : List Jwk → Tried → Known → Type 0
IsKnown keys tried known.Sealed = IsKnownSeal keys tried × IsSealedBy tried.text keys
IsKnown keys tried known.Unsealed = IsKnownFailure keys tried
IsKnown keys tried (known.Untried public) = IsUnknown keys tried public

-- no test is wanted
abbrev pub NoTest : List Tried → List Claims → List Jwk → Type 0
NoTest texts chain keys = (place : ℕ) (public : List ℕ) → ¬ IsUntriedFirst texts chain keys place public

-- the first test that is wanted, and none only where each text is known to be signed
abbrev pub TestsFirst : List Tried → List Claims → List Jwk → Option Test → Type 0
TestsFirst texts chain keys (Some test) = IsUntriedFirst texts chain keys test.place test.public
TestsFirst texts chain keys None = AreSigned (texts_of texts) chain keys × NoTest texts chain keys

-- a text isn't signed, as is known before any test is wanted
abbrev pub FailsUntried : List Tried → List Claims → List Jwk → ℕ → Reason → Type 0
FailsUntried texts chain keys place reason = (reason ≡ Signature) × FailsFirst (SignedAt (texts_of texts) chain keys) (length chain) place × NoTest texts chain keys
