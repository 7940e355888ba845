-- How many signatures a check of a chain checks: each pair of a text and a key that it needs once, up to the first that fails.
use Rattle.std.specs.Prelude.{◌≡◌, ◌+◌, ℕ, zero, suc, List, [], length, Bool, true, false, Result, Ok, Err, MatchResult, IsSome, slice_index_or}
use Rattle.fed_base.specs.Counts.{CountsAtMost, counted}
use Rattle.fed_base.specs.declared.faults.Memory.{Memory as NoMemory}
use Rattle.jwk_set.specs.declared.jwk.Jwk.{Jwk}
use Rattle.sealed.specs.Seals.{IsSealedBy}
use Rattle.sealed.specs.Tests.{key_in, tests_under}
use Rattle.entity_statement.specs.Claims.{Claims}
use Rattle.chain_check.specs.declared.reason.Reason.TheVariants.{Form, Names, Times, Signature}
use Rattle.chain_check.specs.declared.stop.Stop.{Stop}
use Rattle.chain_check.specs.declared.stop.Stop.TheVariants as stop
use Rattle.chain_check.specs.declared.verdict.Verdict.{Verdict}
use Rattle.chain_check.specs.declared.verdict.Verdict.TheVariants.{Refused}
use Rattle.chain_check.specs.Chains.{Texts}
use Rattle.chain_check.specs.Signatures.{NamesOneKey, keys_at, superior_keys}
use Rattle.chain_check.specs.Validity.{Case, chain_of}

-- the checks of n texts that are signed: one each, and one more of the leaf's where its header doesn't name one key in its own set and its
-- superior's
abbrev pub CountsSigned : ℕ → Type 0 → ℕ → ℕ → Type 0
CountsSigned zero one before now = now ≡ before
CountsSigned (suc n) one before now = (one → now ≡ counted (suc n) before) × (¬ one → now ≡ counted (suc (suc n)) before)

-- the header of a text names a key in its own set, and one in its superior's
abbrev pub NamesBoth : List ℕ → List Jwk → List Jwk → Type 0
NamesBoth text own superior = IsSome (key_in own text) × IsSome (key_in superior text)

-- the checks of a leaf's text that isn't signed: none where no key is named in one of the two sets, else its own key's, and then its
-- superior's
pub record CountsLeaf (text : List ℕ) (own superior : List Jwk) (before now : ℕ) : Type 0 where
  pub none : ¬ NamesBoth text own superior → now ≡ before
  pub first : NamesBoth text own superior → ¬ IsSealedBy text own → now ≡ counted 1 before
  pub both : NamesBoth text own superior → IsSealedBy text own → now ≡ counted 2 before

-- the checks up to the first text that isn't signed, which stands at the place
abbrev pub CountsUnsigned : Texts → List Claims → List Jwk → ℕ → ℕ → ℕ → Type 0
CountsUnsigned texts chain keys zero before now = CountsLeaf (slice_index_or texts 0 []) (keys_at chain 0 []) (superior_keys chain keys 0) before now
CountsUnsigned texts chain keys (suc j) before now =
    (below : ℕ) × CountsSigned (suc j) (NamesOneKey texts chain keys) before below
    × (now ≡ counted (tests_under (superior_keys chain keys (suc j)) (slice_index_or texts (suc j) [])) below)

-- what a check of a chain counts by its verdict: nothing where a class before Signature fails; for want of memory it may end early
abbrev pub CountsVerdict : Case → Result Verdict NoMemory → ℕ → ℕ → Type 0
CountsVerdict case (Ok (Refused place Form)) before now = now ≡ before
CountsVerdict case (Ok (Refused place Names)) before now = now ≡ before
CountsVerdict case (Ok (Refused place Times)) before now = now ≡ before
CountsVerdict case (Ok (Refused place Signature)) before now = CountsUnsigned case.texts (chain_of case) case.keys place before now
CountsVerdict case (Ok _) before now = CountsSigned (length case.texts) (NamesOneKey case.texts (chain_of case) case.keys) before now
CountsVerdict case (Err _) before now = CountsAtMost (length case.texts + 1) before now

-- what the stages count: the check of one text under one set of keys,
abbrev pub CountsTest : List Jwk → List ℕ → Result Bool NoMemory → ℕ → ℕ → Type 0
CountsTest keys text result before now = MatchResult result (λ _. now ≡ counted (tests_under keys text) before) (λ _. now ≡ before)

-- those of the leaf's text,
abbrev pub CountsBoth : List ℕ → List Jwk → List Jwk → Result Bool NoMemory → ℕ → ℕ → Type 0
CountsBoth text own superior (Ok true) before now = CountsSigned 1 (key_in own text ≡ key_in superior text) before now × CountsAtMost 2 before now
CountsBoth text own superior (Ok false) before now = CountsLeaf text own superior before now
CountsBoth text own superior (Err _) before now = CountsAtMost 1 before now

-- and those of all
abbrev pub CountsChecks : Texts → List Claims → List Jwk → Result (Unit {0}) Stop → ℕ → ℕ → Type 0
CountsChecks texts chain keys (Ok _) before now = CountsSigned (length texts) (NamesOneKey texts chain keys) before now × CountsAtMost (length texts + 1) before now
CountsChecks texts chain keys (Err (stop.Refused place reason)) before now = CountsUnsigned texts chain keys place before now
CountsChecks texts chain keys (Err stop.Memory) before now = CountsAtMost (length texts + 1) before now
