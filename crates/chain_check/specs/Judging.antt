-- What is known of a chain where no signature is checked, and the first signature that isn't known (OpenID Federation 1.0 section 10.2).
use Rattle.std.specs.Prelude.{◌≡◌, ◌≤◌, ℕ, zero, suc, List, [], map, length, All, Contains, Some, slice_get}
use Rattle.jwk_set.specs.declared.jwk.Jwk.{Jwk}
use Rattle.sealed.specs.Seals.{Pair}
use Rattle.sealed.specs.Tests.{key_in}
use Rattle.entity_statement.specs.Claims.{Claims}
use Rattle.chain_check.specs.declared.tried.Tried.{Tried}
use Rattle.chain_check.specs.declared.judged.Judged.{Judged}
use Rattle.chain_check.specs.declared.judged.Judged.TheVariants.{Told, Untried}
use Rattle.chain_check.specs.declared.verdict.Verdict.{Verdict}
use Rattle.fed_base.specs.Places.{HoldsBelow}
use Rattle.chain_check.specs.Chains.{Texts}
use Rattle.chain_check.specs.Signatures.{keys_at, superior_keys}
use Rattle.chain_check.specs.Validity.{Case, ToSignatures, chain_of}
use Rattle.chain_check.specs.Verdicts.{IsVerdictOn}

-- each pair that is known of a text is one of this text
pub record IsOfItsText (tried : Tried) : Type 0 where
  pub seals : All (λ (seal : Pair). seal.text ≡ tried.text) tried.seals
  pub misses : All (λ (miss : Pair). miss.text ≡ tried.text) tried.misses

abbrev pub text_in : Tried → List ℕ
text_in tried = tried.text

abbrev pub texts_of : List Tried → Texts
texts_of = map text_in

-- the seals that a chain of n texts needs, in order: at 0 the leaf's by its own keys, at j + 1 that of the text at place j by its
-- superior's keys
abbrev pub seal_place : ℕ → ℕ
seal_place zero = zero
seal_place (suc j) = j

abbrev pub seal_keys : List Claims → List Jwk → ℕ → List Jwk
seal_keys chain keys zero = keys_at chain 0 []
seal_keys chain keys (suc j) = superior_keys chain keys j

abbrev pub pair_of : Tried → List ℕ → Pair
pair_of tried public = record { text = tried.text; public = public }

-- the text is sealed by the key of these that its header names, as is known
pub record IsKnownSeal (keys : List Jwk) (tried : Tried) : Type 0 where
  pub public : List ℕ
  pub named : key_in keys tried.text ≡ Some public
  pub stands : Contains tried.seals (pair_of tried public)

-- its header names this key, and of the pair nothing is known
pub record IsUnknown (keys : List Jwk) (tried : Tried) (public : List ℕ) : Type 0 where
  pub named : key_in keys tried.text ≡ Some public
  pub no_seal : ¬ Contains tried.seals (pair_of tried public)
  pub no_miss : ¬ Contains tried.misses (pair_of tried public)

-- a fact of the text and the keys of a needed seal
abbrev pub AtSeal : (List Jwk → Tried → Type 0) → List Tried → List Claims → List Jwk → ℕ → Type 0
AtSeal P texts chain keys i = (tried : Tried) × (slice_get texts (seal_place i) ≡ Some tried) × P (seal_keys chain keys i) tried

-- the seals before one are known, and the key at the place that this one needs is untried
pub record IsUntriedFirst (texts : List Tried) (chain : List Claims) (keys : List Jwk) (place : ℕ) (public : List ℕ) : Type 0 where
  pub seal : ℕ
  pub within : seal ≤ length texts
  pub at : place ≡ seal_place seal
  pub before : HoldsBelow (AtSeal IsKnownSeal texts chain keys) seal
  pub here : AtSeal (λ keys tried. IsUnknown keys tried public) texts chain keys seal

-- the chain passes the classes before Signature, and a seal that it needs is unknown before any is known to fail
abbrev pub NeedsTest : Case → List Tried → ℕ → List ℕ → Type 0
NeedsTest case texts place public = ToSignatures case × IsUntriedFirst texts (chain_of case) case.keys place public

-- the answer: the verdict exactly where no test is needed, else the first test
abbrev pub IsJudgementOn : Case → List Tried → Judged → Type 0
IsJudgementOn case texts (Told verdict) = IsVerdictOn case verdict × ((place : ℕ) (public : List ℕ) → ¬ NeedsTest case texts place public)
IsJudgementOn case texts (Untried place public) = NeedsTest case texts place public

-- what holds of the verdict, where one is told
abbrev pub IfTold : Judged → (Verdict → Type 0) → Type 0
IfTold (Told verdict) P = P verdict
IfTold (Untried place public) P = Unit {0}
