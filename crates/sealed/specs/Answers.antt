-- What a test of a text answers.
use Rattle.std.specs.Prelude.{◌≡◌, ℕ, List, Some, None, Bool, true, false, Result, Ok, Err}
use Rattle.fed_base.specs.declared.faults.Memory.{Memory as NoMemory}
use Rattle.jws_form.specs.declared.compact.Compact.{Compact}
use Rattle.jwk_set.specs.declared.jwk.Jwk.{Jwk}
use Rattle.slh_dsa.specs.Verifying.{Verifies}
use Rattle.sealed.specs.declared.fault.SealFault.{SealFault}
use Rattle.sealed.specs.declared.fault.SealFault.TheVariants.{NoKid, NoKey, BadSignature, Memory}
use Rattle.sealed.specs.declared.tested.Tested.{Tested}
use Rattle.sealed.specs.declared.tested.Tested.TheVariants.{Yes, No}
use Rattle.sealed.specs.Seals.{Pair, pair_of, named_key}

-- the signature verifies under the key, in the algorithm that the header names (RFC 7515 section 5.2, step 8)
abbrev pub HasSignature : Compact → List ℕ → Type 0
HasSignature compact public = Verifies compact.alg public compact.signed compact.signature

-- Yes exactly where the signature verifies
abbrev pub IsTested : Compact → List ℕ → Tested → Type 0
IsTested compact public (Yes seal) = (seal ≡ pair_of compact.whole public) × HasSignature compact public
IsTested compact public (No miss) = (miss ≡ pair_of compact.whole public) × ¬ HasSignature compact public

-- the answer for a text under the keys of a set: each comes only where it says, and no two say the same
abbrev pub IsChecked : Compact → List Jwk → Result Pair SealFault → Type 0
IsChecked compact keys (Ok seal) =
    (named_key compact keys ≡ Some seal.public) × (seal ≡ pair_of compact.whole seal.public) × HasSignature compact seal.public
IsChecked compact keys (Err NoKid) = compact.kid ≡ None
IsChecked compact keys (Err NoKey) = (kid : List ℕ) × (compact.kid ≡ Some kid) × (named_key compact keys ≡ None)
IsChecked compact keys (Err BadSignature) =
    (public : List ℕ) × (named_key compact keys ≡ Some public) × ¬ HasSignature compact public
IsChecked compact keys (Err Memory) = Unit {0}

-- Ok exactly where the fact holds, unless memory was wanting
abbrev pub Decides : {X : Type 0} → Result X SealFault → Type 0 → Type 0
Decides (Ok x) P = P
Decides (Err Memory) P = Unit {0}
Decides (Err fault) P = ¬ P

-- whether a check found a seal, unless memory was wanting
abbrev pub Tells : {X : Type 0} → Result X SealFault → Result Bool NoMemory → Type 0
Tells (Ok seal) sealed = sealed ≡ Ok true
Tells (Err Memory) sealed = sealed ≡ Err (record {})
Tells (Err fault) sealed = sealed ≡ Ok false

-- a signature was checked
abbrev pub was_checked : {X : Type 0} → Result X SealFault → Bool
was_checked (Ok seal) = true
was_checked (Err BadSignature) = true
was_checked (Err fault) = false
