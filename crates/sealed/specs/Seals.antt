-- A text and a key under which it verifies, or doesn't (RFC 7515 section 5.2).
use Rattle.std.specs.Prelude.{◌≡◌, ℕ, List, Option, Some}
use Rattle.std.specs.Option.{option_and_then}
use Rattle.jws_form.specs.declared.compact.Compact.{Compact}
use Rattle.jws_form.specs.Compact.{IsCompact}
use Rattle.jwk_set.specs.declared.jwk.Jwk.{Jwk}
use Rattle.jwk_set.specs.KeySets.{key_named}
use Rattle.slh_dsa.specs.Verifying.{Verifies}

-- a text and a public key
pub record Pair : Type 0 where
  pub text : List ℕ
  pub public : List ℕ

-- the pair of a text and a key
abbrev pub pair_of : List ℕ → List ℕ → Pair
pair_of text public = record { text = text; public = public }

-- the text is a compact text, and its signature verifies under the key in the algorithm that its header names (RFC 7515 section 4.1.1)
pub record IsSealed (pair : Pair) : Type 0 where
  pub compact : Compact
  pub splits : IsCompact pair.text compact
  pub verifies : Verifies compact.alg pair.public compact.signed compact.signature

-- the text is a compact text, and its signature doesn't verify under the key in that algorithm
pub record IsUnsealed (pair : Pair) : Type 0 where
  pub compact : Compact
  pub splits : IsCompact pair.text compact
  pub fails : ¬ Verifies compact.alg pair.public compact.signed compact.signature

-- the own key that the header names, of the algorithm that it names (RFC 7515 sections 4.1.1 and 4.1.4)
abbrev pub named_key : Compact → List Jwk → Option (List ℕ)
named_key compact keys = option_and_then (λ kid. key_named kid compact.alg keys) compact.kid

-- the text is sealed by an own key of the set, the one that its header names
pub record IsSealedBy (text : List ℕ) (keys : List Jwk) : Type 0 where
  pub compact : Compact
  pub splits : IsCompact text compact
  pub public : List ℕ
  pub named : named_key compact keys ≡ Some public
  pub verifies : Verifies compact.alg public compact.signed compact.signature
