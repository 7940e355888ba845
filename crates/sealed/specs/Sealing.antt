-- The text that a key pair seals claims, or any payload, as (RFC 7515 section 5.1).
use Rattle.std.specs.Prelude.{◌≡◌, ◌≤◌, ℕ, List, [], ◌∷◌, length, codes, Some, IsSome}
use Rattle.fed_base.specs.declared.algorithm.Alg.{Alg}
use Rattle.fed_json.specs.declared.tree.Json.{Json, Object}
use Rattle.fed_json.specs.Compact.{compact}
use Rattle.jws_form.specs.declared.compact.Compact.{Compact}
use Rattle.jws_form.specs.Compact.{IsCompact, IsJoined, max_bytes, signing_input_of, joined}
use Rattle.jws_form.specs.Header.{algorithm}
use Rattle.fed_json.specs.Members.{text_member}
use Rattle.fed_json.specs.Trees.{as_object}
use Rattle.jwk_set.specs.declared.jwk.Jwk.{Jwk}
use Rattle.jwk_set.specs.KeySets.{key_named}
use Rattle.jwk_set.specs.Thumbprints.{thumbprint_of}
use Rattle.slh_dsa.specs.Algorithms.{set_of}
use Rattle.slh_dsa.specs.Keys.{Keys, public_key}
use Rattle.slh_dsa.specs.Signing.{signature_of}
use Rattle.slh_dsa.specs.Verifying.{Verifies}
use Rattle.sealed.specs.Seals.{IsSealedBy}

-- the claims are an object (RFC 7519 section 4)
abbrev pub IsObject : Json → Type 0
IsObject claims = IsSome (as_object claims)

-- the public key of a signer (FIPS 205 section 9.1)
abbrev pub signer_key : Keys → List ℕ
signer_key keys = public_key (set_of keys.alg) keys.seeds

-- its name: the thumbprint of that key (RFC 7638)
unfoldable pub signer_name : Keys → List ℕ
signer_name keys = thumbprint_of keys.alg (signer_key keys)

-- the header, with its members in byte order (RFC 7515 section 4.1)
abbrev pub header_of : Alg → List ℕ → List ℕ → Json
header_of alg kid typ = Object
    (text_member (codes "alg") (algorithm alg) ∷ text_member (codes "kid") kid ∷ text_member (codes "typ") typ ∷ [])

-- what is signed: the header and the payload (RFC 7515 section 5.1)
unfoldable pub signed_of : Keys → List ℕ → List ℕ → List ℕ
signed_of keys typ payload = signing_input_of (compact (header_of keys.alg (signer_name keys) typ)) payload

-- the signature that these keys make of a text (FIPS 205 section 10.2.1)
abbrev pub signature_by : Keys → List ℕ → List ℕ
signature_by keys signed = signature_of (set_of keys.alg) keys.seeds signed

-- the header, the payload and their signature (RFC 7515 section 7.1)
unfoldable pub sealed_payload : Keys → List ℕ → List ℕ → List ℕ
sealed_payload keys typ payload = joined (signed_of keys typ payload) (signature_by keys (signed_of keys typ payload))

-- the same of claims, as compact JSON
abbrev pub sealed_text : Keys → List ℕ → Json → List ℕ
sealed_text keys typ claims = sealed_payload keys typ (compact claims)

-- the text is a compact text that has its signer's algorithm, this type, its signer's name and this payload (RFC 7515 section 5.2)
pub record HasParts (keys : Keys) (typ payload text : List ℕ) : Type 0 where
  pub parts : Compact
  pub splits : IsCompact text parts
  pub signed_in : parts.alg ≡ keys.alg
  pub typed : parts.typ ≡ Some typ
  pub named : parts.kid ≡ Some (signer_name keys)
  pub says : parts.payload ≡ payload

-- a text of these keys is short enough to be taken apart, and the set has the signer's key under its name and its algorithm
-- (RFC 7515 section 4.1.4)
pub record IsSealable (keys : Keys) (text : List ℕ) (set : List Jwk) : Type 0 where
  pub short : length text ≤ max_bytes
  pub named : key_named (signer_name keys) keys.alg set ≡ Some (signer_key keys)

-- the text is sealed by each such set (RFC 7515 section 5.2)
abbrev pub IsSealedFor : Keys → List ℕ → Type 0
IsSealedFor keys text = (set : List Jwk) → IsSealable keys text set → IsSealedBy text set

-- the text, whatever its length, is a header with its signer's algorithm, this type and its signer's name, this payload, and a signature
-- over both that verifies under its signer's key (RFC 7515 sections 5.1 and 5.2)
pub record IsSignedAs (keys : Keys) (typ payload text : List ℕ) : Type 0 where
  pub parts : Compact
  pub joins : IsJoined text parts
  pub signed_in : parts.alg ≡ keys.alg
  pub typed : parts.typ ≡ Some typ
  pub named : parts.kid ≡ Some (signer_name keys)
  pub says : parts.payload ≡ payload
  pub verifies : Verifies keys.alg (signer_key keys) parts.signed parts.signature
