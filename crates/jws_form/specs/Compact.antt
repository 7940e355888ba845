-- A compact text and its parts (RFC 7515 sections 3 and 7.1).
use Rattle.std.specs.Prelude.{◌≡◌, ◌≤◌, ℕ, List, ◌∷◌, ◌++◌, length, Option}
use Rattle.base64.specs.GeneralPurpose.{IsBytes}
use Rattle.fed_base.specs.declared.algorithm.Alg.{Alg}
use Rattle.jws_form.specs.declared.compact.Compact.{Compact}
use Rattle.base64url.specs.Base64url.{base64url}
use Rattle.jws_form.specs.Header.{IsHeaderText}

-- how many bytes a text has at most
abbrev pub max_bytes : ℕ
max_bytes = 262144

-- a full stop, which stands between the parts (RFC 7515 section 7.1)
abbrev pub stop : ℕ
stop = 46

-- the header and the payload, joined (RFC 7515 section 5.1)
abbrev pub signing_input_of : List ℕ → List ℕ → List ℕ
signing_input_of header payload = base64url header ++ stop ∷ base64url payload

-- a signing input and its signature, joined (RFC 7515 section 7.1)
abbrev pub joined : List ℕ → List ℕ → List ℕ
joined signed signature = signed ++ stop ∷ base64url signature

-- what a signature is made over: a header with this algorithm and these names, and the payload (RFC 7515 section 5.1)
pub record IsSigningInput (signed payload : List ℕ) (alg : Alg) (typ kid : Option (List ℕ)) : Type 0 where
  pub header : List ℕ
  pub header_is : IsHeaderText header alg typ kid
  pub payload_bytes : IsBytes payload
  pub signed_is : signed ≡ signing_input_of header payload

-- the text is a signing input and a signature, joined, and `c` holds them (RFC 7515 section 7.1)
pub record IsCompact (x : List ℕ) (c : Compact) : Type 0 where
  pub short : length x ≤ max_bytes
  pub whole_is : c.whole ≡ x
  pub input : IsSigningInput c.signed c.payload c.alg c.typ c.kid
  pub signature_bytes : IsBytes c.signature
  pub text_is : x ≡ joined c.signed c.signature

-- the same of a text of any length, as a resolver's reply is (RFC 7515 section 7.1)
pub record IsJoined (x : List ℕ) (c : Compact) : Type 0 where
  pub whole_is : c.whole ≡ x
  pub input : IsSigningInput c.signed c.payload c.alg c.typ c.kid
  pub signature_bytes : IsBytes c.signature
  pub text_is : x ≡ joined c.signed c.signature
