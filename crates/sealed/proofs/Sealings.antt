-- What is sealed verifies under the signer's key.
use Rattle.std.proofs.Common.{◌≡◌, ◌≤◌, ℕ, List, length, Some, None, Result, Ok, Err, IfOk, refl, sym, ap, ap₂, ◌∙◌, subst}
use Rattle.std.specs.Option.{option_and_then}
use Rattle.fed_base.specs.declared.algorithm.Alg.{Alg}
use Rattle.fed_base.specs.declared.faults.Memory.{Memory as NoMemory}
use Rattle.fed_json.specs.declared.tree.Json.{Json}
use Rattle.fed_json.specs.Compact.{compact}
use Rattle.jws_form.specs.declared.compact.Compact.{Compact}
use Rattle.jws_form.specs.Compact.{IsCompact, IsJoined, joined, max_bytes, signing_input_of}
use Rattle.jws_form.proofs.Laws.{IsCompact-unique}
use Rattle.jwk_set.specs.declared.jwk.Jwk.{Jwk}
use Rattle.jwk_set.specs.KeySets.{key_named}
use Rattle.jwk_set.specs.Thumbprints.{thumbprint_of}
use Rattle.slh_dsa.specs.Keys.{Keys}
use Rattle.slh_dsa.specs.Verifying.{Verifies}
use Rattle.sealed.specs.declared.fault.SealFault.{SealFault}
use Rattle.sealed.specs.declared.fault.SealFault.TheVariants.{NoKid, NoKey, BadSignature, Memory}
use Rattle.sealed.specs.Answers.{IsChecked, Decides}
use Rattle.sealed.specs.Seals.{Pair, IsSealed, IsUnsealed, IsSealedBy, named_key}
use Rattle.sealed.specs.Sealing.{HasParts, IsSealedFor, IsSignedAs, header_of, sealed_payload, signature_by, signed_of, signer_key, signer_name}

-- ---- a text is one compact text

-- a seal speaks of the parts that its text has
pub sealed_verifies : (pair : Pair) (c : Compact) → IsSealed pair → IsCompact pair.text c → Verifies c.alg pair.public c.signed c.signature
sealed_verifies pair c seal is = subst (λ d. Verifies d.alg pair.public d.signed d.signature) (IsCompact-unique pair.text seal.compact c seal.splits is) seal.verifies

-- and so does a miss
pub unsealed_fails : (pair : Pair) (c : Compact) → IsUnsealed pair → IsCompact pair.text c → ¬ Verifies c.alg pair.public c.signed c.signature
unsealed_fails pair c miss is = subst (λ d. ¬ Verifies d.alg pair.public d.signed d.signature) (IsCompact-unique pair.text miss.compact c miss.splits is) miss.fails

-- ---- what the answers for a set decide

sealed_named : (c : Compact) (keys : List Jwk) (seal : IsSealedBy c.whole keys) → IsCompact c.whole c
    → (public : List ℕ) × (named_key c keys ≡ Some public) × Verifies c.alg public c.signed c.signature
sealed_named c keys seal is =
    let same = IsCompact-unique c.whole seal.compact c seal.splits is in
    (seal.public, ap (λ d. named_key d keys) (sym same) ∙ seal.named, subst (λ d. Verifies d.alg seal.public d.signed d.signature) same seal.verifies)

nameless : (c : Compact) (keys : List Jwk) → c.kid ≡ None → named_key c keys ≡ None
nameless c keys none = ap (option_and_then (λ k. key_named k c.alg keys)) none

pub decided : (c : Compact) (keys : List Jwk) (r : Result Pair SealFault) → IsCompact c.whole c → IsChecked c keys r → Decides r (IsSealedBy c.whole keys)
decided c keys (Ok seal) is checked = record { compact = c; splits = is; public = seal.public; named = checked.0; verifies = checked.2 }
decided c keys (Err NoKid) is checked = λ seal. let named = sealed_named c keys seal is in let bad = sym named.1 ∙ nameless c keys checked in cc bad
decided c keys (Err NoKey) is checked = λ seal. let named = sealed_named c keys seal is in let bad = sym named.1 ∙ checked.2 in cc bad
decided c keys (Err BadSignature) is checked = λ seal.
    let named = sealed_named c keys seal is in
    let same : named.0 ≡ checked.0 = cc (sym named.1 ∙ checked.1) in
    checked.2 (subst (λ public. Verifies c.alg public c.signed c.signature) same named.2)
decided c keys (Err Memory) is checked = tt

-- ---- sealing

pub name_is : (keys : Keys) (alg : Alg) (public kid : List ℕ) → alg ≡ keys.alg → public ≡ signer_key keys → kid ≡ thumbprint_of alg public → kid ≡ signer_name keys
unfolding signer_name
name_is keys alg public kid same own named = named ∙ ap₂ thumbprint_of same own

pub signed_is : (keys : Keys) (alg : Alg) (typ kid payload signed : List ℕ) (header : Json) → alg ≡ keys.alg → kid ≡ signer_name keys → header ≡ header_of alg kid typ
    → signed ≡ signing_input_of (compact header) payload → signed ≡ signed_of keys typ payload
unfolding signed_of
signed_is keys alg typ kid payload signed header same named tree input =
    input ∙ ap (λ h. signing_input_of (compact h) payload) (tree ∙ ap₂ (λ g k. header_of g k typ) same named)

pub text_is : (r : Result (List ℕ) NoMemory) (keys : Keys) (typ payload signed signature : List ℕ) → signed ≡ signed_of keys typ payload → signature ≡ signature_by keys signed
    → IfOk r (λ text. text ≡ joined signed signature) → IfOk r (λ text. text ≡ sealed_payload keys typ payload)
unfolding sealed_payload
text_is r keys typ payload signed signature is made joins =
    subst (λ expected. IfOk r (λ text. text ≡ expected)) (ap₂ joined is (made ∙ ap (signature_by keys) is)) joins

-- the text with these parts
abbrev compact_of : Alg → List ℕ → List ℕ → List ℕ → List ℕ → List ℕ → List ℕ → Compact
compact_of alg text typ kid payload signed signature =
    record { whole = text; alg = alg; typ = Some typ; kid = Some kid; payload = payload; signed = signed; signature = signature }

-- a text of at most 262,144 bytes is taken apart into these parts
abbrev IsParted : Result (List ℕ) NoMemory → Alg → List ℕ → List ℕ → List ℕ → List ℕ → List ℕ → Type 0
IsParted r alg typ kid payload signed signature = IfOk r (λ text. length text ≤ max_bytes → IsCompact text (compact_of alg text typ kid payload signed signature))

pub sealed_by : (r : Result (List ℕ) NoMemory) (keys : Keys) (alg : Alg) (typ kid payload signed signature : List ℕ) → alg ≡ keys.alg → kid ≡ signer_name keys
    → IsParted r alg typ kid payload signed signature → Verifies keys.alg (signer_key keys) signed signature → IfOk r (IsSealedFor keys)
sealed_by (Err e) keys alg typ kid payload signed signature same named splits verifies = tt
sealed_by (Ok text) keys alg typ kid payload signed signature same named splits verifies = λ set can. record {
  compact = compact_of alg text typ kid payload signed signature;
  splits = splits can.short;
  public = signer_key keys;
  named = ap₂ (λ k g. key_named k g set) named same ∙ can.named;
  verifies = subst (λ g. Verifies g (signer_key keys) signed signature) (sym same) verifies;
}

pub parted : (r : Result (List ℕ) NoMemory) (keys : Keys) (alg : Alg) (typ kid payload signed signature : List ℕ) → alg ≡ keys.alg → kid ≡ signer_name keys
    → IsParted r alg typ kid payload signed signature → IfOk r (λ text. length text ≤ max_bytes → HasParts keys typ payload text)
parted (Err e) keys alg typ kid payload signed signature same named splits = tt
parted (Ok text) keys alg typ kid payload signed signature same named splits = λ short. record {
  parts = compact_of alg text typ kid payload signed signature;
  splits = splits short;
  signed_in = same;
  typed = refl;
  named = ap Some named;
  says = refl;
}

-- a text of any length holds its parts, of which the signature verifies
pub signed_as : (r : Result (List ℕ) NoMemory) (keys : Keys) (alg : Alg) (typ kid payload signed signature : List ℕ) → alg ≡ keys.alg → kid ≡ signer_name keys
    → IfOk r (λ text. IsJoined text (compact_of alg text typ kid payload signed signature)) → Verifies keys.alg (signer_key keys) signed signature
    → IfOk r (IsSignedAs keys typ payload)
signed_as (Err e) keys alg typ kid payload signed signature same named joins verifies = tt
signed_as (Ok text) keys alg typ kid payload signed signature same named joins verifies = record {
  parts = compact_of alg text typ kid payload signed signature;
  joins = joins;
  signed_in = same;
  typed = refl;
  named = ap Some named;
  says = refl;
  verifies = verifies;
}
