-- The texts of a valid chain can stand in a reply.
use Rattle.std.proofs.Common.{◌≡◌, ◌<◌, ℕ, zero, suc, List, [], ◌∷◌, ◌++◌, length, Bool, true, refl, sym, ap, ◌∙◌, subst, arith}
use Rattle.std.specs.Prelude.{slice_index_or}
use Rattle.std.specs.List.{list_all}
use Rattle.std.specs.Str.{IsAscii, IsUtf8, is_utf8}
use Rattle.std.proofs.lemmas.Str.{IsUtf8-append, IsUtf8-from_ascii, IsUtf8-from_is_utf8, is_utf8-from_IsUtf8}
use Rattle.fed_json.proofs.Booleans.{both_true}
use Rattle.base64url.proofs.Canonical.{is_utf8-base64url}
use Rattle.base64url.specs.Base64url.{base64url}
use Rattle.jwk_set.specs.declared.jwk.Jwk.{Jwk}
use Rattle.jws_form.specs.declared.compact.Compact.{Compact}
use Rattle.jws_form.specs.Compact.{IsCompact, joined, signing_input_of, stop}
use Rattle.chain_check.specs.Chains.{Texts}
use Rattle.chain_check.specs.Validity.{IsValid, case_of}
use Rattle.resolve_search.proofs.ChainLaws.{form-length}

base64url-utf8 : (b : List ℕ) → IsUtf8 (base64url b)
base64url-utf8 b = IsUtf8-from_is_utf8 _ (is_utf8-base64url b)

stop-ascii : IsAscii (stop ∷ [])
stop-ascii zero = omega arith
stop-ascii (suc i) = omega arith

stop-utf8 : IsUtf8 (stop ∷ [])
stop-utf8 = IsUtf8-from_ascii (stop ∷ []) stop-ascii

with-stop : (a b : List ℕ) → IsUtf8 a → IsUtf8 b → IsUtf8 (a ++ stop ∷ b)
with-stop a b one two = IsUtf8-append a (stop ∷ b) one (IsUtf8-append (stop ∷ []) b stop-utf8 two)

-- a compact text is UTF-8
pub compact-utf8 : (text : List ℕ) (c : Compact) → IsCompact text c → is_utf8 text ≡ true
compact-utf8 text c is =
    let input = is.input in
    let whole : text ≡ joined (signing_input_of input.header c.payload) c.signature = is.text_is ∙ ap (λ s. joined s c.signature) input.signed_is in
    let parts = with-stop (signing_input_of input.header c.payload) (base64url c.signature) (with-stop (base64url input.header) (base64url c.payload) (base64url-utf8 input.header) (base64url-utf8 c.payload)) (base64url-utf8 c.signature) in
    is_utf8-from_IsUtf8 text (subst IsUtf8 (sym whole) parts)

each-all : (p : List ℕ → Bool) (texts : Texts) → ((i : ℕ) → i < length texts → p (slice_index_or texts i []) ≡ true) → list_all p texts ≡ true
each-all p [] each = refl
each-all p (text ∷ texts) each = both_true (each 0 (omega arith)) (each-all p texts (λ i less. each (suc i) (omega (arith, less))))

-- each text of a valid chain is
pub valid-utf8 : (texts : Texts) (anchor : List ℕ) (keys : List Jwk) (t : ℕ) → IsValid (case_of texts anchor keys t) → list_all is_utf8 texts ≡ true
valid-utf8 texts anchor keys t valid =
    let size = form-length texts valid.form in
    each-all is_utf8 texts
    (λ i less. let signed = (valid.signed i (omega (arith, size, less))).by_superior in compact-utf8 (slice_index_or texts i []) signed.compact signed.splits)
