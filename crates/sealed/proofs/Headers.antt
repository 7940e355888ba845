-- The header of a sealed text can be written, and so can its names.
use Rattle.std.proofs.Common.{◌≡◌, ℕ, List, [], ◌∷◌, codes, Some, true, refl, ◌∙◌}
use Rattle.std.specs.Str.{IsUtf8, is_utf8}
use Rattle.std.proofs.lemmas.Str.{IsUtf8-from_is_utf8}
use Rattle.fed_base.specs.declared.algorithm.Alg.{Alg}
use Rattle.fed_base.specs.declared.algorithm.Alg.TheVariants.{Small, Fast}
use Rattle.base64url.proofs.Canonical.{is_utf8-base64url}
use Rattle.fed_json.specs.declared.tree.Member.{Member}
use Rattle.fed_json.specs.Forms.{whole}
use Rattle.fed_json.specs.Members.{text_member}
use Rattle.fed_json.proofs.Layers.{whole-Object}
use Rattle.jws_form.specs.Header.{IsHeader, algorithm}
use Rattle.jwk_set.specs.Thumbprints.{thumbprint_of}
use Rattle.jwk_set.proofs.WrittenKeys.{ascii, whole_text}
use Rattle.sealed.specs.Sealing.{header_of}

abbrev members : Alg → List ℕ → List ℕ → List Member
members alg kid typ = text_member (codes "alg") (algorithm alg) ∷ text_member (codes "kid") kid ∷ text_member (codes "typ") typ ∷ []

pub is_utf8-algorithm : (alg : Alg) → is_utf8 (algorithm alg) ≡ true
is_utf8-algorithm Small = ascii (algorithm Small) refl
is_utf8-algorithm Fast = ascii (algorithm Fast) refl

pub header_whole : (alg : Alg) (kid typ : List ℕ) → is_utf8 kid ≡ true → is_utf8 typ ≡ true → whole (header_of alg kid typ) ≡ true
header_whole alg kid typ kid_utf8 typ_utf8 =
    whole-Object (members alg kid typ)
    ∙ rw (whole_text (algorithm alg) (is_utf8-algorithm alg), whole_text kid kid_utf8, whole_text typ typ_utf8, ascii (codes "alg") refl, ascii (codes "kid") refl, ascii (codes "typ") refl) refl

pub header_names : (alg : Alg) (kid typ : List ℕ) → IsHeader (header_of alg kid typ) alg (Some typ) (Some kid)
header_names alg kid typ = record { members = members alg kid typ; object_is = refl; no_crit = refl; alg_is = refl; typ_is = refl; kid_is = refl }

pub IsUtf8-thumbprint_of : (alg : Alg) (public : List ℕ) → IsUtf8 (thumbprint_of alg public)
unfolding thumbprint_of
IsUtf8-thumbprint_of alg public = IsUtf8-from_is_utf8 _ (is_utf8-base64url _)
