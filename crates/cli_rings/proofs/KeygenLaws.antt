-- The public key of a new ring.
use Rattle.std.proofs.Common.{◌≡◌, ℕ, List, [], ◌∷◌, ◌++◌, ◌&&◌, ◌*◌, ◌+◌, ◌/◌, length, nat_lt, true, ap, ap₂, ◌∙◌}
use Rattle.std.specs.Str.{is_utf8}
use Rattle.sha2.proofs.Facts256.{length-sha256}
use Rattle.fed_base.specs.declared.algorithm.Alg.{Alg}
use Rattle.base64url.proofs.Canonical.{is_utf8-base64url, length-base64url}
use Rattle.fed_json.proofs.Booleans.{both_true}
use Rattle.fed_json.specs.declared.tree.Json.{Json}
use Rattle.fed_json.specs.Compact.{compact}
use Rattle.jwk_set.specs.declared.jwk.Jwk.TheVariants.{Own}
use Rattle.jwk_set.specs.Thumbprints.{thumbprint_of}
use Rattle.jwk_set.specs.Trees.{own_tree, key_tree}
use Rattle.sealed.specs.Sealing.{signer_key, signer_name}
use Rattle.slh_dsa.specs.Keys.{Keys}
use Rattle.cli_rings.specs.Keygens.{public_line}

-- a thumbprint can name a key
pub is_name : (alg : Alg) (public : List ℕ) → (nat_lt 0 (length (thumbprint_of alg public)) && is_utf8 (thumbprint_of alg public)) ≡ true
unfolding thumbprint_of
is_name alg public = both_true (ap (nat_lt 0) (length-base64url _ ∙ ap (λ n. (4 * n + 2) / 3) (length-sha256 _))) (is_utf8-base64url _)

-- the line of a key is its compact text and a line end
pub line_is : (keys : Keys) (alg : Alg) (kid public line : List ℕ) (tree : Json) → alg ≡ keys.alg → public ≡ signer_key keys → kid ≡ thumbprint_of alg public
    → tree ≡ key_tree (Own kid alg public) → line ≡ compact tree → line ++ 10 ∷ [] ≡ public_line keys
unfolding public_line key_tree signer_name
line_is keys alg kid public line tree same own named written text =
    ap (λ l. l ++ 10 ∷ []) (text ∙ ap compact (written ∙ (λ i. own_tree ((named ∙ ap₂ thumbprint_of same own) i) (same i) (own i))))
