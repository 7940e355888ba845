-- Whether a text verifies under a key, as a test (RFC 7515 section 5.2).
use Rattle.std.specs.Prelude.{◌≡◌, ℕ, List, length, take, drop, nat_eq, bytes_eq, Bool, false, ◌&&◌, Ok}
use Rattle.std.specs.List.{list_all}
use Rattle.std.specs.Option.{option_map_or}
use Rattle.std.specs.Result.{result_ok}
use Rattle.jws_form.specs.declared.compact.Compact.{Compact}
use Rattle.jws_form.specs.Compact.{IsCompact}
use Rattle.jws_form.specs.Splitting.{splitting}
use Rattle.jwk_set.specs.declared.jwk.Jwk.{Jwk}
use Rattle.slh_hash.specs.declared.params.Params.{Params}
use Rattle.slh_dsa.specs.Algorithms.{set_of}
use Rattle.slh_dsa.specs.Verifying.{root_from, signature_bytes}
use Rattle.sealed.specs.Seals.{Pair, pair_of, named_key}

-- the signature of the message verifies under the public key (FIPS 205 Algorithms 20 and 24)
unfoldable pub verifies_by : Params → List ℕ → List ℕ → List ℕ → Bool
verifies_by p public message sig =
    nat_eq (length sig) (signature_bytes p) && bytes_eq (root_from p (take 16 public) (drop 16 public) message sig) (drop 16 public)

-- the signature of a compact text verifies under the key, in the algorithm that its header names (RFC 7515 section 5.2, step 8)
abbrev pub has_signature : Compact → List ℕ → Bool
has_signature compact public = verifies_by (set_of compact.alg) public compact.signed compact.signature

-- the text is a compact text that verifies under the key
unfoldable pub is_sealed : Pair → Bool
is_sealed pair = option_map_or (λ compact. has_signature compact pair.public) (result_ok (splitting pair.text)) false

-- the text verifies under the own key of the set that its header names (RFC 7515 section 4.1.4)
unfoldable pub is_sealed_by : List ℕ → List Jwk → Bool
is_sealed_by text keys =
    option_map_or (λ compact. option_map_or (has_signature compact) (named_key compact keys) false) (result_ok (splitting text)) false

-- the text verifies under each of the keys
abbrev pub are_sealed : List ℕ → List (List ℕ) → Bool
are_sealed text keys = list_all (λ public. is_sealed (pair_of text public)) keys

-- the parts that taking the text apart answers are its own, as they are of every text of bytes
abbrev pub Splits : List ℕ → Type 0
Splits text = (compact : Compact) → splitting text ≡ Ok compact → IsCompact text compact
