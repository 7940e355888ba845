-- How long signatures are.
use Rattle.std.proofs.Common.{◌≡◌, ◌≤◌, ◌*◌, ℕ, List, ◌++◌, length, length-append, length-take, ◌∙◌, arith}
use Rattle.std.proofs.Math.Nat.{mul_comm}
use Rattle.fed_base.specs.declared.algorithm.Alg.{Alg}
use Rattle.fed_base.specs.declared.algorithm.Alg.TheVariants.{Small, Fast}
use Rattle.slh_hash.specs.declared.params.Params.{Params}
use Rattle.slh_hash.specs.Hash.{hmac_sha256, prf_msg, pure_message}
use Rattle.slh_hash.specs.Places.{Place}
use Rattle.slh_hash.proofs.Joined.{length-joined}
use Rattle.fors.specs.Fors.{fors_signature, named_leaf, opening, opening_bytes}
use Rattle.fors.proofs.Openings.{length-opening}
use Rattle.wots_xmss.specs.Xmss.{xmss_bytes}
use Rattle.wots_xmss.specs.Hypertree.{hyper_signature, layer_signature}
use Rattle.wots_xmss.proofs.HypertreeLaws.{length-layer_signature}
use Rattle.slh_dsa.specs.Algorithms.{set_of, signature_length}
use Rattle.slh_dsa.specs.Digests.{md_of}
use Rattle.slh_dsa.specs.Keys.{sk_seed_of, sk_prf_of, pk_seed_of, pk_root_of}
use Rattle.slh_dsa.specs.Signing.{digest_of, fors_by, fors_key_of, hypertree_by, named_place, signature_of, signature_with}
use Rattle.slh_dsa.specs.Verifying.{signature_bytes}

-- a randomizer has at most 16 bytes
prf_msg-short : (prf seed m : List ℕ) → length (prf_msg prf seed m) ≤ 16
unfolding prf_msg
prf_msg-short prf seed m = omega (arith, length-take 16 (hmac_sha256 prf (seed ++ m)))

-- the length of the signature of a digest
length-fors : (a k : ℕ) (w : Place) (sk md : List ℕ) → length (fors_signature a k w sk md) ≡ opening_bytes a * k
unfolding fors_signature
length-fors a k w sk md = length-joined (λ q. opening a w sk (named_leaf a k md q)) (opening_bytes a) k (λ q. length-opening a w sk (named_leaf a k md q))

-- the length of the signature of layers
length-hyper : (h d : ℕ) (w : Place) (sk m : List ℕ) → length (hyper_signature h d w sk m) ≡ xmss_bytes h * d
unfolding hyper_signature
length-hyper h d w sk m = length-joined (layer_signature h w sk m) (xmss_bytes h) d (length-layer_signature h w sk m)

-- a signature isn't longer than those that verify, whatever its values
pub short-signature : (p : Params) (sk prf seed root m : List ℕ) → length (signature_with p sk prf seed root m) ≤ signature_bytes p
unfolding signature_with fors_by hypertree_by
short-signature p sk prf seed root m =
    let r = prf_msg prf seed (pure_message m) in
    let d = digest_of p r seed root m in
    let w = named_place p seed d in
    let few = fors_signature p.a p.k w sk (md_of p d) in
    let tall = hyper_signature p.tree_height p.d w sk (fors_key_of p seed d few) in
    omega (
      arith,
      length-append r (few ++ tall),
      length-append few tall,
      prf_msg-short prf seed (pure_message m),
      length-fors p.a p.k w sk (md_of p d) ∙ mul_comm (opening_bytes p.a) p.k,
      length-hyper p.tree_height p.d w sk (fors_key_of p seed d few) ∙ mul_comm (xmss_bytes p.tree_height) p.d,
    )

-- the same of a key pair's, in numbers
pub signature-short : (g : Alg) (seeds m : List ℕ) → length (signature_of (set_of g) seeds m) ≤ signature_length g
signature-short Small seeds m = short-signature (set_of Small) (sk_seed_of seeds) (sk_prf_of seeds) (pk_seed_of seeds) (pk_root_of (set_of Small) seeds) m
signature-short Fast seeds m = short-signature (set_of Fast) (sk_seed_of seeds) (sk_prf_of seeds) (pk_seed_of seeds) (pk_root_of (set_of Fast) seeds) m
