-- The four values of a private key.
use Rattle.std.proofs.Common.{◌≡◌, ℕ, List, ◌++◌, ◌-◌, length, take, drop, arith, ap, ◌∙◌, length-append, length-drop}
use Rattle.std.proofs.lemmas.List.{take_at, drop_at, take-append-le, drop-append-le}
use Rattle.slh_hash.specs.declared.params.Params.{Params}
use Rattle.slh_hash.proofs.TreeLaws.{length-node}
use Rattle.wots_xmss.specs.Lengths.{length-leaf, length-parent}
use Rattle.wots_xmss.specs.Xmss.{xmss_leaf, xmss_parent, xmss_node}
use Rattle.slh_dsa.specs.Keys.{sk_seed_of, sk_prf_of, pk_seed_of, pk_root_of}
use Rattle.slh_dsa.specs.Signing.{signature_of, signature_with}

-- a private key that is seeds and a root has those of the seeds, and the root
pub secret-parts : (secret seeds root : List ℕ) → length seeds ≡ 48 → secret ≡ seeds ++ root
    → (take 16 secret ≡ sk_seed_of seeds) × (take 16 (drop 16 secret) ≡ sk_prf_of seeds) × (take 16 (drop 32 secret) ≡ pk_seed_of seeds) × (drop 48 secret ≡ root)
secret-parts secret seeds root long whole =
    let second : drop 16 secret ≡ drop 16 seeds ++ root = ap (drop 16) whole ∙ drop-append-le 16 seeds root (omega (arith, long)) in
    let third : drop 32 secret ≡ drop 32 seeds ++ root = ap (drop 32) whole ∙ drop-append-le 32 seeds root (omega (arith, long)) in (
      ap (take 16) whole ∙ take-append-le 16 seeds root (omega (arith, long)),
      ap (take 16) second ∙ take-append-le 16 (drop 16 seeds) root (omega (arith, long, length-drop 16 seeds)),
      ap (take 16) third ∙ take_at (drop 32 seeds) root 16 (omega (arith, long, length-drop 32 seeds)),
      ap (drop 48) whole ∙ drop_at seeds root 48 long,
    )

-- a root has 16 bytes
length-root : (p : Params) (seeds : List ℕ) → length (pk_root_of p seeds) ≡ 16
unfolding pk_root_of xmss_node
length-root p seeds =
    let leaf = xmss_leaf (pk_seed_of seeds) (sk_seed_of seeds) (p.d - 1) 0 in
    length-node leaf (xmss_parent (pk_seed_of seeds) (p.d - 1) 0) (length-leaf (pk_seed_of seeds) (sk_seed_of seeds) (p.d - 1) 0) (length-parent (pk_seed_of seeds) (p.d - 1) 0) p.tree_height 0

-- so the seeds of a private key have 48
pub length-seeds : (p : Params) (secret seeds : List ℕ) → length secret ≡ 64 → secret ≡ seeds ++ pk_root_of p seeds → length seeds ≡ 48
length-seeds p secret seeds long whole = omega (arith, long, ap length whole, length-append seeds (pk_root_of p seeds), length-root p seeds)

-- the signature by the private key of seeds is the seeds' own
pub signed-by-seeds : (p q : Params) (secret seeds message out : List ℕ) → q ≡ p → length secret ≡ 64 → secret ≡ seeds ++ pk_root_of p seeds
    → out ≡ signature_with q (take 16 secret) (take 16 (drop 16 secret)) (take 16 (drop 32 secret)) (drop 48 secret) message → out ≡ signature_of p seeds message
signed-by-seeds p q secret seeds message out same long whole made =
    let of = secret-parts secret seeds (pk_root_of p seeds) (length-seeds p secret seeds long whole) whole in
    made ∙ rw (same, of.0, of.1, of.2, of.3)
