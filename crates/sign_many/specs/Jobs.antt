-- The jobs that a signature is made by, once its digest is known: FORS, and the tree of each layer (FIPS 205 Algorithm 19).
use Rattle.std.specs.Prelude.{◌≡◌, ◌≤◌, ℕ, zero, suc, ◌+◌, ◌*◌, List, [], ◌++◌, length, take, drop}
use Rattle.slh_hash.specs.declared.params.Params.{Params}
use Rattle.slh_hash.specs.Places.{Place}
use Rattle.slh_hash.specs.Sets.{IsSet}
use Rattle.fors.specs.Fors.{fors_bytes, fors_signature}
use Rattle.wots_xmss.specs.Wots.{wots_bytes}
use Rattle.wots_xmss.specs.Xmss.{xmss_bytes, xmss_node, xmss_path}
use Rattle.wots_xmss.specs.Hypertree.{tree_at, leaf_at}

-- what all jobs are told: the set, the key pair of the lowest layer that the digest names, SK.seed and what FORS signs (Algorithm 19)
pub record Task : Type 0 where
  pub params : Params
  pub place : Place
  pub sk_seed : List ℕ
  pub md : List ℕ

-- how many jobs there are: FORS, and one for each layer
abbrev pub jobs_of : Params → ℕ
jobs_of p = p.d + 1

-- where the part of a job begins behind R: job 0 is FORS, and job j + 1 is layer j (Algorithm 19)
unfoldable pub start_of : Params → ℕ → ℕ
start_of p zero = 0
start_of p (suc j) = fors_bytes p.a p.k + xmss_bytes p.tree_height * j

-- a layer's part when its job is done: the root where the WOTS+ signature will begin, and the path behind its place (Algorithms 9
-- and 10)
pub record IsLayerDone (t : Task) (j : ℕ) (part : List ℕ) : Type 0 where
  pub size : length part ≡ xmss_bytes t.params.tree_height
  pub root : take 16 part ≡ xmss_node t.place.seed t.sk_seed j (tree_at t.params.tree_height t.place.tree j) t.params.tree_height 0
  pub path : drop wots_bytes part ≡ xmss_path t.params.tree_height t.place.seed t.sk_seed j (tree_at t.params.tree_height t.place.tree j)
      (leaf_at t.params.tree_height t.place.tree t.place.pair j)

-- a job's part when it is done: SIG_FORS, or a layer's
unfoldable pub IsDone : Task → ℕ → List ℕ → Type 0
IsDone t zero part = part ≡ fors_signature t.params.a t.params.k t.place t.sk_seed t.md
IsDone t (suc j) part = IsLayerDone t j part

-- the parts of n jobs from the first on, one behind the other
unfoldable pub AreDone : Task → ℕ → ℕ → List ℕ → Type 0
AreDone t first zero parts = parts ≡ []
AreDone t first (suc n) parts = (front : List ℕ) × (last : List ℕ) × (parts ≡ front ++ last) × AreDone t first n front × IsDone t (first + n) last

-- n jobs from the first on, which so many workers do in so many bytes
pub record IsGroup (p : Params) (first n by bytes : ℕ) : Type 0 where
  pub set : IsSet p
  pub some : 1 ≤ n
  pub inside : first + n ≤ jobs_of p
  pub worker : 1 ≤ by
  pub workers : by ≤ 16
  pub room : start_of p first + bytes ≡ start_of p (first + n)
