-- The keys of a rehearsal's entities, each with a number.
use Rattle.std.specs.Prelude.{ℕ, zero, suc, ◌+◌, ◌*◌, List, [], ◌∷◌, ◌++◌}
use Rattle.fed_base.specs.declared.algorithm.Alg.TheVariants.{Small}
use Rattle.fed_json.specs.Compact.{compact}
use Rattle.jwk_set.specs.Trees.{set_tree}
use Rattle.key_ring.specs.Changes.{fresh_key}
use Rattle.key_ring.specs.Rings.{Ring}
use Rattle.key_ring.specs.Sets.{live_set}
use Rattle.rehearsal.specs.Moments.{lifetime, moment}

-- so many numbers in a row, from the first on
unfoldable pub numbers_from : ℕ → ℕ → List ℕ
numbers_from first zero = []
numbers_from first (suc n) = numbers_from first n ++ (first + n) ∷ []

-- the seeds of a key: SK.seed, SK.prf and PK.seed (FIPS 205 section 9.1) are 48 numbers in a row, and those of the next key go on
unfoldable pub seeds_of : ℕ → List ℕ
seeds_of key = numbers_from (48 * key) 48

-- the ring of this one key
unfoldable pub ring_of : ℕ → Ring
ring_of key = fresh_key Small (seeds_of key) moment (moment + lifetime) ∷ []

-- the key set that is published of a ring, as JSON (RFC 7517 section 5)
unfoldable pub set_text : Ring → List ℕ
set_text ring = compact (set_tree (live_set ring))

abbrev pub keys_text : ℕ → List ℕ
keys_text key = set_text (ring_of key)
