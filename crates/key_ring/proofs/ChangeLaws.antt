-- A change that met no fault leaves a ring.
use Rattle.std.proofs.Common.{◌≡◌, ◌<◌, ℕ, List, [], ◌∷◌, ◌||◌, lit≤, map, length, true, false, Some, None, sym, ap, ◌∙◌, subst}
use Rattle.std.specs.List.{IsDistinct}
use Rattle.fed_base.specs.declared.algorithm.Alg.{Alg}
use Rattle.fed_base.specs.Moments.{moment_limit}
use Rattle.key_ring.specs.declared.key.KeyState.{KeyState}
use Rattle.key_ring.specs.declared.key.KeyState.TheVariants.{Live}
use Rattle.key_ring.specs.declared.key.RingKey.{RingKey}
use Rattle.key_ring.specs.Changes.{Add, Put, fault_of, fresh_key, kid_added, may_follow, with_state}
use Rattle.key_ring.specs.Rings.{IsRing, IsRingKey, IsTimelyState, Ring, has_key, has_live, key_at, kid_of, live_state, most_keys}
use Rattle.key_ring.proofs.FirstFaults.{adding-last, putting-last}
use Rattle.key_ring.proofs.RingLaws.{step-ring}

-- ---- a key in another state

put-none : (ring : Ring) (kid : List ℕ) (state : KeyState) (key : RingKey) (changed : Ring) → key_at kid ring ≡ Some key → may_follow state key.state ≡ true
    → changed ≡ map (with_state kid state) ring → has_live changed ≡ true → fault_of ring (Put kid state) ≡ None
put-none ring kid state key changed found so is lives = putting-last ring kid state key true found so (ap has_live (sym is) ∙ lives)

pub put-ring : (ring : Ring) (kid : List ℕ) (state : KeyState) (key : RingKey) (changed : Ring) → IsRing ring → IsTimelyState state → key_at kid ring ≡ Some key → may_follow state key.state ≡ true
    → changed ≡ map (with_state kid state) ring → has_live changed ≡ true → IsRing changed
put-ring ring kid state key changed is_ring timely found so is lives =
    subst IsRing (sym is) (step-ring ring (Put kid state) is_ring timely (put-none ring kid state key changed found so is lives))

-- ---- a new key

-- the name of the new key, as it was computed of the key that was made
named : (alg : Alg) (seeds : List ℕ) (iat exp : ℕ) (key made : RingKey) (kid : List ℕ) → key ≡ fresh_key alg seeds iat exp → made ≡ key → kid ≡ kid_of made → kid ≡ kid_added alg seeds
named alg seeds iat exp key made kid fresh same name = name ∙ ap kid_of (same ∙ fresh)

add-none : (ring : Ring) (alg : Alg) (seeds : List ℕ) (iat exp : ℕ) (key made : RingKey) (kid : List ℕ) → iat < exp → length ring < most_keys → key ≡ fresh_key alg seeds iat exp → made ≡ key
    → kid ≡ kid_of made → has_key kid ring ≡ false → fault_of ring (Add alg seeds iat exp) ≡ None
add-none ring alg seeds iat exp key made kid order room fresh same title unknown =
    adding-last ring alg seeds iat exp false order room (ap (λ k. has_key k ring) (sym (named alg seeds iat exp key made kid fresh same title)) ∙ unknown)

pub add-ring : (ring : Ring) (alg : Alg) (seeds : List ℕ) (iat exp : ℕ) (key made : RingKey) (kid : List ℕ) (changed : Ring) → IsRing ring → iat < exp → exp < moment_limit → length ring < most_keys
    → key ≡ fresh_key alg seeds iat exp → IsRingKey key → made ≡ key → kid ≡ kid_of made → has_key kid ring ≡ false → changed ≡ made ∷ ring → IsRing changed
add-ring ring alg seeds iat exp key made kid changed is_ring order small room fresh formed same title unknown more =
    let new : IsRingKey (fresh_key alg seeds iat exp) = subst IsRingKey fresh formed in
    subst IsRing (sym (more ∙ ap (λ k. k ∷ ring) (same ∙ fresh)))
    (step-ring ring (Add alg seeds iat exp) is_ring (new.size, new.octets, small) (add-none ring alg seeds iat exp key made kid order room fresh same title unknown))

-- the ring of one key that may be one
pub one-key : (slice : Ring) (key : RingKey) → slice ≡ key ∷ [] → key.state ≡ Live → IsRingKey key → IsRing slice
unfolding IsDistinct
one-key slice key is lives formed = subst IsRing (sym is) (record {
  form = record { keys = (formed, tt); live = ap (λ state. live_state state || false) lives; few = lit≤ tt };
  distinct = (tt, tt);
})
