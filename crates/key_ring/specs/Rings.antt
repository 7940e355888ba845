-- Rings of keys: a list, newest first.
use Rattle.std.specs.Prelude.{◌≡◌, ◌≤◌, ◌<◌, ℕ, List, map, find, length, bytes_eq, Bool, true, false, IsTrue, Option}
use Rattle.std.specs.List.{AllByRecursion, IsDistinct, list_any}
use Rattle.hex.specs.Hex.{IsBytes}
use Rattle.fed_base.specs.declared.algorithm.Alg.{Alg}
use Rattle.fed_base.specs.Moments.{moment_limit}
use Rattle.slh_dsa.specs.Keys.{Keys, keys_of}
use Rattle.sealed.specs.Sealing.{signer_key, signer_name}
use Rattle.key_ring.specs.declared.key.KeyState.{KeyState}
use Rattle.key_ring.specs.declared.key.KeyState.TheVariants.{Live, Retired, Revoked}
use Rattle.key_ring.specs.declared.key.RingKey.{RingKey}

-- the keys of a node, newest first (OpenID Federation 1.0 section 8.7)
abbrev pub Ring : Type 0
Ring = List RingKey

-- how many keys a ring has at most
abbrev pub most_keys : ℕ
most_keys = 16

-- the key pair of that algorithm and these seeds (FIPS 205 Algorithm 18)
abbrev pub ring_pair : Alg → List ℕ → Keys
ring_pair alg seeds = keys_of alg seeds

-- the key pair of a key
abbrev pub pair_in : RingKey → Keys
pair_in key = ring_pair key.alg key.seeds

-- the name of a key: the thumbprint of its public key (RFC 7638)
abbrev pub kid_of : RingKey → List ℕ
kid_of key = signer_name (pair_in key)

-- its public key (FIPS 205 section 9.1)
abbrev pub public_of : RingKey → List ℕ
public_of key = signer_key (pair_in key)

-- the key has that name
abbrev pub is_named : List ℕ → RingKey → Bool
is_named kid key = bytes_eq kid (kid_of key)

-- the key of that name, where there is one
abbrev pub key_at : List ℕ → Ring → Option RingKey
key_at kid ring = find (is_named kid) ring

-- a key has that name
abbrev pub has_key : List ℕ → Ring → Bool
has_key kid ring = list_any (is_named kid) ring

-- a key in this state may sign
abbrev pub live_state : KeyState → Bool
live_state Live = true
live_state Retired = false
live_state (Revoked at reason) = false

abbrev pub is_live : RingKey → Bool
is_live key = live_state key.state

-- a key in this state isn't to be trusted
abbrev pub revoked_state : KeyState → Bool
revoked_state Live = false
revoked_state Retired = false
revoked_state (Revoked at reason) = true

abbrev pub is_revoked : RingKey → Bool
is_revoked key = revoked_state key.state

-- a key of the ring is live
abbrev pub has_live : Ring → Bool
has_live ring = list_any is_live ring

-- a revocation is at a moment below 2^62
abbrev pub IsTimelyState : KeyState → Type 0
IsTimelyState (Revoked at reason) = at < moment_limit
IsTimelyState Live = Unit {0}
IsTimelyState Retired = Unit {0}

-- a key of a ring: 48 bytes of seeds, and moments below 2^62 that are in their order
pub record IsRingKey (key : RingKey) : Type 0 where
  pub size : length key.seeds ≡ 48
  pub octets : IsBytes key.seeds
  pub order : key.iat < key.exp
  pub small : key.exp < moment_limit
  pub state : IsTimelyState key.state

-- at most 16 keys of this form, of which one at least is live
pub record HasForm (ring : Ring) : Type 0 where
  pub keys : AllByRecursion IsRingKey ring
  pub live : IsTrue (has_live ring)
  pub few : length ring ≤ most_keys

-- and no two have one name
pub record IsRing (ring : Ring) : Type 0 where
  pub form : HasForm ring
  pub distinct : IsDistinct bytes_eq (map kid_of ring)
