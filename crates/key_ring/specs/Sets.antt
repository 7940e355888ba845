-- What is published of a ring: the live keys, those that are kept, and the historical ones (OpenID Federation 1.0 section 8.7).
use Rattle.std.specs.Prelude.{◌≡◌, ℕ, List, [], ◌∷◌, ◌++◌, map, filter, find, codes, not, Bool, false, true, ◌&&◌, ◌||◌, Option, Some, option_map}
use Rattle.base64url.specs.Base64url.{base64url}
use Rattle.fed_base.specs.declared.algorithm.Alg.{Alg}
use Rattle.fed_json.specs.declared.tree.Json.{Json, Object}
use Rattle.fed_json.specs.declared.tree.Member.{Member}
use Rattle.fed_json.specs.Members.{number_member, text_member}
use Rattle.fed_json.specs.Reading.{member_of}
use Rattle.jws_form.specs.Header.{algorithm}
use Rattle.jwk_set.specs.Keys.{key_type}
use Rattle.jwk_set.specs.KeySets.{key_named}
use Rattle.jwk_set.specs.declared.jwk.Jwk.{Jwk}
use Rattle.jwk_set.specs.declared.jwk.Jwk.TheVariants.{Own}
use Rattle.sealed.specs.Sealing.{signer_key, signer_name}
use Rattle.slh_dsa.specs.Keys.{Keys}
use Rattle.key_ring.specs.declared.key.KeyState.{KeyState}
use Rattle.key_ring.specs.declared.key.KeyState.TheVariants.{Live, Retired, Revoked}
use Rattle.key_ring.specs.declared.key.RingKey.{RingKey}
use Rattle.key_ring.specs.Files.{revocation_tree}
use Rattle.key_ring.specs.Rings.{Ring, is_live, kid_of, live_state, pair_in, public_of, revoked_state}

-- a key as a member of a set (RFC 7517 section 4)
abbrev pub own_key : RingKey → Jwk
own_key key = Own (kid_of key) (pair_in key).alg (public_of key)

-- a key in this state is published: a live one, and a retired one too where that is asked
abbrev pub is_published : Bool → KeyState → Bool
is_published retired state = not (revoked_state state) && (retired || live_state state)

-- the keys that are published, in the order of the ring
unfoldable pub own_set : Bool → Ring → List Jwk
own_set retired ring = map own_key (filter (λ key. is_published retired key.state) ring)

-- the live keys
abbrev pub live_set : Ring → List Jwk
live_set ring = own_set false ring

-- the live and the retired keys
abbrev pub kept_set : Ring → List Jwk
kept_set ring = own_set true ring

-- the key pair that signs: that of the newest live key
abbrev pub signer_keys : Ring → Option Keys
signer_keys ring = option_map pair_in (find is_live ring)

-- the set has the public key of the pair under its name and its algorithm, so it seals what the pair signs (RFC 7515 section 4.1.4)
abbrev pub IsNamedIn : Option Keys → List Jwk → Type 0
IsNamedIn signer set = (keys : Keys) → signer ≡ Some keys → key_named (signer_name keys) keys.alg set ≡ Some (signer_key keys)

-- the revocation of a key, where it was revoked
abbrev pub revoked_members : KeyState → List Member
revoked_members Live = []
revoked_members Retired = []
revoked_members (Revoked at reason) = member_of (codes "revoked") (revocation_tree at reason) ∷ []

-- what each historical key has: its algorithm, its end, its name, its type and its public key
abbrev pub plain_members : Alg → ℕ → List ℕ → List ℕ → List Member
plain_members alg exp kid public =
    text_member (codes "alg") (algorithm alg) ∷ number_member (codes "exp") exp ∷ text_member (codes "kid") kid
    ∷ text_member (codes "kty") key_type ∷ text_member (codes "pub") (base64url public) ∷ []

-- a historical key (OpenID Federation 1.0 section 8.7.2)
abbrev pub historical_key : RingKey → Json
historical_key key = Object (plain_members (pair_in key).alg key.exp (kid_of key) (public_of key) ++ revoked_members key.state)

-- a key in this state signs no more: it is retired or revoked
abbrev pub is_historical : KeyState → Bool
is_historical state = not (live_state state)

-- the retired and the revoked keys, in the order of the ring
unfoldable pub historical_keys : Ring → List Json
historical_keys ring = map historical_key (filter (λ key. is_historical key.state) ring)
