-- Ring files: a ring as JSON (RFC 8259). Version 2 is what is written, where each key names its algorithm. Version 1 is read too: there
-- no key has a name of an algorithm, and each is of the first parameter set.
use Rattle.std.specs.Prelude.{◌≡◌, ℕ, List, [], ◌∷◌, ◌++◌, map, codes, nat_le, false, true, Option, Some, None, Result, Ok, Err, if◌then◌else◌}
use Rattle.std.specs.List.{AllByRecursion}
use Rattle.hex.specs.Hex.{encode_lower}
use Rattle.fed_base.specs.declared.algorithm.Alg.{Alg}
use Rattle.fed_base.specs.declared.algorithm.Alg.TheVariants.{Small}
use Rattle.fed_json.specs.declared.tree.Json.{Json, Text, List as ListOf, Object}
use Rattle.fed_json.specs.declared.tree.Member.{Member}
use Rattle.fed_json.specs.Compact.{compact}
use Rattle.fed_json.specs.Members.{number_member, text_member}
use Rattle.fed_json.specs.Reading.{member_of, tree_in}
use Rattle.jws_form.specs.Header.{algorithm}
use Rattle.key_ring.specs.declared.key.KeyState.{KeyState}
use Rattle.key_ring.specs.declared.key.KeyState.TheVariants.{Live, Retired, Revoked}
use Rattle.key_ring.specs.declared.fault.OrderFault.TheVariants.{Exp}
use Rattle.key_ring.specs.declared.key.RevokeReason.{RevokeReason}
use Rattle.key_ring.specs.declared.key.RevokeReason.TheVariants.{Unspecified, Compromised, Superseded}
use Rattle.key_ring.specs.declared.fault.RingFault.{RingFault}
use Rattle.key_ring.specs.declared.fault.RingFault.TheVariants.{Shape, Known, Order, Memory}
use Rattle.key_ring.specs.declared.key.RingKey.{RingKey}
use Rattle.key_ring.specs.declared.version.Version.{Version}
use Rattle.key_ring.specs.declared.version.Version.TheVariants.{First, Second}
use Rattle.key_ring.specs.Changes.{fresh_key}
use Rattle.key_ring.specs.Rings.{HasForm, IsRingKey, Ring, has_key, kid_of}

-- the reason of a revocation, in its word (OpenID Federation 1.0 section 8.7.3)
abbrev pub reason_word : RevokeReason → List ℕ
reason_word Unspecified = codes "unspecified"
reason_word Compromised = codes "compromised"
reason_word Superseded = codes "superseded"

-- when and why a key was revoked (OpenID Federation 1.0 section 8.7.2)
abbrev pub revocation_tree : ℕ → RevokeReason → Json
revocation_tree at reason = Object (text_member (codes "reason") (reason_word reason) ∷ number_member (codes "revoked_at") at ∷ [])

-- the state of a key
abbrev pub state_tree : KeyState → Json
state_tree Live = Text (codes "live")
state_tree Retired = Text (codes "retired")
state_tree (Revoked at reason) = revocation_tree at reason

-- the algorithm of a key, which version 2 names (RFC 7517 section 4.4)
abbrev pub alg_members : Version → Alg → List Member
alg_members First alg = []
alg_members Second alg = text_member (codes "alg") (algorithm alg) ∷ []

-- what both versions have of a key: its moments, its seeds in lower-case hexadecimal digits, and its state
abbrev pub key_members : RingKey → List Member
key_members key =
    number_member (codes "exp") key.exp ∷ number_member (codes "iat") key.iat
    ∷ text_member (codes "seeds") (encode_lower key.seeds) ∷ member_of (codes "state") (state_tree key.state) ∷ []

-- a key
unfoldable pub key_tree : Version → RingKey → Json
key_tree version key = Object (alg_members version key.alg ++ key_members key)

-- the number of a version
abbrev pub number_of : Version → ℕ
number_of First = 1
number_of Second = 2

-- a ring in a version
unfoldable pub tree_of : Version → Ring → Json
tree_of version ring = Object (member_of (codes "keys") (ListOf (map (key_tree version) ring)) ∷ number_member (codes "version") (number_of version) ∷ [])

-- a ring as it is written
abbrev pub ring_tree : Ring → Json
ring_tree ring = tree_of Second ring

-- a ring as it was written before keys had an algorithm
abbrev pub old_tree : Ring → Json
old_tree ring = tree_of First ring

-- a version can tell of a key of that algorithm: the first tells of the first parameter set alone
abbrev pub IsToldIn : Version → Alg → Type 0
IsToldIn First alg = alg ≡ Small
IsToldIn Second alg = Unit {0}

-- a key of a ring's file in a version
pub record IsKeyIn (version : Version) (key : RingKey) : Type 0 where
  pub formed : IsRingKey key
  pub told : IsToldIn version key.alg

-- a tree is that of a ring in a version, which can tell of each of its keys
pub record IsTreeIn (version : Version) (tree : Json) (ring : Ring) : Type 0 where
  pub is : tree ≡ tree_of version ring
  pub keys : AllByRecursion (IsKeyIn version) ring
  pub form : HasForm ring

-- a tree is that of a ring, in one of the versions
abbrev pub IsRingTree : Json → Ring → Type 0
IsRingTree tree ring = (version : Version) × IsTreeIn version tree ring

-- the bytes are a JSON text of a ring in a version
abbrev pub IsFileIn : Version → List ℕ → Ring → Type 0
IsFileIn version bytes ring = (tree : Json) × (tree_in bytes ≡ Some tree) × IsTreeIn version tree ring

-- the bytes are a JSON text of a ring as it was written before keys had an algorithm
abbrev pub IsOldFile : List ℕ → Ring → Type 0
IsOldFile bytes ring = IsFileIn First bytes ring

-- the bytes are a JSON text of a ring, in one of the versions
abbrev pub IsRingFile : List ℕ → Ring → Type 0
IsRingFile bytes ring = (version : Version) × IsFileIn version bytes ring

-- the text that is written: compact, with the members in byte order, and no line end
abbrev pub ring_text : Ring → List ℕ
ring_text ring = compact (ring_tree ring)

-- the name of the first key that has the name of one before it, after the earlier keys
abbrev pub repeated_after : Ring → Ring → Option (List ℕ)
repeated_after earlier [] = None
repeated_after earlier (key ∷ ring) = if has_key (kid_of key) earlier then Some (kid_of key) else repeated_after (earlier ++ key ∷ []) ring

-- the name of the first key that stands twice
abbrev pub repeated_in : Ring → Option (List ℕ)
repeated_in ring = repeated_after [] ring

-- the ring of these keys, or Known where one stands twice
abbrev pub OpensKeys : Ring → Result Ring RingFault → Type 0
OpensKeys keys (Ok ring) = (ring ≡ keys) × (repeated_in keys ≡ None)
OpensKeys keys (Err (Known kid)) = repeated_in keys ≡ Some kid
OpensKeys keys (Err Memory) = Unit {0}
OpensKeys keys (Err fault) = ⊥

-- a key joins the earlier ones, or is Known where one of them has its name
abbrev pub Joins : Ring → RingKey → Result (Unit {0}) RingFault → Ring → Type 0
Joins earlier key (Ok x) now = (has_key (kid_of key) earlier ≡ false) × (now ≡ earlier ++ key ∷ [])
Joins earlier key (Err (Known kid)) now = (has_key (kid_of key) earlier ≡ true) × (kid ≡ kid_of key)
Joins earlier key (Err Memory) now = Unit {0}
Joins earlier key (Err fault) now = ⊥

-- the ring of a file; Shape where it is no file of a ring, Known where a key stands twice
abbrev pub Opens : List ℕ → Result Ring RingFault → Type 0
Opens bytes (Ok ring) = IsRingFile bytes ring × (repeated_in ring ≡ None)
Opens bytes (Err Shape) = (ring : Ring) → ¬ IsRingFile bytes ring
Opens bytes (Err (Known kid)) = (ring : Ring) × IsRingFile bytes ring × (repeated_in ring ≡ Some kid)
Opens bytes (Err Memory) = Unit {0}
Opens bytes (Err fault) = ⊥

-- a text is the file of a ring as it is written, and opens as that ring
abbrev pub IsWritten : List ℕ → Ring → Type 0
IsWritten text ring = IsFileIn Second text ring × Opens text (Ok ring)

-- the text of a ring of one new key, where its moments are in their order
abbrev pub first_text : Alg → List ℕ → ℕ → ℕ → Result (List ℕ) RingFault
first_text alg seeds at exp = if nat_le exp at then Err (Order Exp) else Ok (ring_text (fresh_key alg seeds at exp ∷ []))

-- that text, which is the file of that ring; of want of memory nothing is said
abbrev pub IsFirstFile : Alg → List ℕ → ℕ → ℕ → Result (List ℕ) RingFault → Type 0
IsFirstFile alg seeds at exp (Err Memory) = Unit {0}
IsFirstFile alg seeds at exp (Err fault) = first_text alg seeds at exp ≡ Err fault
IsFirstFile alg seeds at exp (Ok text) = (first_text alg seeds at exp ≡ Ok text) × IsWritten text (fresh_key alg seeds at exp ∷ [])
