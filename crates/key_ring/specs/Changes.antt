-- Changes of a ring, each with the first reason that keeps it from being made.
use Rattle.std.specs.Prelude.{◌≡◌, ◌<◌, ℕ, List, [], ◌∷◌, map, length, not, nat_le, Bool, false, Option, Some, None, Result, Ok, Err, if◌then◌else◌}
use Rattle.std.specs.Option.{option_or}
use Rattle.hex.specs.Hex.{IsBytes}
use Rattle.fed_base.specs.declared.algorithm.Alg.{Alg}
use Rattle.fed_base.specs.Moments.{moment_limit}
use Rattle.sealed.specs.Sealing.{signer_name}
use Rattle.key_ring.specs.declared.key.KeyState.{KeyState}
use Rattle.key_ring.specs.declared.key.KeyState.TheVariants.{Live, Retired, Revoked}
use Rattle.key_ring.specs.declared.fault.OrderFault.TheVariants.{Exp, NotLive, LastLive, Full}
use Rattle.key_ring.specs.declared.key.RevokeReason.{RevokeReason}
use Rattle.key_ring.specs.declared.fault.RingFault.{RingFault}
use Rattle.key_ring.specs.declared.fault.RingFault.TheVariants.{Known, Unknown, Order, StoreFault, Memory}
use Rattle.key_ring.specs.declared.key.RingKey.{RingKey}
use Rattle.key_ring.specs.Rings.{IsTimelyState, Ring, has_key, has_live, is_named, key_at, live_state, most_keys, revoked_state, ring_pair}

-- a change of a ring: a new key of that algorithm and these seeds for these moments, or the key of that name in another state
pub data Change : Type 0 where
  Add : Alg → List ℕ → ℕ → ℕ → Change
  Put : List ℕ → KeyState → Change

-- the changes by their names
abbrev pub add_key : Alg → List ℕ → ℕ → ℕ → Change
add_key alg seeds at exp = Add alg seeds at exp

abbrev pub put_key : List ℕ → KeyState → Change
put_key kid state = Put kid state

abbrev pub retire_key : List ℕ → Change
retire_key kid = Put kid Retired

abbrev pub revoke_key : List ℕ → ℕ → RevokeReason → Change
revoke_key kid at reason = Put kid (Revoked at reason)

-- a new key, which is live
abbrev pub fresh_key : Alg → List ℕ → ℕ → ℕ → RingKey
fresh_key alg seeds at exp = record { alg = alg; seeds = seeds; iat = at; exp = exp; state = Live }

-- the name of the new key (RFC 7638)
abbrev pub kid_added : Alg → List ℕ → List ℕ
kid_added alg seeds = signer_name (ring_pair alg seeds)

-- the key, in that state where it has that name
abbrev pub with_state : List ℕ → KeyState → RingKey → RingKey
with_state kid state key = record { alg = key.alg; seeds = key.seeds; iat = key.iat; exp = key.exp; state = (if is_named kid key then state else key.state) }

-- the ring after a change: the new key first, or the key of that name in another state
abbrev pub after : Ring → Change → Ring
after ring (Add alg seeds at exp) = fresh_key alg seeds at exp ∷ ring
after ring (Put kid state) = map (with_state kid state) ring

-- which state may follow which: a live key retires, and a key that isn't revoked is revoked
abbrev pub may_follow : KeyState → KeyState → Bool
may_follow Live old = false
may_follow Retired old = live_state old
may_follow (Revoked at reason) old = not (revoked_state old)

-- the fault, where the test holds
abbrev pub fault_where : Bool → RingFault → Option RingFault
fault_where test fault = if test then Some fault else None

-- a new key ends after it begins, finds room, and isn't in the ring yet
abbrev pub fault_of_adding : Ring → Alg → List ℕ → ℕ → ℕ → Option RingFault
fault_of_adding ring alg seeds at exp =
    option_or (fault_where (nat_le exp at) (Order Exp))
    (option_or (fault_where (nat_le most_keys (length ring)) (Order Full))
    (fault_where (has_key (kid_added alg seeds) ring) (Known (kid_added alg seeds))))

-- the named key is in the ring, may be put in the state, and a live key remains
abbrev pub fault_of_putting : Option RingKey → List ℕ → KeyState → Ring → Option RingFault
fault_of_putting None kid state changed = Some (Unknown kid)
fault_of_putting (Some key) kid state changed =
    option_or (fault_where (not (may_follow state key.state)) (Order NotLive)) (fault_where (not (has_live changed)) (Order LastLive))

-- the first fault of a change, where it has one
abbrev pub fault_of : Ring → Change → Option RingFault
fault_of ring (Add alg seeds at exp) = fault_of_adding ring alg seeds at exp
fault_of ring (Put kid state) = fault_of_putting (key_at kid ring) kid state (after ring (Put kid state))

-- a change is made or meets a fault of the store only where it has no fault, and any other answer but want of memory is its first fault
abbrev pub Answers : {X : Type 0} → Ring → Change → Result X RingFault → Type 0
Answers ring change (Ok x) = fault_of ring change ≡ None
Answers ring change (Err StoreFault) = fault_of ring change ≡ None
Answers ring change (Err Memory) = Unit {0}
Answers ring change (Err fault) = fault_of ring change ≡ Some fault

-- changes that are made, one after the other
abbrev pub AreChanges : Ring → List Change → Ring → Type 0
AreChanges old [] new = new ≡ old
AreChanges old (change ∷ changes) new = (fault_of old change ≡ None) × AreChanges (after old change) changes new

-- the moments of a change are below 2^62, and a new key has 48 bytes of seeds
abbrev pub IsFit : Change → Type 0
IsFit (Add alg seeds at exp) = (length seeds ≡ 48) × IsBytes seeds × (exp < moment_limit)
IsFit (Put kid state) = IsTimelyState state
