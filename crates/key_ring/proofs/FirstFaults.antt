-- The first fault of a change, where it has one.
use Rattle.std.proofs.Common.{◌≡◌, ◌<◌, ℕ, List, map, length, Bool, true, false, not, nat_le, Option, Some, refl, ap, ◌∙◌}
use Rattle.std.proofs.lemmas.Bool.{lt-leb}
use Rattle.std.specs.Option.{option_or}
use Rattle.fed_base.specs.declared.algorithm.Alg.{Alg}
use Rattle.key_ring.specs.declared.key.KeyState.{KeyState}
use Rattle.key_ring.specs.declared.fault.OrderFault.TheVariants.{Exp, NotLive, LastLive, Full}
use Rattle.key_ring.specs.declared.fault.RingFault.{RingFault}
use Rattle.key_ring.specs.declared.fault.RingFault.TheVariants.{Known, Order}
use Rattle.key_ring.specs.declared.key.RingKey.{RingKey}
use Rattle.key_ring.specs.Changes.{Add, Put, fault_of, fault_of_putting, fault_where, kid_added, may_follow, with_state}
use Rattle.key_ring.specs.Rings.{Ring, has_key, has_live, key_at, most_keys}

-- ---- the faults of a new key

next-where : (b : Bool) (fault : RingFault) (later : Option RingFault) → b ≡ false → option_or (fault_where b fault) later ≡ later
next-where true fault later e = cc e
next-where false fault later e = refl

last-where : (b c : Bool) (fault : RingFault) → b ≡ c → fault_where b fault ≡ fault_where c fault
last-where b c fault e = ap (λ x. fault_where x fault) e

pub adding-last : (ring : Ring) (alg : Alg) (seeds : List ℕ) (at exp : ℕ) (known : Bool) → at < exp → length ring < most_keys → has_key (kid_added alg seeds) ring ≡ known
    → fault_of ring (Add alg seeds at exp) ≡ fault_where known (Known (kid_added alg seeds))
adding-last ring alg seeds at exp known order room is =
    next-where (nat_le exp at) (Order Exp) _ (lt-leb exp at order) ∙ next-where (nat_le most_keys (length ring)) (Order Full) _ (lt-leb most_keys (length ring) room)
    ∙ last-where (has_key (kid_added alg seeds) ring) known (Known (kid_added alg seeds)) is

-- ---- the faults of another state

pub putting-last : (ring : Ring) (kid : List ℕ) (state : KeyState) (key : RingKey) (lives : Bool) → key_at kid ring ≡ Some key → may_follow state key.state ≡ true
    → has_live (map (with_state kid state) ring) ≡ lives → fault_of ring (Put kid state) ≡ fault_where (not lives) (Order LastLive)
putting-last ring kid state key lives found so is =
    ap (λ found. fault_of_putting found kid state (map (with_state kid state) ring)) found ∙ next-where (not (may_follow state key.state)) (Order NotLive) _ (ap not so)
    ∙ last-where (not (has_live (map (with_state kid state) ring))) (not lives) (Order LastLive) (ap not is)
