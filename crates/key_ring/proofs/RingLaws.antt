-- What changes keep of a ring.
use Rattle.std.proofs.Common.{◌≡◌, ◌≤◌, ◌<◌, ℕ, zero, suc, List, [], ◌∷◌, map, length, Bool, true, false, not, cond, nat_le, bytes_eq, Option, Some, None, Contains, get_or, refl, sym, ap, ◌∙◌, subst, arith}
use Rattle.std.proofs.lemmas.Bool.{true≢false, leb-false, not-false, or_parts}
use Rattle.std.proofs.lemmas.List.Elements.{Contains-append_right}
use Rattle.std.proofs.lemmas.Map.Keys.{IsDistinct-cons, IsDistinct-head, IsDistinct-tail}
use Rattle.std.proofs.lemmas.Slice.Eq.{bytes_eq-Decides}
use Rattle.std.specs.List.{AllByRecursion, IsDistinct}
use Rattle.std.specs.Option.{option_or}
use Rattle.key_ring.specs.declared.key.KeyState.{KeyState}
use Rattle.key_ring.specs.declared.key.KeyState.TheVariants.{Live, Retired, Revoked}
use Rattle.key_ring.specs.declared.fault.OrderFault.TheVariants.{Exp, NotLive, LastLive, Full}
use Rattle.key_ring.specs.declared.fault.RingFault.{RingFault}
use Rattle.key_ring.specs.declared.fault.RingFault.TheVariants.{Order}
use Rattle.key_ring.specs.declared.key.RingKey.{RingKey}
use Rattle.key_ring.specs.Changes.{AreChanges, Change, Add, Put, IsFit, after, fault_of, fault_of_putting, fault_where, fresh_key, kid_added, may_follow, with_state}
use Rattle.key_ring.specs.Lasting.{RevokedStay}
use Rattle.key_ring.specs.Rings.{IsRing, IsRingKey, IsTimelyState, Ring, has_key, has_live, is_named, is_revoked, key_at, kid_of, most_keys, revoked_state}

-- ---- no fault

none-first : (a b : Option RingFault) → option_or a b ≡ None → (a ≡ None) × (b ≡ None)
none-first None b e = (refl, e)
none-first (Some f) b e = cc e

none-where : (b : Bool) (f : RingFault) → fault_where b f ≡ None → b ≡ false
none-where true f e = cc e
none-where false f e = refl

-- a key in another state without a fault: there is the key, it may be put there, and a live key remains
record Passes (found : Option RingKey) (state : KeyState) (changed : Ring) : Type 0 where
  key : RingKey
  is : found ≡ Some key
  follows : may_follow state key.state ≡ true
  lives : has_live changed ≡ true

passes-at : (found : Option RingKey) (kid : List ℕ) (state : KeyState) (changed : Ring) → fault_of_putting found kid state changed ≡ None → Passes found state changed
passes-at None kid state changed e = cc e
passes-at (Some key) kid state changed e =
    let parts = none-first (fault_where (not (may_follow state key.state)) (Order NotLive)) (fault_where (not (has_live changed)) (Order LastLive)) e in
    record {
      key = key;
      is = refl;
      follows = not-false (may_follow state key.state) (none-where (not (may_follow state key.state)) _ parts.0);
      lives = not-false (has_live changed) (none-where (not (has_live changed)) _ parts.1);
    }

-- ---- another state

kids-stay : (kid : List ℕ) (state : KeyState) (ring : Ring) → map kid_of (map (with_state kid state) ring) ≡ map kid_of ring
kids-stay kid state [] = refl
kids-stay kid state (key ∷ ring) = ap (λ ks. kid_of key ∷ ks) (kids-stay kid state ring)

length-stays : (kid : List ℕ) (state : KeyState) (ring : Ring) → length (map (with_state kid state) ring) ≡ length ring
length-stays kid state [] = refl
length-stays kid state (key ∷ ring) = ap suc (length-stays kid state ring)

timely-case : (b : Bool) (new old : KeyState) → IsTimelyState new → IsTimelyState old → IsTimelyState (cond b new old)
timely-case true new old first second = first
timely-case false new old first second = second

key-stays : (kid : List ℕ) (state : KeyState) (key : RingKey) → IsTimelyState state → IsRingKey key → IsRingKey (with_state kid state key)
key-stays kid state key timely is =
    record { size = is.size; octets = is.octets; order = is.order; small = is.small; state = timely-case (is_named kid key) state key.state timely is.state }

keys-stay : (kid : List ℕ) (state : KeyState) (ring : Ring) → IsTimelyState state → AllByRecursion IsRingKey ring → AllByRecursion IsRingKey (map (with_state kid state) ring)
keys-stay kid state [] timely all = tt
keys-stay kid state (key ∷ ring) timely all = (key-stays kid state key timely all.0, keys-stay kid state ring timely all.1)

-- ---- the key of a name

-- what holds of all names holds of that of a key
name-at : (P : List ℕ → Type 0) (ring : Ring) (i : ℕ) (key : RingKey) → AllByRecursion P (map kid_of ring) → i < length ring → get_or ring i key ≡ key → P (kid_of key)
name-at P [] i key all within is = absurd (omega arith)
name-at P (k ∷ ring) zero key all within is = subst (λ k. P (kid_of k)) is all.0
name-at P (k ∷ ring) (suc i) key all within is = name-at P ring i key all.1 (omega arith) is

same-name : (kid : List ℕ) (a b : RingKey) → is_named kid a ≡ true → is_named kid b ≡ true → bytes_eq (kid_of a) (kid_of b) ≡ true
same-name kid a b first second = (bytes_eq-Decides (kid_of a) (kid_of b)).1 (sym ((bytes_eq-Decides kid (kid_of a)).0 first) ∙ (bytes_eq-Decides kid (kid_of b)).0 second)

some-is : (a b : RingKey) → Some a ≡ Some b → a ≡ b
some-is a b e = cc e

-- of keys that are all different the one of a name is the one that is found
found-is : (kid : List ℕ) (key k : RingKey) (ring : Ring) (i : ℕ) → IsDistinct bytes_eq (map kid_of ring) → i < length ring → get_or ring i key ≡ key → is_named kid key ≡ true
    → key_at kid ring ≡ Some k → k ≡ key
found-is kid key k [] i once within is named found = absurd (omega arith)
found-is kid key k (x ∷ ring) zero once within is named found =
    let here : is_named kid x ≡ true = ap (is_named kid) is ∙ named in
    sym (some-is x k (sym (ap (λ b. cond b (Some x) (key_at kid ring)) here) ∙ found)) ∙ is
found-is kid key k (x ∷ ring) (suc i) once within is named found =
    by_case (is_named kid x) refl found (λ rest. found-is kid key k ring i (IsDistinct-tail bytes_eq (kid_of x) (map kid_of ring) once) (omega arith) is named rest)
  where
    by_case : (b : Bool) → is_named kid x ≡ b → cond b (Some x) (key_at kid ring) ≡ Some k → (key_at kid ring ≡ Some k → k ≡ key) → k ≡ key
    by_case true same e further =
        let differs = name-at (λ y. bytes_eq (kid_of x) y ≡ false) ring i key (IsDistinct-head bytes_eq (kid_of x) (map kid_of ring) once) (omega arith) is in
        absurd (true≢false (sym (same-name kid x key same named) ∙ differs))
    by_case false other e further = further e

-- a key that a change of keys leaves as it is stays
stays-at : (f : RingKey → RingKey) (key : RingKey) (ring : Ring) (i : ℕ) → f key ≡ key → i < length ring → get_or ring i key ≡ key → Contains (map f ring) key
stays-at f key [] i fixed within is = absurd (omega arith)
stays-at f key (x ∷ ring) zero fixed within is = (0, omega arith, ap f is ∙ fixed)
stays-at f key (x ∷ ring) (suc i) fixed within is = let at = stays-at f key ring i fixed (omega arith) is in (suc at.0, omega (arith, at.1), at.2)

abbrev put_if : Bool → KeyState → RingKey → RingKey
put_if b state key = record { alg = key.alg; seeds = key.seeds; iat = key.iat; exp = key.exp; state = cond b state key.state }

-- a revoked key stays as it was where the key that is put in another state isn't revoked
revoked-stays : (kid : List ℕ) (state : KeyState) (key k : RingKey) (ring : Ring) → IsDistinct bytes_eq (map kid_of ring) → key_at kid ring ≡ Some k → is_revoked k ≡ false
    → Contains ring key → is_revoked key ≡ true → Contains (map (with_state kid state) ring) key
revoked-stays kid state key k ring once found isn't at revoked = by_case (is_named kid key) refl
  where
    by_case : (b : Bool) → is_named kid key ≡ b → Contains (map (with_state kid state) ring) key
    by_case true named = absurd (true≢false (sym revoked ∙ ap is_revoked (sym (found-is kid key k ring at.0 once at.1 at.2 named found)) ∙ isn't))
    by_case false other = stays-at (with_state kid state) key ring at.0 (ap (λ b. put_if b state key) other) at.1 at.2

follows-unrevoked : (new old : KeyState) → may_follow new old ≡ true → revoked_state old ≡ false
follows-unrevoked Live old e = cc e
follows-unrevoked Retired Live e = refl
follows-unrevoked Retired Retired e = refl
follows-unrevoked Retired (Revoked at reason) e = cc e
follows-unrevoked (Revoked at reason) Live e = refl
follows-unrevoked (Revoked at reason) Retired e = refl
follows-unrevoked (Revoked at reason) (Revoked before why) e = cc e

-- ---- a new key

pub name-unknown : (kid : List ℕ) (ring : Ring) → has_key kid ring ≡ false → AllByRecursion (λ y. bytes_eq kid y ≡ false) (map kid_of ring)
name-unknown kid [] none = tt
name-unknown kid (x ∷ ring) none = let parts = or_parts (is_named kid x) (has_key kid ring) none in (parts.0, name-unknown kid ring parts.1)

-- ---- one change

state-changed : (ring : Ring) (kid : List ℕ) (state : KeyState) → IsRing ring → IsTimelyState state → has_live (map (with_state kid state) ring) ≡ true → IsRing (map (with_state kid state) ring)
state-changed ring kid state is timely lives = record {
  form = record {
    keys = keys-stay kid state ring timely is.form.keys;
    live = lives;
    few = subst (λ n. n ≤ most_keys) (sym (length-stays kid state ring)) is.form.few;
  };
  distinct = subst (IsDistinct bytes_eq) (sym (kids-stay kid state ring)) is.distinct;
}

pub step-ring : (ring : Ring) (change : Change) → IsRing ring → IsFit change → fault_of ring change ≡ None → IsRing (after ring change)
step-ring ring (Add alg seeds at exp) is fit e =
    let order = none-first (fault_where (nat_le exp at) (Order Exp)) _ e in
    let room = none-first (fault_where (nat_le most_keys (length ring)) (Order Full)) _ order.1 in
    let later : at < exp = leb-false exp at (none-where (nat_le exp at) _ order.0) in
    let small : length ring < most_keys = leb-false most_keys (length ring) (none-where (nat_le most_keys (length ring)) _ room.0) in
    let unknown = name-unknown (kid_added alg seeds) ring (none-where (has_key (kid_added alg seeds) ring) _ room.1) in
    record {
      form = record {
        keys = (record { size = fit.0; octets = fit.1; order = later; small = fit.2; state = tt }, is.form.keys);
        live = refl;
        few = omega (arith, small);
      };
      distinct = IsDistinct-cons bytes_eq (kid_added alg seeds) (map kid_of ring) unknown is.distinct;
    }
step-ring ring (Put kid state) is fit e = state-changed ring kid state is fit (passes-at (key_at kid ring) kid state (map (with_state kid state) ring) e).lives

step-revoked : (ring : Ring) (change : Change) → IsRing ring → fault_of ring change ≡ None → RevokedStay ring (after ring change)
step-revoked ring (Add alg seeds at exp) is e key there revoked = Contains-append_right (fresh_key alg seeds at exp ∷ []) ring key there
step-revoked ring (Put kid state) is e key there revoked =
    let passes = passes-at (key_at kid ring) kid state (map (with_state kid state) ring) e in
    revoked-stays kid state key passes.key ring is.distinct passes.is (follows-unrevoked state passes.key.state passes.follows) there revoked

-- ---- all changes

pub changes-ring : (old new : Ring) (changes : List Change) → IsRing old → AllByRecursion IsFit changes → AreChanges old changes new → IsRing new
changes-ring old new [] is fit e = subst IsRing (sym e) is
changes-ring old new (change ∷ changes) is fit e = changes-ring (after old change) new changes (step-ring old change is fit.0 e.0) fit.1 e.1

-- what is asked of a ring for this is that no two keys have one name, which every change keeps
pub changes-revoked : (old new : Ring) (changes : List Change) → IsRing old → AllByRecursion IsFit changes → AreChanges old changes new → RevokedStay old new
changes-revoked old new [] is fit e key there revoked = subst (λ ring. Contains ring key) (sym e) there
changes-revoked old new (change ∷ changes) is fit e key there revoked =
    changes-revoked (after old change) new changes (step-ring old change is fit.0 e.0) fit.1 e.1 key (step-revoked old change is e.0 key there revoked) revoked
