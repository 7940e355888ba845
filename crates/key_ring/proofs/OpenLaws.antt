-- Opening a ring: its keys are taken one after the other, and each is compared with the earlier ones.
use Rattle.std.proofs.Common.{◌≡◌, ◌<◌, ◌≤◌, ℕ, zero, suc, ◌+◌, List, [], ◌∷◌, ◌++◌, length, map, take, drop, true, false, ◌||◌, cond, get_or, bytes_eq, drop-cons, drop_of_length-le, add-one, Some, None, Err, refl, sym, ap, ap₂, ◌∙◌, subst, arith}
use Rattle.std.proofs.Math.Seq.{take-suc}
use Rattle.std.proofs.lemmas.List.{map-append, take_all}
use Rattle.std.proofs.lemmas.Bool.{or_parts}
use Rattle.std.proofs.lemmas.Map.Keys.{IsDistinct-head, IsDistinct-push, IsDistinct-tail}
use Rattle.std.specs.Cmp.Lexicographic.{nat_list_eq_equiv}
use Rattle.std.specs.List.{AllByRecursion, IsDistinct, list_any}
use Rattle.key_ring.specs.declared.key.RingKey.{RingKey}
use Rattle.key_ring.specs.declared.fault.RingFault.{RingFault}
use Rattle.key_ring.specs.declared.fault.RingFault.TheVariants.{Shape, Known, Unknown, Order, StoreFault, Memory}
use Rattle.key_ring.specs.Files.{Joins, OpensKeys, repeated_after, repeated_in}
use Rattle.key_ring.specs.Rings.{HasForm, IsRing, Ring, has_key, is_named, kid_of}

-- the first so many keys are open, no two of one name
pub record Opened (held keys : Ring) (count : ℕ) : Type 0 where
  pub are : held ≡ take count keys
  pub rest : repeated_in keys ≡ repeated_after held (drop count keys)
  pub distinct : IsDistinct bytes_eq (map kid_of held)

pub opened_none : (held keys : Ring) → held ≡ [] → Opened held keys 0
unfolding IsDistinct
opened_none held keys none = subst (λ ks. Opened ks keys 0) (sym none) (record { are = refl; rest = refl; distinct = tt })

next_key : (held keys : Ring) (i : ℕ) (key : RingKey) → Opened held keys i → i < length keys → key ≡ get_or keys i key → repeated_in keys ≡ repeated_after held (key ∷ drop (i + 1) keys)
next_key held keys i key so_far within is =
    so_far.rest ∙ ap (repeated_after held) (drop-cons keys i key within ∙ ap₂ (λ k ks. k ∷ ks) (sym is) (ap (λ n. drop n keys) (sym (add-one i))))

pub opened_twice : (held keys : Ring) (i : ℕ) (key : RingKey) → Opened held keys i → i < length keys → key ≡ get_or keys i key → has_key (kid_of key) held ≡ true → repeated_in keys ≡ Some (kid_of key)
opened_twice held keys i key so_far within is twice =
    next_key held keys i key so_far within is ∙ ap (λ b. cond b (Some (kid_of key)) (repeated_after (held ++ key ∷ []) (drop (i + 1) keys))) twice

names_of : (kid : List ℕ) (keys : Ring) → list_any (bytes_eq kid) (map kid_of keys) ≡ has_key kid keys
names_of kid [] = refl
names_of kid (key ∷ keys) = ap (λ b. is_named kid key || b) (names_of kid keys)

opened_more : (held new keys : Ring) (i : ℕ) (key : RingKey) → Opened held keys i → i < length keys → key ≡ get_or keys i key → has_key (kid_of key) held ≡ false → new ≡ held ++ key ∷ []
    → Opened new keys (i + 1)
opened_more held new keys i key so_far within is other more =
    subst (λ ks. Opened ks keys (i + 1)) (sym more) (record {
      are = ap₂ (λ a k. a ++ k ∷ []) so_far.are is ∙ sym (take-suc keys i key within) ∙ ap (λ n. take n keys) (sym (add-one i));
      rest = next_key held keys i key so_far within is ∙ ap (λ b. cond b (Some (kid_of key)) (repeated_after (held ++ key ∷ []) (drop (i + 1) keys))) other;
      distinct = subst (IsDistinct bytes_eq) (sym (map-append kid_of held (key ∷ [])))
          (IsDistinct-push nat_list_eq_equiv (map kid_of held) (kid_of key) so_far.distinct (names_of (kid_of key) held ∙ other));
    })

at_any : (keys : Ring) (i : ℕ) (d e : RingKey) → i < length keys → get_or keys i d ≡ get_or keys i e
at_any [] i d e within = absurd (omega arith)
at_any (k ∷ keys) zero d e within = refl
at_any (k ∷ keys) (suc i) d e within = at_any keys i d e (omega arith)

pub opened_next : (held new keys : Ring) (i : ℕ) (key d : RingKey) → Opened held keys i → i < length keys → key ≡ get_or keys i d → has_key (kid_of key) held ≡ false → new ≡ held ++ key ∷ []
    → Opened new keys (i + 1)
opened_next held new keys i key d so_far within is other more = opened_more held new keys i key so_far within (is ∙ at_any keys i d key within) other more

-- a key that doesn't join them
pub opened_fault : (held keys new : Ring) (i : ℕ) (key d : RingKey) (fault : RingFault) → Opened held keys i → i < length keys → key ≡ get_or keys i d → Joins held key (Err fault) new
    → OpensKeys keys (Err fault)
opened_fault held keys new i key d (Known kid) so_far within is joins =
    opened_twice held keys i key so_far within (is ∙ at_any keys i d key within) joins.0 ∙ ap Some (sym joins.1)
opened_fault held keys new i key d Memory so_far within is joins = tt
opened_fault held keys new i key d Shape so_far within is joins = absurd joins
opened_fault held keys new i key d StoreFault so_far within is joins = absurd joins
opened_fault held keys new i key d (Unknown kid) so_far within is joins = absurd joins
opened_fault held keys new i key d (Order order) so_far within is joins = absurd joins

all_open : (held keys : Ring) (i : ℕ) → Opened held keys i → length keys ≤ i → held ≡ keys
all_open held keys i so_far past = so_far.are ∙ take_all i keys past

pub opened_all : (held keys : Ring) (i : ℕ) → Opened held keys i → length keys ≤ i → (held ≡ keys) × (repeated_in keys ≡ None)
opened_all held keys i so_far past = (all_open held keys i so_far past, so_far.rest ∙ ap (repeated_after held) (drop_of_length-le keys past))

pub opened_ring : (held keys : Ring) (i : ℕ) → Opened held keys i → length keys ≤ i → HasForm keys → IsRing held
opened_ring held keys i so_far past form = record { form = subst HasForm (sym (all_open held keys i so_far past)) form; distinct = so_far.distinct }

-- ---- keys of which no two have one name

-- no earlier key has the name of one of these
abbrev Apart : Ring → Ring → Type 0
Apart earlier ring = AllByRecursion (λ (key : RingKey). has_key (kid_of key) earlier ≡ false) ring

apart-none : (ring : Ring) → Apart [] ring
apart-none [] = tt
apart-none (key ∷ ring) = (refl, apart-none ring)

has-more : (kid : List ℕ) (earlier : Ring) (key : RingKey) → has_key kid earlier ≡ false → is_named kid key ≡ false → has_key kid (earlier ++ key ∷ []) ≡ false
has-more kid [] key none other = ap (λ b. b || false) other
has-more kid (e ∷ earlier) key none other =
    let parts = or_parts (is_named kid e) (has_key kid earlier) none in
    ap₂ (λ a b. a || b) parts.0 (has-more kid earlier key parts.1 other)

apart-more : (earlier : Ring) (key : RingKey) (ring : Ring) → Apart earlier ring → AllByRecursion (λ y. bytes_eq (kid_of key) y ≡ false) (map kid_of ring) → Apart (earlier ++ key ∷ []) ring
apart-more earlier key [] apart others = tt
apart-more earlier key (k ∷ ring) apart others =
    (has-more (kid_of k) earlier key apart.0 (nat_list_eq_equiv.symm (kid_of k) (kid_of key) ∙ others.0), apart-more earlier key ring apart.1 others.1)

none-again : (earlier ring : Ring) → Apart earlier ring → IsDistinct bytes_eq (map kid_of ring) → repeated_after earlier ring ≡ None
none-again earlier [] apart once = refl
none-again earlier (key ∷ ring) apart once =
    ap (λ b. cond b (Some (kid_of key)) (repeated_after (earlier ++ key ∷ []) ring)) apart.0
    ∙ none-again (earlier ++ key ∷ []) ring
    (apart-more earlier key ring apart.1 (IsDistinct-head bytes_eq (kid_of key) (map kid_of ring) once)) (IsDistinct-tail bytes_eq (kid_of key) (map kid_of ring) once)

pub none-twice : (ring : Ring) → IsRing ring → repeated_in ring ≡ None
none-twice ring is = none-again [] ring (apart-none ring) is.distinct
