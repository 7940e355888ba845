-- Places of own calls, from one moment to a later one.
use Rattle.std.proofs.Common.{◌≡◌, ◌≤◌, ◌<◌, ◌⊎◌, ◌+◌, ℕ, List, [], ◌∷◌, ◌++◌, length, map, Bool, true, false, cond, Some, sym, ap, ◌∙◌, subst, inl, inr, ⊎_elim, append_assoc, append-nil, length-append, le_trans, ltb, arith}
use Rattle.std.specs.Prelude.{All, slice_get}
use Rattle.std.proofs.lemmas.List.Elements.{All-head, All-tail}
use Rattle.std.proofs.lemmas.Option.{slice_get_within}
use Rattle.turn_log.specs.Passes.{untaken, IsJoined, IsSameBut}
use Rattle.turn_log.specs.Places.{IsIn, merged, put_in}
use Rattle.turn_log.specs.Runs.{Account, Adds, IsPrefix}
use Rattle.resolver_service.specs.Passes.{IsCallless}
use Rattle.resolver_service.specs.Precedence.{Follows, Precedes}

-- ---- lists of places

in_front : (p : ℕ) (xs ys : List ℕ) → IsIn p xs → IsIn p (xs ++ ys)
in_front p [] ys h = absurd h
in_front p (x ∷ xs) ys (inl same) = inl same
in_front p (x ∷ xs) ys (inr more) = inr (in_front p xs ys more)

in_either : (p : ℕ) (xs ys : List ℕ) → IsIn p (xs ++ ys) → IsIn p xs ⊎ IsIn p ys
in_either p [] ys h = inr h
in_either p (x ∷ xs) ys (inl same) = inl (inl same)
in_either p (x ∷ xs) ys (inr more) = ⊎_elim (λ k. inl (inr k)) (λ k. inr k) (in_either p xs ys more)

has_put : (q p : ℕ) (xs : List ℕ) → IsIn q (put_in p xs) → (q ≡ p) ⊎ IsIn q xs
has_put q p [] h = h
has_put q p (x ∷ xs) h = by (ltb p x) (has_put q p xs) h
  where
    by : (b : Bool) → (IsIn q (put_in p xs) → (q ≡ p) ⊎ IsIn q xs) → IsIn q (cond b (p ∷ x ∷ xs) (x ∷ put_in p xs)) → (q ≡ p) ⊎ IsIn q (x ∷ xs)
    by true again k = k
    by false again k = ⊎_elim (λ e. inr (inl e)) (λ t. ⊎_elim (λ e. inl e) (λ u. inr (inr u)) (again t)) k

put_has : (q p : ℕ) (xs : List ℕ) → (q ≡ p) ⊎ IsIn q xs → IsIn q (put_in p xs)
put_has q p [] h = h
put_has q p (x ∷ xs) h = by (ltb p x) (put_has q p xs) h
  where
    by : (b : Bool) → ((q ≡ p) ⊎ IsIn q xs → IsIn q (put_in p xs)) → (q ≡ p) ⊎ IsIn q (x ∷ xs) → IsIn q (cond b (p ∷ x ∷ xs) (x ∷ put_in p xs))
    by true again k = k
    by false again k = ⊎_elim (λ e. inr (again (inl e))) (λ t. ⊎_elim (λ e. inl e) (λ u. inr (again (inr u))) t) k

has_merged : (q : ℕ) (xs ys : List ℕ) → IsIn q (merged xs ys) → IsIn q xs ⊎ IsIn q ys
has_merged q [] ys h = inr h
has_merged q (x ∷ xs) ys h = ⊎_elim (λ e. inl (inl e)) (λ t. ⊎_elim (λ k. inl (inr k)) (λ k. inr k) (has_merged q xs ys t)) (has_put q x (merged xs ys) h)

merged_has : (q : ℕ) (xs ys : List ℕ) → IsIn q xs ⊎ IsIn q ys → IsIn q (merged xs ys)
merged_has q [] ys (inl none) = absurd none
merged_has q [] ys (inr h) = h
merged_has q (x ∷ xs) ys (inl (inl same)) = put_has q x (merged xs ys) (inl same)
merged_has q (x ∷ xs) ys (inl (inr more)) = put_has q x (merged xs ys) (inr (merged_has q xs ys (inl more)))
merged_has q (x ∷ xs) ys (inr h) = put_has q x (merged xs ys) (inr (merged_has q xs ys (inr h)))

all_in : (P : ℕ → Type 0) (xs : List ℕ) → All P xs → (p : ℕ) → IsIn p xs → P p
all_in P [] all p h = absurd h
all_in P (x ∷ xs) all p (inl same) = subst P (sym same) (All-head P x xs all)
all_in P (x ∷ xs) all p (inr more) = all_in P xs (All-tail P x xs all) p more

-- where calls stand is within the list
places_within : {X : Type 0} (seen : List X) (places : List ℕ) (calls : List X) → map (slice_get seen) places ≡ map Some calls → (p : ℕ) → IsIn p places → p < length seen
places_within seen [] calls are p h = absurd h
places_within seen (q ∷ places) [] are p h = cc are
places_within seen (q ∷ places) (x ∷ calls) are p (inl same) =
    let head : slice_get seen q ≡ Some x = cc are in
    subst (λ (n : ℕ). n < length seen) (sym same) (slice_get_within seen q x head)
places_within seen (q ∷ places) (x ∷ calls) are p (inr more) =
    let tail : map (slice_get seen) places ≡ map Some calls = cc are in
    places_within seen places calls tail p more

module _ {X : Type 0} where
  pub prefix_le : (a b : List X) → IsPrefix a b → length a ≤ length b
  prefix_le a b is = let size : length b ≡ length a + length is.0 = ap length is.1 ∙ length-append a is.0 in omega (arith, size)

  prefix_after : (a b c : List X) → IsPrefix a b → IsPrefix b c → IsPrefix a c
  prefix_after a b c one next = (one.0 ++ next.0, next.1 ∙ ap (λ xs. xs ++ next.0) one.1 ∙ append_assoc a one.0 next.0)

-- ---- what is known of an object

module _ {C R : Type 0} where
  -- from this place on, among what was seen
  abbrev pub LiesFrom : ℕ → Account C R → ℕ → Type 0
  LiesFrom least a place = (least ≤ place) × (place < length a.seen)

  pub lies_on : (least : ℕ) (a b : Account C R) (place : ℕ) → IsPrefix a.seen b.seen → LiesFrom least a place → LiesFrom least b place
  lies_on least a b place more lies = let longer = prefix_le a.seen b.seen more in let l = lies.1 in (lies.0, omega (arith, l, longer))

  -- what was seen before still stands in front, and no own call was lost; each that was made meanwhile stands from this place on
  pub record Gathers (least : ℕ) (old new : Account C R) : Type 0 where
    pub seen : IsPrefix old.seen new.seen
    pub kept : (place : ℕ) → IsIn place old.mine → IsIn place new.mine
    pub each : (place : ℕ) → IsIn place new.mine → IsIn place old.mine ⊎ LiesFrom least new place

  pub gathers_none : (least : ℕ) (a : Account C R) → Gathers least a a
  gathers_none least a = record { seen = ([], sym (append-nil a.seen)); kept = λ place h. h; each = λ place h. inl h }

  pub gathers_after : (least : ℕ) (a b c : Account C R) → Gathers least a b → Gathers least b c → Gathers least a c
  gathers_after least a b c one next = record {
    seen = prefix_after a.seen b.seen c.seen one.seen next.seen;
    kept = λ place h. next.kept place (one.kept place h);
    each = λ place h.
        ⊎_elim (λ k. ⊎_elim (λ old. inl old) (λ w. inr (lies_on least b c place next.seen w)) (one.each place k)) (λ w. inr w) (next.each place h);
  }

  -- calls that were added
  pub gathers_adds : (least : ℕ) (old new : Account C R) (calls : List (C × R)) → least ≤ length old.seen → Adds old new calls → Gathers least old new
  gathers_adds least old new calls low adds = record {
    seen = adds.seen;
    kept = λ place h. subst (IsIn place) (sym adds.mine) (in_front place old.mine adds.places h);
    each = λ place h.
        ⊎_elim (λ k. inl k)
        (λ k. inr (le_trans low (all_in (λ p. length old.seen ≤ p) adds.places adds.later place k), places_within new.seen adds.places calls adds.are place k))
        (in_either place old.mine adds.places (subst (IsIn place) adds.mine h));
  }

  -- of a pass that was split off
  pub gathers_fresh : (least : ℕ) (split new : Account C R) → IsCallless split new → Gathers least (untaken split) new
  gathers_fresh least split new fresh = record {
    seen = ([], fresh.seen ∙ sym (append-nil split.seen));
    kept = λ place h. absurd h;
    each = λ place h. absurd (subst (IsIn place) fresh.mine h);
  }

  -- from a pass that has seen and made the same
  pub gathers_same : (least : ℕ) (a b c : Account C R) → IsSameBut a b → Gathers least b c → Gathers least a c
  gathers_same least a b c same gathers = record {
    seen = (gathers.seen.0, gathers.seen.1 ∙ ap (λ s. s ++ gathers.seen.0) same.seen);
    kept = λ place h. gathers.kept place (subst (IsIn place) (sym same.mine) h);
    each = λ place h. ⊎_elim (λ k. inl (subst (IsIn place) same.mine k)) (λ w. inr w) (gathers.each place h);
  }

  -- what another caller gathered that had none of its own
  pub gathers_joined : (least : ℕ) (split old other new : Account C R) → Gathers least (untaken split) other → IsJoined old other new → Gathers least old new
  gathers_joined least split old other new gathers joined = record {
    seen = joined.begins;
    kept = λ place h. subst (IsIn place) (sym joined.mine) (merged_has place old.mine other.mine (inl h));
    each = λ place h.
        ⊎_elim (λ k. inl k) (λ k. ⊎_elim (λ none. absurd none) (λ w. inr (lies_on least other new place joined.begins_other w)) (gathers.each place k))
        (has_merged place old.mine other.mine (subst (IsIn place) joined.mine h));
  }

  pub joined_has : (old other new : Account C R) (place : ℕ) → IsJoined old other new → IsIn place other.mine → IsIn place new.mine
  joined_has old other new place joined h = subst (IsIn place) (sym joined.mine) (merged_has place old.mine other.mine (inr h))

  pub joined_from : (old other new : Account C R) (place : ℕ) → IsJoined old other new → IsIn place new.mine → IsIn place old.mine ⊎ IsIn place other.mine
  joined_from old other new place joined h = has_merged place old.mine other.mine (subst (IsIn place) joined.mine h)

  pub follows : (old new : Account C R) → Gathers (length old.seen) old new → Follows old new
  follows old new gathers = record {
    seen = gathers.seen;
    kept = gathers.kept;
    past = λ place made. ⊎_elim (λ old. absurd (made.1 old)) (λ w. w) (gathers.each place made.0);
  }

  -- calls of an earlier stretch stand before those of a later one
  pub stand_before : (a b c d : Account C R) → Follows a b → length b.seen ≤ length c.seen → Follows c d → Precedes a b c d
  stand_before a b c d one between other x y made later = let l = (one.past x made).1 in let m = (other.past y later).0 in omega arith
