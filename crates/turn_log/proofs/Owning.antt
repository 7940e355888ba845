-- Who owns the places of a list, and that who holds the whole owns each.
use Rattle.std.proofs.Common.{◌≡◌, ◌≢◌, ◌⊎◌, ℕ, ◌<◌, ◌≤◌, zero, suc, List, [], ◌∷◌, ◌++◌, length, map, set, refl, sym, ap, ◌∙◌, subst, ⊎_elim, inl, inr, arith}
use Rattle.std.proofs.lemmas.List.{map-append}
use mathlib.Core.Logic.{dite}
use mathlib.Core.Option.{Option as Maybe, some, some-injective, some-ne-none}
use native.Mathlib.Decide.{ℕ_discrete}
use lib.ListN.{get_elem?}
use Rattle.atomic_table.proofs.Lists.{at_map, set_again, set_else, set_here}
use Rattle.turn_log.specs.Places.{IsIn, Rising, places_below}
use Rattle.turn_log.specs.Rule.{Placed, share_in}
use Rattle.turn_log.specs.Shares.{IsWhole, added, all_of, halved, no_share}
use Rattle.turn_log.specs.declared.view.Share.{Share}
use Rattle.turn_log.specs.declared.view.View.{View}
use Rattle.turn_log.proofs.Shares.{AreCounted, join_whole, each_limited, others_none, split_whole}

-- ---- lists of places

pub has_snoc : (p : ℕ) (xs : List ℕ) (x : ℕ) → IsIn p (xs ++ x ∷ []) → IsIn p xs ⊎ (p ≡ x)
has_snoc p [] x h = ⊎_elim (λ e. inr e) (λ n. absurd n) h
has_snoc p (y ∷ ys) x h = ⊎_elim (λ e. inl (inl e)) (λ t. ⊎_elim (λ k. inl (inr k)) (λ e. inr e) (has_snoc p ys x t)) h

pub rising_snoc : (xs : List ℕ) (n : ℕ) → Rising xs → ((p : ℕ) → IsIn p xs → p < n) → Rising (xs ++ n ∷ [])
rising_snoc [] n r h = ((λ p k. absurd k), tt)
rising_snoc (x ∷ xs) n r h =
    ((λ p k. ⊎_elim (λ t. r.0 p t) (λ e. subst (λ (z : ℕ). x < z) (sym e) (h x (inl refl))) (has_snoc p xs n k)), rising_snoc xs n r.1 (λ p k. h p (inr k)))

pub has_front : (p : ℕ) (xs ys : List ℕ) → IsIn p xs → IsIn p (xs ++ ys)
has_front p [] ys h = absurd h
has_front p (x ∷ xs) ys h = ⊎_elim (λ e. inl e) (λ t. inr (has_front p xs ys t)) h

pub has_end : (p : ℕ) (xs : List ℕ) → IsIn p (xs ++ p ∷ [])
has_end p [] = inl refl
has_end p (x ∷ xs) = inr (has_end p xs)

pub below_has : (n p : ℕ) → p < n → IsIn p (places_below n)
below_has zero p h = absurd (omega arith)
below_has (suc n) p h =
    dite (ℕ_discrete p n)
    (λ e. subst (λ (q : ℕ). IsIn q (places_below n ++ n ∷ [])) (sym e) (has_end n (places_below n)))
    (λ apart. has_front p (places_below n) (n ∷ []) (below_has n p (omega arith)))

below_less : (n p : ℕ) → IsIn p (places_below n) → p < n
below_less zero p h = absurd h
below_less (suc n) p h = ⊎_elim (λ t. let l = below_less n p t in omega arith) (λ (e : p ≡ n). omega arith) (has_snoc p (places_below n) n h)

rising_below : (n : ℕ) → Rising (places_below n)
rising_below zero = tt
rising_below (suc n) = rising_snoc (places_below n) n (rising_below n) (below_less n)

-- rising places are known by which they are
rising_equal : (xs ys : List ℕ) → Rising xs → Rising ys → ((p : ℕ) → IsIn p xs → IsIn p ys) → ((p : ℕ) → IsIn p ys → IsIn p xs) → xs ≡ ys
rising_equal [] [] r k to from = refl
rising_equal [] (y ∷ ys) r k to from = absurd (from y (inl refl))
rising_equal (x ∷ xs) [] r k to from = absurd (to x (inl refl))
rising_equal (x ∷ xs) (y ∷ ys) r k to from =
    let head : x ≡ y = ⊎_elim (λ (e : x ≡ y). e) (λ there. let l = k.0 x there in ⊎_elim (λ (e : y ≡ x). sym e) (λ here. let m = r.0 y here in absurd (omega arith)) (from y (inl refl))) (to x (inl refl)) in
    let rest = rising_equal xs ys r.1 k.1
    (λ p h. let l = r.0 p h in ⊎_elim (λ (e : p ≡ y). absurd (omega arith)) (λ there. there) (to p (inr h)))
    (λ p h. let l = k.0 p h in ⊎_elim (λ (e : p ≡ x). absurd (omega arith)) (λ there. there) (from p (inr h))) in
    λ i. head i ∷ rest i

pub all_below : (xs : List ℕ) (n : ℕ) → Rising xs → ((p : ℕ) → IsIn p xs → p < n) → ((p : ℕ) → p < n → IsIn p xs) → xs ≡ places_below n
all_below xs n rises low each = rising_equal xs (places_below n) rises (rising_below n) (λ p h. below_has n p (low p h)) (λ p h. each p (below_less n p h))

-- ---- lists of views

module _ {A : Type 0} where
  pub inside : (l : List A) (i : ℕ) (a : A) → get_elem? l i ≡ some a → i < length l
  inside [] i a e = absurd (some-ne-none a (sym e))
  inside (x ∷ xs) zero a e = omega arith
  inside (x ∷ xs) (suc i) a e = let h = inside xs i a e in omega arith

module _ {X C R : Type 0} where
  map_set : (views : List (View X C R)) (id : ℕ) (w : View X C R) → map share_in (set views id w) ≡ set (map share_in views) id w.share
  map_set [] id w = refl
  map_set (v ∷ views) zero w = refl
  map_set (v ∷ views) (suc id) w = ap (λ (l : List Share). v.share ∷ l) (map_set views id w)

  at_unmap : (views : List (View X C R)) (i : ℕ) (s : Share) → get_elem? (map share_in views) i ≡ some s → (v : View X C R) × (get_elem? views i ≡ some v) × (v.share ≡ s)
  at_unmap [] i s at = absurd (some-ne-none s (sym at))
  at_unmap (v ∷ views) zero s at = (v, refl, some-injective v.share s at)
  at_unmap (v ∷ views) (suc i) s at = at_unmap views i s at

  -- a view changed, and its share is as before
  pub shares_same : (views : List (View X C R)) (id : ℕ) (v w : View X C R) → get_elem? views id ≡ some v → w.share ≡ v.share → IsWhole (all_of (map share_in views)) → IsWhole (all_of (map share_in (set views id w)))
  shares_same views id v w at same whole =
      subst (λ (l : List Share). IsWhole (all_of l)) (sym (map_set views id w ∙ ap (set (map share_in views) id) same ∙ set_again (map share_in views) id v.share (at_map share_in views id v at))) whole

  -- a view was split
  pub shares_split : (views : List (View X C R)) (id : ℕ) (v left right : View X C R) → get_elem? views id ≡ some v → left.share ≡ halved v.share → right.share ≡ halved v.share → IsWhole (all_of (map share_in views))
      → IsWhole (all_of (map share_in (set views id left ++ right ∷ [])))
  shares_split views id v left right at half half' whole =
      let is : map share_in (set views id left ++ right ∷ []) ≡ set (map share_in views) id (halved v.share) ++ halved v.share ∷ [] =
      map-append share_in (set views id left) (right ∷ []) ∙ (λ i. (map_set views id left ∙ ap (set (map share_in views) id) half) i ++ half' i ∷ []) in
      subst (λ (l : List Share). IsWhole (all_of l)) (sym is) (split_whole (map share_in views) id v.share (at_map share_in views id v at) whole)

  -- a view took in another
  pub shares_join : (views : List (View X C R)) (id other : ℕ) (v u both spent : View X C R) → id ≢ other → get_elem? views id ≡ some v → get_elem? views other ≡ some u → both.share ≡ added v.share u.share → spent.share ≡ no_share
      → IsWhole (all_of (map share_in views)) → IsWhole (all_of (map share_in (set (set views id both) other spent)))
  shares_join views id other v u both spent apart at there sum none whole =
      let is : map share_in (set (set views id both) other spent) ≡ set (set (map share_in views) id (added v.share u.share)) other no_share =
      map_set (set views id both) other spent ∙ (λ i. set ((map_set views id both ∙ ap (set (map share_in views) id) sum) i) other (none i)) in
      subst (λ (l : List Share). IsWhole (all_of l)) (sym is) (join_whole (map share_in views) id other v.share u.share apart (at_map share_in views id v at) (at_map share_in views other u there) whole)

  -- where one holds the whole, another holds nothing
  pub sole : (views : List (View X C R)) (id other : ℕ) (v u : View X C R) → id ≢ other → ((j : ℕ) (w : View X C R) → get_elem? views j ≡ some w → 0 < w.share.total) → get_elem? views id ≡ some v → get_elem? views other ≡ some u → IsWhole v.share
      → IsWhole (all_of (map share_in views)) → u.share.units ≡ 0
  sole views id other v u apart units at there whole all =
      others_none (map share_in views) id other v.share u.share apart
      (λ j s e. let f = at_unmap views j s e in subst (λ (x : Share). 0 < x.total) f.2 (units j f.0 f.1))
      (at_map share_in views id v at) (at_map share_in views other u there) whole all

  -- none holds more units than there are
  pub limits : (views : List (View X C R)) (id : ℕ) (v : View X C R) → ((j : ℕ) (w : View X C R) → get_elem? views j ≡ some w → 0 < w.share.total) → get_elem? views id ≡ some v → IsWhole (all_of (map share_in views)) → v.share.units ≤ v.share.total
  limits views id v units at all =
      each_limited (map share_in views) id v.share
      (λ j s e. let f = at_unmap views j s e in subst (λ (x : Share). 0 < x.total) f.2 (units j f.0 f.1))
      (at_map share_in views id v at) all

  -- a view changed, and has the places that it had
  pub placed_same : (views : List (View X C R)) (id : ℕ) (v w : View X C R) (log : List (C × R)) (owner : ℕ → ℕ) → get_elem? views id ≡ some v → ((p : ℕ) → IsIn p v.mine → IsIn p w.mine) → Placed views log owner → Placed (set views id w) log owner
  placed_same views id v w log owner at keeps placed p less =
      let f = placed p less in
      dite (ℕ_discrete (owner p) id)
      (λ same. (
        w,
        subst (λ (i : ℕ). get_elem? (set views id w) i ≡ some w) (sym same) (set_here views id w (inside views id v at)),
        keeps p (subst (λ (u : View X C R). IsIn p u.mine) (some-injective f.0 v (sym f.1 ∙ (ap (λ (i : ℕ). get_elem? views i) same ∙ at))) f.2),
      ))
      (λ apart. (f.0, set_else views id (owner p) w apart ∙ f.1, f.2))
