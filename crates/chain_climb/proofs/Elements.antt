-- Elements of lists, and lists in an order.
use Rattle.std.proofs.Common.{◌≡◌, flat_map, List, [], ◌∷◌, ◌++◌, filter_map, Option, refl, ap, ◌∙◌, subst, inl, inr, ⊎_elim, ◌⊎◌}
use Rattle.std.proofs.lemmas.List.Elements.{filter_map-append}
use Rattle.chain_climb.specs.Elements.{Among, Ordered}

module _ {X : Type 0} where
  pub among-left : (x : X) (xs ys : List X) → Among x xs → Among x (xs ++ ys)
  among-left x [] ys among = absurd among
  among-left x (z ∷ xs) ys (inl same) = inl same
  among-left x (z ∷ xs) ys (inr among) = inr (among-left x xs ys among)

  pub among-right : (x : X) (xs ys : List X) → Among x ys → Among x (xs ++ ys)
  among-right x [] ys among = among
  among-right x (z ∷ xs) ys among = inr (among-right x xs ys among)

  pub among-split : (x : X) (xs ys : List X) → Among x (xs ++ ys) → Among x xs ⊎ Among x ys
  among-split x [] ys among = inr among
  among-split x (z ∷ xs) ys (inl same) = inl (inl same)
  among-split x (z ∷ xs) ys (inr among) = later (among-split x xs ys among)
    where
      later : Among x xs ⊎ Among x ys → (◌≡◌ x z ⊎ Among x xs) ⊎ Among x ys
      later (inl front) = inl (inr front)
      later (inr back) = inr back

  pub ordered-append : (R : X → X → Type 0) (xs ys : List X) → Ordered R xs → Ordered R ys → ((x y : X) → Among x xs → Among y ys → R x y) → Ordered R (xs ++ ys)
  ordered-append R [] ys front back cross = back
  ordered-append R (x ∷ xs) ys front back cross = (
    λ y among. ⊎_elim (λ here. front.0 y here) (λ there. cross x y (inl refl) there) (among-split y xs ys among),
    ordered-append R xs ys front.1 back (λ u v here there. cross u v (inr here) there),
  )

  pub ordered-later : (R : X → X → Type 0) (before : List X) (x : X) (after : List X) → Ordered R (before ++ x ∷ after) → (y : X) → Among y after → R x y
  ordered-later R [] x after ordered y among = ordered.0 y among
  ordered-later R (z ∷ before) x after ordered y among = ordered-later R before x after ordered.1 y among

module _ {X Y : Type 0} where
  pub among-flat_map : (f : X → List Y) (x : X) (y : Y) (xs : List X) → Among x xs → Among y (f x) → Among y (flat_map f xs)
  among-flat_map f x y [] among here = absurd among
  among-flat_map f x y (z ∷ xs) (inl same) here = among-left y (f z) (flat_map f xs) (subst (λ v. Among y (f v)) same here)
  among-flat_map f x y (z ∷ xs) (inr among) here = among-right y (f z) (flat_map f xs) (among-flat_map f x y xs among here)

  -- what an element comes from
  abbrev pub ComesFrom : (X → List Y) → List X → Y → Type 0
  ComesFrom f xs y = (x : X) × Among x xs × Among y (f x)

  pub flat_map-among : (f : X → List Y) (y : Y) (xs : List X) → Among y (flat_map f xs) → ComesFrom f xs y
  flat_map-among f y [] among = absurd among
  flat_map-among f y (z ∷ xs) among =
      ⊎_elim
      (λ here. (z, inl refl, here))
      (λ there. let later = flat_map-among f y xs there in (later.0, inr later.1, later.2))
      (among-split y (f z) (flat_map f xs) among)

  pub ordered-flat_map : (S : X → X → Type 0) (R : Y → Y → Type 0) (f : X → List Y) (xs : List X) → Ordered S xs → ((x : X) → Among x xs → Ordered R (f x))
      → ((x z : X) (u v : Y) → Among x xs → Among z xs → S x z → Among u (f x) → Among v (f z) → R u v) → Ordered R (flat_map f xs)
  ordered-flat_map S R f [] ordered each cross = tt
  ordered-flat_map S R f (x ∷ xs) ordered each cross =
      ordered-append R (f x) (flat_map f xs) (each x (inl refl))
      (ordered-flat_map S R f xs ordered.1 (λ z among. each z (inr among)) (λ z w u v here there. cross z w u v (inr here) (inr there)))
      (λ u v here there. let from = flat_map-among f v xs there in cross x from.0 u v (inl refl) (inr from.1) (ordered.0 from.0 from.1) here from.2)

module _ {X Y Z : Type 0} where
  pub filter_map-flat_map : (h : Y → Option Z) (f : X → List Y) (xs : List X) → filter_map h (flat_map f xs) ≡ flat_map (λ x. filter_map h (f x)) xs
  filter_map-flat_map h f [] = refl
  filter_map-flat_map h f (x ∷ xs) = filter_map-append h (f x) (flat_map f xs) ∙ ap (λ rest. filter_map h (f x) ++ rest) (filter_map-flat_map h f xs)
