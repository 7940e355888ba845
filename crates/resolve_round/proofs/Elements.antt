-- Elements of lists that were mapped and filtered.
use Rattle.std.proofs.Common.{◌≡◌, ◌<◌, ◌⊎◌, ℕ, zero, suc, List, [], ◌∷◌, length, get_or, filter_map, map, Option, Some, None, refl, sym, ap, ◌∙◌, subst, inl, inr, ⊎_elim, arith}
use Rattle.std.specs.List.{cons_option}
use Rattle.chain_climb.specs.Elements.{Among}

module _ {Y : Type 0} where
  among_cons : (y : Y) (o : Option Y) (ys : List Y) → Among y ys → Among y (cons_option o ys)
  among_cons y None ys among = among
  among_cons y (Some z) ys among = inr among

  cons_among : (o : Option Y) (y : Y) (ys : List Y) → Among y (cons_option o ys) → (o ≡ Some y) ⊎ Among y ys
  cons_among None y ys among = inr among
  cons_among (Some z) y ys (inl same) = inl (ap Some (sym same))
  cons_among (Some z) y ys (inr among) = inr among

module _ {X Y : Type 0} where
  pub among-map : (f : X → Y) (x : X) (xs : List X) → Among x xs → Among (f x) (map f xs)
  among-map f x [] among = absurd among
  among-map f x (z ∷ xs) (inl same) = inl (ap f same)
  among-map f x (z ∷ xs) (inr among) = inr (among-map f x xs among)

  pub map-among : (f : X → Y) (y : Y) (xs : List X) → Among y (map f xs) → (x : X) × Among x xs × (y ≡ f x)
  map-among f y [] among = absurd among
  map-among f y (x ∷ xs) (inl same) = (x, inl refl, same)
  map-among f y (x ∷ xs) (inr among) = let rest = map-among f y xs among in (rest.0, inr rest.1, rest.2)

  pub among-filter_map : (h : X → Option Y) (x : X) (y : Y) → h x ≡ Some y → (xs : List X) → Among x xs → Among y (filter_map h xs)
  among-filter_map h x y gives [] among = absurd among
  among-filter_map h x y gives (z ∷ xs) (inl same) = subst (λ o. Among y (cons_option o (filter_map h xs))) (sym (ap h (sym same) ∙ gives)) (inl refl)
  among-filter_map h x y gives (z ∷ xs) (inr among) = among_cons y (h z) (filter_map h xs) (among-filter_map h x y gives xs among)

  pub filter-among : (h : X → Option Y) (y : Y) (xs : List X) → Among y (filter_map h xs) → (x : X) × Among x xs × (h x ≡ Some y)
  filter-among h y [] among = absurd among
  filter-among h y (x ∷ xs) among =
      ⊎_elim
      (λ here. (x, inl refl, here))
      (λ there. let rest = filter-among h y xs there in (rest.0, inr rest.1, rest.2))
      (cons_among (h x) y (filter_map h xs) among)

-- the item at a place
pub among-get : {X : Type 0} (xs : List X) (at : ℕ) (x : X) → at < length xs → x ≡ get_or xs at x → Among x xs
among-get [] at x less is = absurd (omega (arith, less))
among-get (y ∷ xs) zero x less is = inl is
among-get (y ∷ xs) (suc at) x less is = inr (among-get xs at x (omega (arith, less)) is)
