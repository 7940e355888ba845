-- The last item of a list that was put anew, or taken away.
use Rattle.std.proofs.Common.{◌≡◌, ◌<◌, ℕ, List, [], ◌∷◌, ◌++◌, length, take, Option, Some, None, refl, sym, ap, ◌∙◌, arith}
use Rattle.std.specs.Prelude.{MatchOption, slice_get, slice_set}
use Rattle.std.proofs.lemmas.List.{length_push, same_from_push}

module _ {X : Type 0} where
  no_room : (xs : List X) (x : X) → xs ++ x ∷ [] ≡ [] → ⊥
  no_room [] x same = cc same
  no_room (y ∷ xs) x same = cc same

  set_last : (xs : List X) (x y : X) → slice_set (xs ++ x ∷ []) (length xs) y ≡ xs ++ y ∷ []
  set_last [] x y = refl
  set_last (z ∷ xs) x y = ap (λ l. z ∷ l) (set_last xs x y)

  get_last : (xs : List X) (x : X) → slice_get (xs ++ x ∷ []) (length xs) ≡ Some x
  get_last [] x = refl
  get_last (z ∷ xs) x = get_last xs x

  -- the item that was appended is put anew
  pub put-last : (old pushed new : List X) (x y : X) (at : ℕ) → at ≡ length old → pushed ≡ old ++ x ∷ [] → new ≡ slice_set pushed at y → new ≡ old ++ y ∷ []
  put-last old pushed new x y at place push is =
      is ∙ ap (λ l. slice_set l at y) push ∙ ap (λ n. slice_set (old ++ x ∷ []) n y) place ∙ set_last old x y

  -- the item that was appended stands behind the others
  pub last-there : (old pushed : List X) (x : X) (at : ℕ) → at ≡ length old → pushed ≡ old ++ x ∷ [] → slice_get pushed at ≡ Some x
  last-there old pushed x at place push = ap (λ l. slice_get l at) push ∙ ap (λ n. slice_get (old ++ x ∷ []) n) place ∙ get_last old x

  -- the item that was appended is taken away
  pub popped-last : (old pushed new : List X) (x : X) (popped : Option X) → pushed ≡ old ++ x ∷ [] → MatchOption popped ((pushed ≡ []) × (new ≡ [])) (λ item. pushed ≡ new ++ item ∷ []) → new ≡ old
  popped-last old pushed new x None push pops = absurd (no_room old x (sym push ∙ pops.0))
  popped-last old pushed new x (Some item) push pops = (same_from_push new old item x (sym pops ∙ push)).0

  -- there is room for it
  pub last-within : (old pushed : List X) (x : X) (at : ℕ) → at ≡ length old → pushed ≡ old ++ x ∷ [] → at < length pushed
  last-within old pushed x at place push = let e = ap length push in let n = length_push old x in omega (arith, e, n, place)

  take_front : (xs ys : List X) → take (length xs) (xs ++ ys) ≡ xs
  take_front [] ys = refl
  take_front (x ∷ xs) ys = ap (λ l. x ∷ l) (take_front xs ys)

  -- the items before it
  pub front-taken : (old new : List X) (x : X) (n : ℕ) → n ≡ length old → new ≡ old ++ x ∷ [] → take n new ≡ old
  front-taken old new x n same is = ap (λ l. take n l) is ∙ ap (λ k. take k (old ++ x ∷ [])) same ∙ take_front old (x ∷ [])
