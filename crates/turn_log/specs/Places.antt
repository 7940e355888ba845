-- Places in a list of calls, and the longer of two lists.
use Rattle.std.specs.Prelude.{◌≡◌, ◌⊎◌, ◌<◌, ℕ, zero, suc, List, [], ◌∷◌, ◌++◌, length, cond, leb, ltb, ⊤}

-- the place is among these
abbrev pub IsIn : ℕ → List ℕ → Type 0
IsIn p [] = ⊥
IsIn p (x ∷ xs) = (p ≡ x) ⊎ IsIn p xs

-- each place is below all that follow it
abbrev pub Rising : List ℕ → Type 0
Rising [] = ⊤
Rising (x ∷ xs) = ((p : ℕ) → IsIn p xs → x < p) × Rising xs

-- all places below a number
abbrev pub places_below : ℕ → List ℕ
places_below zero = []
places_below (suc n) = places_below n ++ n ∷ []

-- the place among rising ones
abbrev pub put_in : ℕ → List ℕ → List ℕ
put_in p [] = p ∷ []
put_in p (x ∷ xs) = cond (ltb p x) (p ∷ x ∷ xs) (x ∷ put_in p xs)

-- the places of both, rising
abbrev pub merged : List ℕ → List ℕ → List ℕ
merged [] ys = ys
merged (x ∷ xs) ys = put_in x (merged xs ys)

module _ {C R : Type 0} where
  -- the longer list, and the second where they are as long
  abbrev pub longer : List (C × R) → List (C × R) → List (C × R)
  longer a b = cond (leb (length a) (length b)) b a

  -- the other one
  abbrev pub shorter : List (C × R) → List (C × R) → List (C × R)
  shorter a b = cond (leb (length a) (length b)) a b
