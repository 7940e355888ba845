-- Elements of lists, and lists in an order.
use Rattle.std.specs.Prelude.{◌≡◌, ◌⊎◌, List, [], ◌∷◌}

-- the element stands in the list
abbrev pub Among : {X : Type 0} → X → List X → Type 0
Among x [] = ⊥
Among x (y ∷ ys) = (x ≡ y) ⊎ Among x ys

-- no element stands twice
abbrev pub NoneTwice : {X : Type 0} → List X → Type 0
NoneTwice [] = Unit {0}
NoneTwice (x ∷ xs) = (¬ Among x xs) × NoneTwice xs

-- the relation holds of each element and each later one
abbrev pub Ordered : {X : Type 0} → (X → X → Type 0) → List X → Type 0
Ordered R [] = Unit {0}
Ordered {X = X} R (x ∷ xs) = ((y : X) → Among y xs → R x y) × Ordered R xs
