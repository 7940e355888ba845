-- Elements of lists that were filtered or cut.
use Rattle.std.proofs.Common.{◌≤◌, ◌+◌, ℕ, zero, suc, List, [], ◌∷◌, length, take, Option, Some, None, inl, inr, arith}
use Rattle.std.specs.List.{cons_option, filter_map}
use Rattle.chain_climb.specs.Elements.{Among}

module _ {X : Type 0} where
  pub among-take : (x : X) (n : ℕ) (xs : List X) → Among x (take n xs) → Among x xs
  among-take x zero xs among = absurd among
  among-take x (suc n) [] among = absurd among
  among-take x (suc n) (y ∷ ys) (inl same) = inl same
  among-take x (suc n) (y ∷ ys) (inr among) = inr (among-take x n ys among)

module _ {X Y : Type 0} (h : X → Option Y) where
  length-cons : (o : Option Y) (ys : List Y) (n : ℕ) → length ys ≤ n → length (cons_option o ys) ≤ n + 1
  length-cons None ys n short = omega (arith, short)
  length-cons (Some y) ys n short = omega (arith, short)

  pub length-filter_map : (xs : List X) → length (filter_map h xs) ≤ length xs
  length-filter_map [] = omega arith
  length-filter_map (x ∷ xs) = let step = length-cons (h x) (filter_map h xs) (length xs) (length-filter_map xs) in omega (arith, step)
