-- Calls on many objects, one after the other, and what they add to what a caller knows of each.
use Rattle.std.specs.Prelude.{ℕ, List, [], ◌∷◌, ◌++◌}
use Rattle.turn_log.specs.Runs.{Account, Adds}

-- what a caller knows of many objects of one kind, by number, and of one of another
pub record Known (C R D Q : Type 0) : Type 0 where
  pub part : ℕ → Account C R
  pub book : Account D Q

-- the calls of these events on one object, in order
abbrev pub calls_of : {E F : Type 0} → (E → List F) → List E → List F
calls_of {E} {F} on [] = []
calls_of {E} {F} on (e ∷ es) = on e ++ calls_of on es

-- to each object these events added their calls on it and no others, in order: those of an event e on the part p are `on_part p e`, none or
-- one, and those on the book `on_book e`
pub record Gains {E C R D Q : Type 0} (on_part : ℕ → E → List (C × R)) (on_book : E → List (D × Q)) (old new : Known C R D Q) (events : List E) : Type 0 where
  pub parts : (p : ℕ) → Adds (old.part p) (new.part p) (calls_of (on_part p) events)
  pub book : Adds old.book new.book (calls_of on_book events)

-- what events added and what later events added is what all of them added
abbrev pub AddUp : Type 0 → Type 0 → Type 0 → Type 0 → Type 0 → Type 0
AddUp E C R D Q =
    (on_part : ℕ → E → List (C × R)) (on_book : E → List (D × Q)) (old mid new : Known C R D Q) (first second : List E)
    → Gains on_part on_book old mid first → Gains on_part on_book mid new second → Gains on_part on_book old new (first ++ second)
