-- Calls on one object in one order, and what a caller has seen of them.
use Rattle.std.specs.Prelude.{◌≡◌, ◌≤◌, ◌<◌, ℕ, List, [], ◌∷◌, ◌++◌, length, map, AllPairs, All, Some, slice_get}
use Rattle.turn_log.specs.Places.{places_below}
use Rattle.turn_log.specs.Shares.{IsShare, IsWhole}
use Rattle.turn_log.specs.declared.view.Share.{Share}

-- the number of calls at which an object is worn: 2^62
abbrev pub call_limit : ℕ
call_limit = 4611686018427387904

-- the first list is a prefix of the second
abbrev pub IsPrefix : {X : Type 0} → List X → List X → Type 0
IsPrefix {X} front whole = (rest : List X) × (whole ≡ front ++ rest)

module _ {X C R : Type 0} where
  -- the object goes from one state to another by these calls with their replies
  abbrev pub Runs : (X → C → R → X → Type 0) → X → List (C × R) → X → Type 0
  Runs steps before [] after = after ≡ before
  Runs steps before (e ∷ es) after = (next : X) × steps before e.0 e.1 next × Runs steps next es after

  -- each call was answered as the object answers it at that place of the list
  abbrev pub IsLegal : (X → C → R → X → Type 0) → X → List (C × R) → Type 0
  IsLegal steps first calls = (last : X) × Runs steps first calls last

-- what a caller has seen of an object: a prefix of the list of its calls, and the places there of the caller's own; and its share of the
-- object
pub record Account (C R : Type 0) : Type 0 where
  pub seen : List (C × R)
  pub mine : List ℕ
  pub share : Share

module _ {C R : Type 0} where
  -- the own places rise and lie in what was seen; a caller that has all of the object owns each call that it has seen
  pub record IsAccount (account : Account C R) : Type 0 where
    pub rising : AllPairs ◌<◌ account.mine
    pub within : All (λ place. place < length account.seen) account.mine
    pub share : IsShare account.share
    pub covered : IsWhole account.share → account.mine ≡ places_below (length account.seen)

  -- the caller has seen more, and these calls of its own were added, at places past all that it had seen; its share is the same
  pub record Adds (old new : Account C R) (calls : List (C × R)) : Type 0 where
    pub seen : IsPrefix old.seen new.seen
    pub places : List ℕ
    pub mine : new.mine ≡ old.mine ++ places
    pub later : All (λ place. length old.seen ≤ place) places
    pub are : map (slice_get new.seen) places ≡ map Some calls
    pub share : new.share ≡ old.share
