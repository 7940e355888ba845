-- Objects of one kind in a list, and the passes on them.
use Rattle.std.specs.Prelude.{◌≡◌, ◌<◌, ◌≤◌, ℕ, zero, suc, Bool, false, List, [], ◌∷◌, length, slice_index_or, slice_set}
use Rattle.std.specs.declared.snapshot.Snapshot.{Snapshot}
use Rattle.turn_log.specs.Runs.{Account}
use Rattle.turn_log.specs.Passes.{account, is_alone, lent, untaken, unused, IsJoined, OwnsAll}
use Rattle.turn_log.specs.Objects.{first_state, IsOf}
use Rattle.turn_log.specs.declared.pass.PassSeat.{PassSeat}
use Rattle.turn_log.specs.declared.kept.KeptTable.{KeptTable}

module _ {S X C R : Type 0} where
  -- what is known of the object of a number
  abbrev pub account_at : List (PassSeat S X C R) → ℕ → Account C R
  account_at [] n = unused
  account_at (p ∷ ps) zero = account p
  account_at (p ∷ ps) (suc n) = account_at ps n

  -- whether the pass on the object of a number is the only one
  abbrev pub alone_at : List (PassSeat S X C R) → ℕ → Bool
  alone_at [] n = false
  alone_at (p ∷ ps) zero = is_alone p
  alone_at (p ∷ ps) (suc n) = alone_at ps n

  -- each pass is the only one of its object, and each call is its own
  abbrev pub AllOwned : List (PassSeat S X C R) → Type 0
  AllOwned passes = (i : ℕ) (p : PassSeat S X C R) → i < length passes → OwnsAll (slice_index_or passes i p)

  -- one pass changed in this way, and the others are as before
  abbrev pub ChangesAt : List (PassSeat S X C R) → ℕ → (PassSeat S X C R → PassSeat S X C R → Type 0) → List (PassSeat S X C R) → Type 0
  ChangesAt old at how new = (p : PassSeat S X C R) × (new ≡ slice_set old at p) × ((d : PassSeat S X C R) → how (slice_index_or old at d) p)

module _ {S V X C R Q : Type 0} where
  -- there is a pass for each object, in order, and each object began in this state
  pub record ArePasses (steps : X → C → R → X → Type 0) (first : X) (objects : List (KeptTable S V (Snapshot X) Q)) (passes : List (PassSeat S X C R)) : Type 0 where
    pub count : length passes ≡ length objects
    pub began : (i : ℕ) (k : KeptTable S V (Snapshot X) Q) → i < length objects → first_state (slice_index_or objects i k) ≡ first
    pub each : (i : ℕ) (k : KeptTable S V (Snapshot X) Q) (p : PassSeat S X C R) → i < length objects → IsOf steps (slice_index_or objects i k) (slice_index_or passes i p)

  -- each pass up to a number was split, and a new pass of the object made, which has seen the same and made no call; each has half of it
  pub record AreSplit (steps : X → C → R → X → Type 0) (first : X) (objects : List (KeptTable S V (Snapshot X) Q)) (old new made : List (PassSeat S X C R)) (at : ℕ) : Type 0 where
    pub passes : ArePasses steps first objects new
    pub split_at : (n : ℕ) → n < at → account_at new n ≡ lent (account_at old n)
    pub after : (n : ℕ) → at ≤ n → account_at new n ≡ account_at old n
    pub count : length made ≡ at
    pub each : (i : ℕ) (k : KeptTable S V (Snapshot X) Q) (p : PassSeat S X C R) → i < at → IsOf steps (slice_index_or objects i k) (slice_index_or made i p)
    pub untaken_at : (n : ℕ) → n < at → account_at made n ≡ untaken (account_at old n)

  -- each pass from a number on took in another
  pub record AreTaken (steps : X → C → R → X → Type 0) (first : X) (objects : List (KeptTable S V (Snapshot X) Q)) (old others new : List (PassSeat S X C R)) (at : ℕ) : Type 0 where
    pub passes : ArePasses steps first objects new
    pub before : (n : ℕ) → n < at → account_at new n ≡ account_at old n
    pub after : (n : ℕ) → at ≤ n → n < length objects → IsJoined (account_at old n) (account_at others n) (account_at new n)
