-- Which calls on the shared objects stand before which, over batches.
use Rattle.std.specs.Prelude.{◌<◌, ◌≤◌, ◌⊎◌, ℕ, List, length}
use Rattle.turn_log.specs.Places.{IsIn}
use Rattle.turn_log.specs.Runs.{Account, IsPrefix}
use Rattle.chain_climb.specs.Elements.{Among}
use Rattle.statement_shelf.specs.Passes.{CommonsKnown}
use Rattle.resolver_service.specs.Batches.{Batch}
use Rattle.resolver_service.specs.Passes.{OnEach}

-- ---- one object

module _ {C R : Type 0} where
  -- an own call was made meanwhile, and stands at this place
  abbrev pub IsMadeAt : Account C R → Account C R → ℕ → Type 0
  IsMadeAt old new place = IsIn place new.mine × ¬ IsIn place old.mine

  -- the place lies past all that had been seen, among what is seen now
  abbrev pub LiesBetween : Account C R → Account C R → ℕ → Type 0
  LiesBetween old new place = (length old.seen ≤ place) × (place < length new.seen)

  -- what had been seen still stands in front, and no own call was lost; each that was made meanwhile stands behind
  pub record Follows (old new : Account C R) : Type 0 where
    pub seen : IsPrefix old.seen new.seen
    pub kept : (place : ℕ) → IsIn place old.mine → IsIn place new.mine
    pub past : (place : ℕ) → IsMadeAt old new place → LiesBetween old new place

  -- each call of another caller is an own call now, and stands behind too
  abbrev pub TakesIn : Account C R → Account C R → Account C R → Type 0
  TakesIn old other new = (place : ℕ) → IsIn place other.mine → IsIn place new.mine × LiesBetween old new place

  -- each own call that was made between the first two moments stands before each between the other two
  abbrev pub Precedes : Account C R → Account C R → Account C R → Account C R → Type 0
  Precedes a b c d = (x y : ℕ) → IsMadeAt a b x → IsMadeAt c d y → x < y

-- ---- all of them

module _ {P N C : Type 0} where
  -- the calls of the batch stand past all that the one pass had seen before it
  abbrev pub StandsPast : Batch P N C → Type 0
  StandsPast b = OnEach (λ X Q on. Follows (on b.before.progress.known) (on b.now.progress.known))

  -- those of a pass that knows this are the one pass's own after the batch, and stand there too
  abbrev pub HasCallsOf : Batch P N C → CommonsKnown → Type 0
  HasCallsOf b other = OnEach (λ X Q on. TakesIn (on b.before.progress.known) (on other) (on b.now.progress.known))

  -- each that the one pass made its own is of the Purge, after which this was known, or of a pass that knows one of these
  abbrev pub HasOnlyCallsOf : Batch P N C → CommonsKnown → List CommonsKnown → Type 0
  HasOnlyCallsOf b purged others =
      OnEach (λ X Q on. (place : ℕ) → IsMadeAt (on b.before.progress.known) (on b.now.progress.known) place
      → IsMadeAt (on b.before.progress.known) (on purged) place ⊎ ((other : CommonsKnown) × Among other others × IsIn place (on other).mine))

  -- the calls of one batch stand before those of another
  abbrev pub StandsBefore : Batch P N C → Batch P N C → Type 0
  StandsBefore one other =
      OnEach (λ X Q on. Precedes (on one.before.progress.known) (on one.now.progress.known) (on other.before.progress.known) (on other.now.progress.known))

  -- the call at this place was made in one of these batches
  pub record IsMadeIn {X Q : Type 0} (batches : List (Batch P N C)) (on : CommonsKnown → Account X Q) (place : ℕ) : Type 0 where
    pub batch : Batch P N C
    pub among : Among batch batches
    pub made : IsMadeAt (on batch.before.progress.known) (on batch.now.progress.known) place

  -- each call on a shared object was
  abbrev pub AreMadeIn : List (Batch P N C) → CommonsKnown → Type 0
  AreMadeIn batches joined = OnEach (λ X Q on. (place : ℕ) → place < length (on joined).seen → IsMadeIn batches on place)
