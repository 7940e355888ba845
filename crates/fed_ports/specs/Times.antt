-- What a clock has told.
use Rattle.std.specs.Prelude.{◌≡◌, ◌⊎◌, ℕ, List, [], ◌∷◌, ◌++◌, Option, Some, None}
use Rattle.fed_base.specs.Counts.{next_count, last_count}

-- where the readings are told, they are those from before and the new one; a clock that told them stops only where their
-- count, from `before` on, comes to its last value
abbrev pub Told : ℕ → Option (List ℕ) → Option (List ℕ) → ℕ → Type 0
Told before old None moment = (old ≡ None) ⊎ (next_count before ≡ last_count)
Told before old (Some after) moment = (earlier : List ℕ) × (old ≡ Some earlier) × (after ≡ earlier ++ moment ∷ [])

-- a clock: how many readings there were, the last of them, and all of them where it tells them
pub record ClockAt : Type 0 where
  pub count : ℕ
  pub last : ℕ
  pub told : Option (List ℕ)

abbrev pub clock_at : ℕ → ℕ → Option (List ℕ) → ClockAt
clock_at count last told = record { count = count; last = last; told = told }

-- one reading was made
pub record IsOneReading (before now : ClockAt) : Type 0 where
  pub counted : now.count ≡ next_count before.count
  pub added : Told before.count before.told now.told now.last
