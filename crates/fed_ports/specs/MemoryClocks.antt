-- The readings of a clock of given moments.
use Rattle.std.specs.Prelude.{◌-◌, ℕ, zero, suc, List, [], ◌∷◌, ◌++◌, length, slice_index, Option, Some, None, cond, nat_lt, min}
use Rattle.fed_base.specs.Counts.{last_count}
use Rattle.fed_base.specs.Moments.{moment_limit}
use Rattle.fed_ports.specs.declared.memory_clock.MemoryClock.{MemoryClock}

-- a moment below the limit, or 0
abbrev pub if_small : ℕ → ℕ
if_small moment = cond (nat_lt moment moment_limit) moment 0

-- the moment of the reading of that number: past the last one the last again, and 0 where there is none
abbrev pub moment_at : List ℕ → ℕ → ℕ
moment_at moments n = if_small (slice_index moments (min n (length moments - 1)))

-- the first n readings
unfoldable pub given : List ℕ → ℕ → List ℕ
given moments zero = []
given moments (suc n) = given moments n ++ moment_at moments n ∷ []

-- the readings in order, while their count is below its last value
abbrev pub told_of : List ℕ → ℕ → Option (List ℕ)
told_of moments n = cond (nat_lt n last_count) (Some (given moments n)) None

-- the moments that it gives
abbrev pub clock_moments : MemoryClock → List ℕ
clock_moments clock = clock.moments.items

-- how many readings there were
abbrev pub clock_readings : MemoryClock → ℕ
clock_readings clock = clock.readings

-- the last reading
abbrev pub clock_last : MemoryClock → ℕ
clock_last clock = clock.last
