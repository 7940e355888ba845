-- Dates as people read them (ISO 8601, with a space and the name of the time).
use Rattle.std.specs.Prelude.{ℕ, ◌+◌, ◌/◌, ◌%◌, List, [], ◌∷◌, ◌++◌, codes, decimal}
use Rattle.utc_dates.specs.declared.date.Date.{Date}
use Rattle.utc_dates.specs.Dates.{date_of}

-- the last two decimal digits of a number
unfoldable pub two_digits : ℕ → List ℕ
two_digits n = (48 + n / 10 % 10) ∷ ((48 + n % 10) ∷ [])

-- the year, the month and the day
abbrev pub day_text : Date → List ℕ
day_text date = decimal date.year ++ (45 ∷ (two_digits date.month ++ (45 ∷ two_digits date.day)))

-- the time of day of a moment, in seconds since 1970
abbrev pub clock_text : ℕ → List ℕ
clock_text moment =
    two_digits (moment / 3600 % 24) ++ (58 ∷ (two_digits (moment / 60 % 60) ++ (58 ∷ (two_digits (moment % 60) ++ codes " UTC"))))

-- the day and the time of day
abbrev pub date_text : ℕ → List ℕ
date_text moment = day_text (date_of moment) ++ (32 ∷ clock_text moment)
