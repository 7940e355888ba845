-- Days of the Gregorian calendar (ISO 8601). Years are counted from 1 March, so that a leap day ends its year.
use Rattle.std.specs.Prelude.{ℕ, ◌+◌, ◌-◌, ◌*◌, ◌/◌, ◌%◌, min, nat_lt, if◌then◌else◌}
use Rattle.utc_dates.specs.declared.date.Date.{Date}

-- the day of a month of a year, where months are counted from March's 0
abbrev pub in_month : ℕ → ℕ → ℕ → Date
in_month year months day =
    if nat_lt months 10 then record { year = year; month = months + 3; day = day }
    else record { year = year + 1; month = months - 9; day = day }

-- the day that so many days after 1 March of the year is: five months have 153 days
abbrev pub day_of_year : ℕ → ℕ → Date
day_of_year year days = in_month year ((5 * days + 2) / 153) (days - (153 * ((5 * days + 2) / 153) + 2) / 5 + 1)

-- the same from 1 March of the first year of so many times four years, 1,461 days each
abbrev pub in_four : ℕ → ℕ → Date
in_four year days = day_of_year (year + min (days / 365) 3) (days - min (days / 365) 3 * 365)

-- from that of a century, 36,524 days
abbrev pub in_century : ℕ → ℕ → Date
in_century year days = in_four (year + min (days / 1461) 24 * 4) (days - min (days / 1461) 24 * 1461)

-- from that of four centuries, 146,097 days
abbrev pub in_era : ℕ → ℕ → Date
in_era year days = in_century (year + min (days / 36524) 3 * 100) (days - min (days / 36524) 3 * 36524)

-- the day that so many days after 1 March of the year 0 is
abbrev pub day_at : ℕ → Date
day_at days = in_era (days / 146097 * 400) (days % 146097)

-- the day of a moment, in seconds since 1970: 1 January 1970 is 719,468 days after 1 March of the year 0
abbrev pub date_of : ℕ → Date
date_of moment = day_at (moment / 86400 + 719468)
