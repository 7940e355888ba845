-- The Gregorian calendar (ISO 8601): which days there are, and how many come before each.
use Rattle.std.specs.Prelude.{◌≤◌, ◌&&◌, ◌||◌, not, nat_eq, nat_lt, Bool, ℕ, ◌+◌, ◌-◌, ◌*◌, ◌/◌, ◌%◌, List, [], ◌∷◌, get_or, if◌then◌else◌}
use Rattle.utc_dates.specs.declared.date.Date.{Date}

-- each fourth year has a leap day, but a hundredth only where it is a four-hundredth
abbrev pub is_leap : ℕ → Bool
is_leap year = (nat_eq (year % 4) 0 && not (nat_eq (year % 100) 0)) || nat_eq (year % 400) 0

-- the length of a month, 1 to 12, of a year
abbrev pub month_length : ℕ → ℕ → ℕ
month_length year month =
    get_or (31 ∷ (if is_leap year then 29 else 28) ∷ 31 ∷ 30 ∷ 31 ∷ 30 ∷ 31 ∷ 31 ∷ 30 ∷ 31 ∷ 30 ∷ 31 ∷ []) (month - 1) 0

-- a day that there is
abbrev pub IsDay : Date → Type 0
IsDay date = (1 ≤ date.month) × (date.month ≤ 12) × (1 ≤ date.day) × (date.day ≤ month_length date.year date.month)

-- the days from 1 March of the year 0 to 1 March of a year: 365 in each, and the leap days between
abbrev pub before_march : ℕ → ℕ
before_march year = 365 * year + year / 4 - year / 100 + year / 400

-- the days of such a year before its months, the first of which is March
abbrev pub before_month : ℕ → ℕ
before_month months = get_or (0 ∷ 31 ∷ 61 ∷ 92 ∷ 122 ∷ 153 ∷ 184 ∷ 214 ∷ 245 ∷ 275 ∷ 306 ∷ 337 ∷ []) months 0

-- the days from 1 March of the year 0 to a date: January and February end the year that began in the March before
abbrev pub days_before : Date → ℕ
days_before date =
    if nat_lt 2 date.month then before_march date.year + before_month (date.month - 3) + (date.day - 1)
    else before_march (date.year - 1) + before_month (date.month + 9) + (date.day - 1)

-- the day at which moments begin
abbrev pub first_day : Date
first_day = record { year = 1970; month = 1; day = 1 }
