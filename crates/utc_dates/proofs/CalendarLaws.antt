-- The date of a moment is that of the calendar.
use Rattle.std.proofs.Common.{◌≡◌, ◌≤◌, ◌<◌, ◌⊎◌, ⊎_elim, ℕ, zero, suc, ◌+◌, ◌-◌, ◌*◌, ◌/◌, ◌%◌, ◌&&◌, ◌||◌, cond, min, nat_eq, nat_lt, not, Bool, true, false, refl, ◌∙◌, inl, inr, eq-eqb, eqb-true, arith, lit≤}
use Rattle.std.proofs.lemmas.Bool.{ltb-true, ltb-false}
use Rattle.utc_dates.specs.Calendar.{IsDay, before_march, days_before, first_day, is_leap}
use Rattle.utc_dates.specs.Dates.{date_of, day_of_year, in_era, in_month}

-- the days before the first day of a month of a year
month-before : (year m day : ℕ) → m ≤ 11 → days_before (in_month year m day) ≡ before_march year + (153 * m + 2) / 5 + (day - 1)
month-before year zero day small = omega arith
month-before year (suc zero) day small = omega arith
month-before year (suc (suc zero)) day small = omega arith
month-before year (suc (suc (suc zero))) day small = omega arith
month-before year (suc (suc (suc (suc zero)))) day small = omega arith
month-before year (suc (suc (suc (suc (suc zero))))) day small = omega arith
month-before year (suc (suc (suc (suc (suc (suc zero)))))) day small = omega arith
month-before year (suc (suc (suc (suc (suc (suc (suc zero))))))) day small = omega arith
month-before year (suc (suc (suc (suc (suc (suc (suc (suc zero)))))))) day small = omega arith
month-before year (suc (suc (suc (suc (suc (suc (suc (suc (suc zero))))))))) day small = omega arith
month-before year (suc (suc (suc (suc (suc (suc (suc (suc (suc (suc zero)))))))))) day small = omega arith
month-before year (suc (suc (suc (suc (suc (suc (suc (suc (suc (suc (suc zero))))))))))) day small = omega arith
month-before year (suc (suc (suc (suc (suc (suc (suc (suc (suc (suc (suc (suc m)))))))))))) day small = absurd (omega (arith, small))

-- the days before 1 March of so many times four centuries, centuries, four years and years
march-of : (e c f y : ℕ) → c ≤ 3 → f ≤ 24 → y ≤ 3 → before_march (e * 400 + c * 100 + f * 4 + y) ≡ 146097 * e + 36524 * c + 1461 * f + 365 * y
march-of e c f y ec ef ey = omega (arith, ec, ef, ey)

pub year-before : (year days : ℕ) → days ≤ 365 → days_before (day_of_year year days) ≡ before_march year + days
year-before year days few =
    let m : ℕ = (5 * days + 2) / 153 in
    let small : m ≤ 11 = omega (arith, few) in
    omega (arith, few, month-before year m (days - (153 * m + 2) / 5 + 1) small)

-- ---- the day is one that there is

or-true : (b : Bool) → (b || true) ≡ true
or-true true = refl
or-true false = refl

leap-by : (a b c : Bool) → a ≡ true → (b ≡ false) ⊎ (c ≡ true) → ((a && not b) || c) ≡ true
leap-by a b c is (inl other) = rw (is, other) refl
leap-by a b c is (inr same) = rw (is, same) (or-true (not b))

differs : (b : Bool) (n k : ℕ) → nat_eq n k ≡ b → (n ≡ k → ⊥) → nat_eq n k ≡ false
differs false n k e other = e
differs true n k e other = absurd (other (eqb-true n k e))

-- a fourth year is a leap year, unless it is a hundredth that is no four-hundredth
leap-fourth : (k : ℕ) → k % 4 ≡ 0 → (k % 100 ≡ 0 → ⊥) ⊎ (k % 400 ≡ 0) → is_leap k ≡ true
leap-fourth k four (inl other) = leap-by _ _ _ (eq-eqb (k % 4) 0 four) (inl (differs _ (k % 100) 0 refl other))
leap-fourth k four (inr full) = leap-by _ _ _ (eq-eqb (k % 4) 0 four) (inr (eq-eqb (k % 400) 0 full))

-- a day of such a year before its 366th, or this one
few-or-full : (b : Bool) (n : ℕ) → nat_lt n 365 ≡ b → n ≤ 365 → (n ≤ 364) ⊎ (n ≡ 365)
few-or-full true n e few = inl (omega (arith, ltb-true n 365 e))
few-or-full false n e few = inr (omega (arith, few, ltb-false n 365 e))

-- a day of February
february : (year days : ℕ) → 337 ≤ days → days ≤ 365 → (days ≤ 364) ⊎ (is_leap (year + 1) ≡ true) → IsDay (in_month year 11 (days - 337 + 1))
february year days late few (inl short) = (lit≤ tt, lit≤ tt, omega arith, of (is_leap (year + 1)))
  where
    of : (b : Bool) → days - 337 + 1 ≤ cond b 29 28
    of true = omega (arith, short)
    of false = omega (arith, short)
february year days late few (inr leap) = (lit≤ tt, lit≤ tt, omega arith, rw leap (omega (arith, few)))

there : (year days m : ℕ) → days ≤ 365 → (5 * days + 2) / 153 ≡ m → (days ≤ 364) ⊎ (is_leap (year + 1) ≡ true) → IsDay (in_month year m (days - (153 * m + 2) / 5 + 1))
there year days zero few e leap = (lit≤ tt, lit≤ tt, omega arith, omega (arith, few, e))
there year days (suc zero) few e leap = (lit≤ tt, lit≤ tt, omega arith, omega (arith, few, e))
there year days (suc (suc zero)) few e leap = (lit≤ tt, lit≤ tt, omega arith, omega (arith, few, e))
there year days (suc (suc (suc zero))) few e leap = (lit≤ tt, lit≤ tt, omega arith, omega (arith, few, e))
there year days (suc (suc (suc (suc zero)))) few e leap = (lit≤ tt, lit≤ tt, omega arith, omega (arith, few, e))
there year days (suc (suc (suc (suc (suc zero))))) few e leap = (lit≤ tt, lit≤ tt, omega arith, omega (arith, few, e))
there year days (suc (suc (suc (suc (suc (suc zero)))))) few e leap = (lit≤ tt, lit≤ tt, omega arith, omega (arith, few, e))
there year days (suc (suc (suc (suc (suc (suc (suc zero))))))) few e leap = (lit≤ tt, lit≤ tt, omega arith, omega (arith, few, e))
there year days (suc (suc (suc (suc (suc (suc (suc (suc zero)))))))) few e leap = (lit≤ tt, lit≤ tt, omega arith, omega (arith, few, e))
there year days (suc (suc (suc (suc (suc (suc (suc (suc (suc zero))))))))) few e leap = (lit≤ tt, lit≤ tt, omega arith, omega (arith, few, e))
there year days (suc (suc (suc (suc (suc (suc (suc (suc (suc (suc zero)))))))))) few e leap = (lit≤ tt, lit≤ tt, omega arith, omega (arith, few, e))
there year days (suc (suc (suc (suc (suc (suc (suc (suc (suc (suc (suc zero))))))))))) few e leap = february year days (omega (arith, e)) few leap
there year days (suc (suc (suc (suc (suc (suc (suc (suc (suc (suc (suc (suc m)))))))))))) few e leap = absurd (omega (arith, few, e))

-- the day of a year that begins in March is a day that there is, where the 366th is that of a leap year
pub year-there : (year days : ℕ) → days ≤ 365 → (days ≡ 365 → is_leap (year + 1) ≡ true) → IsDay (day_of_year year days)
year-there year days few leap = there year days ((5 * days + 2) / 153) few refl (⊎_elim inl (λ full. inr (leap full)) (few-or-full (nat_lt days 365) days refl few))

-- ---- the days before it

-- centuries of four, with the days left
c-bounds : (r : ℕ) → r < 146097 → (min (r / 36524) 3 * 36524 ≤ r) × (r - min (r / 36524) 3 * 36524 ≤ 36524)
c-bounds r few = (omega arith, omega (arith, few))

-- four years of a century
f-bounds : (s : ℕ) → s ≤ 36524 → (min (s / 1461) 24 * 1461 ≤ s) × (s - min (s / 1461) 24 * 1461 ≤ 1460)
f-bounds s few = (omega arith, omega (arith, few))

-- years of four
y-bounds : (t : ℕ) → t ≤ 1460 → (min (t / 365) 3 * 365 ≤ t) × (t - min (t / 365) 3 * 365 ≤ 365)
y-bounds t few = (omega arith, omega (arith, few))

pub era-before : (e r : ℕ) → r < 146097 → days_before (in_era (e * 400) r) ≡ e * 146097 + r
era-before e r few =
    let c : ℕ = min (r / 36524) 3 in
    let s : ℕ = r - c * 36524 in
    let f : ℕ = min (s / 1461) 24 in
    let t : ℕ = s - f * 1461 in
    let y : ℕ = min (t / 365) 3 in
    let century = c-bounds r few in
    let four = f-bounds s century.1 in
    let year = y-bounds t four.1 in
    let march : before_march (e * 400 + c * 100 + f * 4 + y) ≡ 146097 * e + 36524 * c + 1461 * f + 365 * y = march-of e c f y (omega arith) (omega arith) (omega arith) in
    year-before (e * 400 + c * 100 + f * 4 + y) (t - y * 365) year.1 ∙ omega (arith, march, century.0, four.0, year.0)

-- the 366th day from March on ends a leap year
leap-end : (e r : ℕ) → r < 146097 → (c f y : ℕ) → c ≡ min (r / 36524) 3 → f ≡ min ((r - c * 36524) / 1461) 24 → y ≡ min ((r - c * 36524 - f * 1461) / 365) 3
    → r - c * 36524 - f * 1461 - y * 365 ≡ 365 → is_leap (e * 400 + c * 100 + f * 4 + y + 1) ≡ true
leap-end e r few c f y is_c is_f is_y full = leap-fourth (e * 400 + c * 100 + f * 4 + y + 1) (omega (arith, few, is_c, is_f, is_y, full)) (by (nat_lt f 24) refl)
  where
    by : (b : Bool) → nat_lt f 24 ≡ b → ((e * 400 + c * 100 + f * 4 + y + 1) % 100 ≡ 0 → ⊥) ⊎ ((e * 400 + c * 100 + f * 4 + y + 1) % 400 ≡ 0)
    by true less = inl (λ hundredth. omega (arith, ltb-true f 24 less, few, is_c, is_f, is_y, full, hundredth))
    by false most = inr (omega (arith, ltb-false f 24 most, few, is_c, is_f, is_y, full))

era-there : (e r : ℕ) → r < 146097 → IsDay (in_era (e * 400) r)
era-there e r few =
    let c : ℕ = min (r / 36524) 3 in
    let s : ℕ = r - c * 36524 in
    let f : ℕ = min (s / 1461) 24 in
    let t : ℕ = s - f * 1461 in
    let y : ℕ = min (t / 365) 3 in
    let century = c-bounds r few in
    let four = f-bounds s century.1 in
    let year = y-bounds t four.1 in
    year-there (e * 400 + c * 100 + f * 4 + y) (t - y * 365) year.1 (leap-end e r few c f y refl refl refl)

-- ---- of a moment

pub date-before : (moment : ℕ) → days_before (date_of moment) ≡ moment / 86400 + days_before first_day
date-before moment =
    let n : ℕ = moment / 86400 + 719468 in
    era-before (n / 146097) (n % 146097) (omega arith) ∙ omega arith

pub date-there : (moment : ℕ) → IsDay (date_of moment)
date-there moment = let n : ℕ = moment / 86400 + 719468 in era-there (n / 146097) (n % 146097) (omega arith)
