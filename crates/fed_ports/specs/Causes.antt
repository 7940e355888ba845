-- When a fault of the outside may be answered.
use Rattle.std.specs.Prelude.{◌≡◌, ◌≤◌, ℕ, Result, OnErr, OnOk}
use Rattle.fed_base.specs.Counts.{Rose}

-- the count never falls, a failure comes only where it rose, and any other answer leaves it
pub record HasCause {T E : Type 0} (before now : ℕ) (result : Result T E) : Type 0 where
  pub later : before ≤ now
  pub failed : OnErr result (Rose before now)
  pub same : OnOk result (now ≡ before)
