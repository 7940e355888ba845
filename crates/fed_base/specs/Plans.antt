-- Which calls of an object in memory fail.
use Rattle.std.specs.Prelude.{ℕ, ◌-◌, ◌≤◌, ◌⊎◌, List, Contains}
use Rattle.fed_base.specs.Counts.{next_count}
use Rattle.fed_base.specs.declared.call_plan.CallPlan.{CallPlan}

-- the numbers of the calls that are to fail, how many calls there is room for, and how many were made
pub record Plan : Type 0 where
  pub failing : List ℕ
  pub room : ℕ
  pub made : ℕ

-- the plan that an object in memory keeps
abbrev pub plan_of : CallPlan → Plan
plan_of plan = record { failing = plan.failing.items; room = plan.room; made = plan.made }

-- how many calls there is still room for
abbrev pub calls_left : Plan → ℕ
calls_left plan = plan.room - plan.made

-- the next call is to fail
abbrev pub IsDue : Plan → Type 0
IsDue plan = (plan.room ≤ plan.made) ⊎ Contains plan.failing plan.made

-- the plan after one call more
abbrev pub after_call : Plan → Plan
after_call plan = record plan { made = next_count plan.made }
