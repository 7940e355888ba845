-- What a step of a round leaves of its call.
use Rattle.std.specs.Prelude.{ℕ, Result, OnOk}
use Rattle.resolve_round.specs.declared.call.Call.{Call}
use Rattle.resolve_round.specs.declared.halt.Halt.{Halt}
use Rattle.resolve_round.specs.declared.trace.Search.{Search}
use Rattle.resolve_round.specs.Calls.{Acts, Counted, Tests}
use Rattle.resolve_round.specs.Knowing.{HoldsSoFar, with_search}
use Rattle.resolve_round.specs.Told.{ProvesGood}
use Rattle.resolve_search.specs.Answering.{SameCall}

-- a step of a judgement tests signatures alone; what the trace tells stays true, and each good check is proved where each was
pub record Judges {R G A : Type 0} (count : G → ℕ) (age : ℕ) (search : Search) (old new : Call R G) (result : Result A Halt) : Type 0 where
  pub tests : Tests count old new result
  pub holds : HoldsSoFar age search new.trace.now
  pub good : OnOk result (ProvesGood (with_search old.trace.now search) → ProvesGood (with_search new.trace.now search))

-- a step of a round leaves the call as it is but for checks, each counted, and events; what the trace tells is true, and each good check is
-- proved where it didn't break off
pub record Keeps {R G A : Type 0} (count : G → ℕ) (age : ℕ) (search : Search) (old new : Call R G) (result : Result A Halt) : Type 0 where
  pub acts : Acts old new result
  pub same : SameCall old.trace.now new.trace.now
  pub counted : Counted count old new
  pub holds : HoldsSoFar age search new.trace.now
  pub good : OnOk result (ProvesGood (with_search new.trace.now search))
