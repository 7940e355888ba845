-- What a step of a resolve call leaves of what the call works with.
use Rattle.std.specs.Prelude.{◌≡◌, ℕ, Result, Ok, Err}
use Rattle.turn_log.specs.Groups.{known}
use Rattle.statement_shelf.specs.Passes.{IsPassOfAll}
use Rattle.resolve_round.specs.declared.call.Call.{Call}
use Rattle.resolve_round.specs.declared.halt.Halt.{Halt}
use Rattle.resolve_round.specs.declared.trace.Search.{Search}
use Rattle.resolve_round.specs.Acts.{Continues, IsHalt, IsKept}
use Rattle.resolve_round.specs.Getting.{OnlyEvents, Point, point}
use Rattle.resolve_round.specs.Knowing.{HoldsSoFar, with_search}
use Rattle.resolve_round.specs.Testing.{CountsChecks, OnlyTests}
use Rattle.resolve_round.specs.Told.{ProvesGood}

-- the pass is one of the shared objects
abbrev pub HasPass : {R G : Type 0} → Call R G → Type 0
HasPass call = IsPassOfAll call.commons.now call.pass.now

-- the trace of a call and the round that is under way
abbrev pub point_of : {R G : Type 0} → Call R G → Search → Point
point_of call search = point call.trace.now search

-- what the trace tells is true while this round is under way, and each good check was proved
pub record IsReady {R G : Type 0} (age : ℕ) (call : Call R G) (search : Search) : Type 0 where
  pub of : HasPass call
  pub holds : HoldsSoFar age search call.trace.now
  pub good : ProvesGood (with_search call.trace.now search)

-- ---- what was done

-- the call works with what it worked with
pub record SameParts {R G : Type 0} (old new : Call R G) : Type 0 where
  pub commons : new.commons.now ≡ old.commons.now
  pub pass : new.pass.ghost_name ≡ old.pass.ghost_name
  pub trace : new.trace.ghost_name ≡ old.trace.ghost_name
  pub steps : new.steps.ghost_name ≡ old.steps.ghost_name

-- the calls on the shared objects that the pass gained are those that the trace tells, in order, and it stays one of these objects
pub record Acted {R G : Type 0} (old new : Call R G) : Type 0 where
  pub parts : SameParts old new
  pub kept : IsKept old.commons.now old.pass.now new.pass.now
  pub continues : Continues old.trace.now.events new.trace.now.events (known old.pass.now) (known new.pass.now)

-- the same, by the result: what broke off did so where one of these objects is worn, or memory was wanting
abbrev pub Acts : {R G A : Type 0} → Call R G → Call R G → Result A Halt → Type 0
Acts old new (Ok value) = Acted old new
Acts old new (Err cause) = Acted old new × IsHalt (known new.pass.now) cause

-- each check that was added was counted
abbrev pub Counted : {R G : Type 0} → (G → ℕ) → Call R G → Call R G → Type 0
Counted count old new = CountsChecks old.trace.now.checks new.trace.now.checks (count old.steps.now.ledger) (count new.steps.now.ledger)

-- ---- what a step adds

-- work with the cache adds nothing but events
pub record UsesCache {R G A : Type 0} (old new : Call R G) (result : Result A Halt) : Type 0 where
  pub acts : Acts old new result
  pub only : OnlyEvents old.trace.now new.trace.now
  pub steps : new.steps.now ≡ old.steps.now

-- a test of a signature adds nothing but a check, which is counted, and a Prove
pub record Tests {R G A : Type 0} (count : G → ℕ) (old new : Call R G) (result : Result A Halt) : Type 0 where
  pub acts : Acts old new result
  pub only : OnlyTests old.trace.now new.trace.now
  pub counted : Counted count old new
