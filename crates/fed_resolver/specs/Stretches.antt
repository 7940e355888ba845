-- What a call does from one moment to another: what it leaves of its trace, its pass and its link.
use Rattle.std.specs.Prelude.{◌≡◌, ◌≤◌, ◌<◌, ◌+◌, ◌⊎◌, ℕ, List, [], ◌++◌, Result, Ok, Err}
use Rattle.turn_log.specs.Groups.{known}
use Rattle.chain_climb.specs.Elements.{Among}
use Rattle.statement_shelf.specs.Passes.{CommonsKnown}
use Rattle.resolve_round.specs.declared.trace.Search.{Search}
use Rattle.resolve_round.specs.declared.trace.Trace.{Trace}
use Rattle.resolve_round.specs.Told.{IsTrueSoFar, ProvesGood}
use Rattle.resolve_round.specs.Traces.{asks_in}
use Rattle.resolve_round.specs.declared.halt.Halt.{Halt}
use Rattle.resolve_round.specs.declared.halt.Halt.TheVariants as halt
use Rattle.resolve_round.specs.Acts.{Continues, IsKept}
use Rattle.resolve_round.specs.Linking.{FetchesOf, LinkSeen, LinkView, seen_by}
use Rattle.resolve_round.specs.Walking.{GaveEach, Giving, Stumbled}
use Rattle.resolve_round.specs.declared.call.Call.{Call}
use Rattle.resolve_round.specs.Calls.{HasPass, SameParts}
use Rattle.fed_resolver.specs.Uses.{calls_made, faults_met}
use Rattle.fed_base.specs.Counts.{counted}

-- a call at one moment: its trace, what its pass knows, and its link
pub record Moment : Type 0 where
  pub trace : Trace
  pub known : CommonsKnown
  pub link : LinkSeen

abbrev pub moment_at : Trace → CommonsKnown → LinkSeen → Moment
moment_at trace known link = record { trace = trace; known = known; link = link }

-- the moment, the epoch, the keys and the bounds stay
pub record SameKeys (old new : Trace) : Type 0 where
  pub moment : new.moment ≡ old.moment
  pub epoch : new.epoch ≡ old.epoch
  pub keys : new.keys ≡ old.keys
  pub bounds : new.bounds ≡ old.bounds

-- rounds were added, and the link was called as often as they count, and so many times more; each fault that it counts is one of theirs
pub record UsesRounds (extra : ℕ) (seen now : LinkSeen) (old new : List Search) : Type 0 where
  pub more : List Search
  pub are : new ≡ old ++ more
  pub called : now.calls ≡ counted (calls_made more + extra) seen.calls
  pub later : seen.faults ≤ now.faults
  pub failed : counted (faults_met more) seen.faults ≤ now.faults
  pub shown : seen.faults < now.faults → 0 < faults_met more
  pub web : now.web ≡ seen.web
  pub fetched : (search : Search) → Among search more → FetchesOf seen.web search

-- the asks of the rounds that were added got what the link gave meanwhile, call by call
pub record WalkedRounds {L : Type 0} (gave : Giving L) (old new : L) (before after : Trace) : Type 0 where
  pub more : List Search
  pub are : after.searches ≡ before.searches ++ more
  pub gave_each : GaveEach gave (asks_in more) old new

-- the same, and for one call more, at most, memory was wanting
pub record StumbledRounds {L : Type 0} (gave : Giving L) (old new : L) (before after : Trace) : Type 0 where
  pub more : List Search
  pub are : after.searches ≡ before.searches ++ more
  pub stumbled : Stumbled gave old new [] (asks_in more)

-- what was done is told, and what stands in the trace is true, where pages are kept for this age; the link was called so many times more
-- than the rounds count
pub record Goes (age extra : ℕ) (old new : Moment) : Type 0 where
  pub call : SameKeys old.trace new.trace
  pub told : IsTrueSoFar age new.trace
  pub continues : Continues old.trace.events new.trace.events old.known new.known
  pub used : UsesRounds extra old.link new.link old.trace.searches new.trace.searches

-- the same of a call that broke off: for one call of the link more, at most, memory was wanting
abbrev pub GoesTo : ℕ → Moment → Moment → Halt → Type 0
GoesTo age old new (halt.Worn count) = Goes age 0 old new
GoesTo age old new halt.Memory = Goes age 0 old new ⊎ Goes age 1 old new

-- ---- by the result

-- what a stretch does
abbrev pub GoesFor : {A : Type 0} → ℕ → Moment → Moment → Result A Halt → Type 0
GoesFor age old new (Ok value) = Goes age 0 old new
GoesFor age old new (Err cause) = GoesTo age old new cause

-- what the link gave meanwhile
abbrev pub WalksFor : {L A : Type 0} → Giving L → L → L → Trace → Trace → Result A Halt → Type 0
WalksFor gave old new before after (Ok value) = WalkedRounds gave old new before after
WalksFor gave old new before after (Err cause) = StumbledRounds gave old new before after

-- ---- of a call

abbrev pub moment_of : {L R G : Type 0} → LinkView L → Call R G → L → Moment
moment_of view call link = moment_at call.trace.now (known call.pass.now) (seen_by view link)

-- its pass is one of the shared objects, what its trace tells is true, and each good check was proved
pub record CanGoOn {R G : Type 0} (age : ℕ) (call : Call R G) : Type 0 where
  pub of : HasPass call
  pub told : IsTrueSoFar age call.trace.now
  pub good : ProvesGood call.trace.now

-- it works with what it worked with, and its pass stays one of the shared objects
pub record KeepsParts {R G : Type 0} (old new : Call R G) : Type 0 where
  pub parts : SameParts old new
  pub kept : IsKept old.commons.now old.pass.now new.pass.now
