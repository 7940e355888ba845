-- What one resolve call does: its outcome, and the calls that its pass gained.
use Rattle.std.specs.Prelude.{◌≡◌, ◌≤◌, ℕ, List, [], Result, Err}
use Rattle.jwk_set.specs.declared.set.JwkSet.{JwkSet}
use Rattle.turn_log.specs.Runs.{Runs, call_limit}
use Rattle.chain_climb.specs.Elements.{Among}
use Rattle.statement_shelf.specs.declared.calls.AnchorKeys.{AnchorKeys}
use Rattle.statement_shelf.specs.declared.calls.BookCall.TheVariants.{Read}
use Rattle.statement_shelf.specs.declared.calls.BookReply.TheVariants.{Keys}
use Rattle.statement_shelf.specs.Book.{Book, BookStep, opened_with}
use Rattle.statement_shelf.specs.Passes.{CommonsKnown}
use Rattle.resolve_reply.specs.declared.reply.Reply.{Reply}
use Rattle.resolve_reply.specs.declared.signer.Signer.{Signer}
use Rattle.resolve_round.specs.declared.trace.Event.TheVariants as Event
use Rattle.resolve_round.specs.declared.trace.Trace.{Trace}
use Rattle.resolve_round.specs.Acts.{GainsEvents, HasCounted}
use Rattle.resolve_round.specs.Walking.{GaveEach, Giving, Stumbled}
use Rattle.resolve_round.specs.Told.{TestsNothingProved}
use Rattle.resolve_round.specs.Traces.{asks_in}
use Rattle.fed_resolver.specs.declared.outcome.Outcome.{Outcome}
use Rattle.fed_resolver.specs.declared.outcome.Refusal.{Refusal}
use Rattle.fed_resolver.specs.declared.outcome.Refusal.TheVariants.{Memory, Worn}
use Rattle.fed_resolver.specs.Outcomes.{Tells}
use Rattle.fed_resolver.specs.Told.{Situation}

-- ---- the pass

-- the Read that replied keys came after each rotation that the caller had seen
abbrev pub IsFresh : List AnchorKeys → CommonsKnown → Trace → Type 0
IsFresh anchors old trace =
    (anchor : List ℕ) (epoch : ℕ) (keys : JwkSet) → Among (Event.Book (Read anchor) (Keys epoch keys)) trace.events
    → (book : Book) → Runs BookStep (opened_with anchors) old.book.seen book → book.epoch ≤ epoch

-- a worn object is one that has counted all that it can
abbrev pub WornOnly : CommonsKnown → Result Reply Refusal → Type 0
WornOnly known (Err (Worn count)) = (count ≡ call_limit) × HasCounted known count
WornOnly known result = Unit {0}

-- ---- the whole call

-- what a call's outcome tells, and that its events are the calls that its pass gained
pub record Resolves (here : Situation) (signer : Signer) (old new : CommonsKnown) (outcome : Outcome) : Type 0 where
  -- the result is the one that the trace calls for, and the trace is true
  pub tells : Tells here signer outcome outcome.result
  -- the events are the pass's own calls
  pub events : GainsEvents old new outcome.trace.events
  pub worn : WornOnly new outcome.result
  -- the keys are at least as new as what the caller knew
  pub fresh : (anchors : List AnchorKeys) → IsFresh anchors old outcome.trace
  -- no pair was tested that a hit had shown as proved
  pub untested : TestsNothingProved outcome.trace

-- ---- the link

-- what the rounds got is what the link gave, call by call; of a call that broke off, for one call more, at most, memory was wanting
abbrev pub GaveAll : {L : Type 0} → Giving L → L → L → Trace → Result Reply Refusal → Type 0
GaveAll gave old new trace (Err Memory) = Stumbled gave old new [] (asks_in trace.searches)
GaveAll gave old new trace (Err (Worn count)) = Stumbled gave old new [] (asks_in trace.searches)
GaveAll gave old new trace result = GaveEach gave (asks_in trace.searches) old new
