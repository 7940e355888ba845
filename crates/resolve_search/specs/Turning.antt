-- What holds of a round between two turns of its session, and at its end.
use Rattle.std.specs.Prelude.{◌≡◌, ◌<◌, ◌+◌, ◌⊎◌, ℕ, List, [], ◌∷◌, ◌++◌, length, Bool, true, false, Option, Some, None, Result, Ok, Err}
use Rattle.chain_climb.specs.declared.path.Path.{Path}
use Rattle.chain_climb.specs.declared.want.End.{End}
use Rattle.chain_climb.specs.declared.want.End.TheVariants.{Budget}
use Rattle.chain_climb.specs.declared.want.Want.TheVariants.{Judge}
use Rattle.chain_climb.specs.Climbs.{Findings, Need}
use Rattle.chain_climb.specs.Sessions.{Extends, IsNextBy, Search as Searched, answer_to, want_of}
use Rattle.chain_climb.specs.Wants.{next_want}
use Rattle.resolve_round.specs.declared.aim.Aim.{Aim}
use Rattle.resolve_search.specs.declared.round.FoundChain.{FoundChain}
use Rattle.resolve_search.specs.declared.round.RoundEnd.{RoundEnd}
use Rattle.resolve_round.specs.declared.halt.Halt.{Halt}
use Rattle.resolve_round.specs.declared.halt.Halt.TheVariants as halt
use Rattle.resolve_round.specs.declared.trace.Search.{Search}
use Rattle.resolve_round.specs.declared.trace.Trace.{Trace}
use Rattle.resolve_search.specs.Answering.{SameCall}
use Rattle.resolve_round.specs.Courses.{Course, found}
use Rattle.resolve_search.specs.Driving.{Drives}
use Rattle.resolve_round.specs.Getting.{Point, point}
use Rattle.resolve_search.specs.Judging.{IsFound}
use Rattle.resolve_round.specs.Linking.{LinkSeen, LinkView, UsesLink, seen_by}
use Rattle.resolve_round.specs.Pages.{Query, case_in}
use Rattle.resolve_round.specs.Rounds.{EndsAs, FoundPath, Round, pages_in}
use Rattle.resolve_round.specs.Traces.{looks_in, looks_of, puts_in, puts_of}
use Rattle.resolve_round.specs.Walking.{StumblesOnce, WalkedRound}

-- what a round is after, under the keys and at the moment of a trace
abbrev pub query_at : Aim → Trace → Query
query_at aim trace = record { entity = aim.leaf; anchor = aim.anchor; keys = trace.keys.keys; moment = trace.moment; bounds = aim.bounds }

-- the session is that of the round, which began when the trace was so
pub record IsUnderWay (aim : Aim) (start : Trace) (p : Point) (s : Searched) : Type 0 where
  pub needs : List Need
  pub drives : Drives aim (query_at aim start) start s needs p
  pub call : SameCall start p.trace
  pub leaf : s.leaf ≡ aim.leaf
  pub anchor : s.anchor ≡ aim.anchor
  pub bounds : s.bounds ≡ aim.bounds
  pub of : p.search.leaf ≡ aim.leaf
  pub unhit : aim.looks ≡ false → p.search.hits ≡ 0
  pub going : p.search.ended ≡ false

-- a session is that of the round, since whenever it began
abbrev pub UnderWay : Aim → Point → Searched → Type 0
UnderWay aim p s = (start : Trace) × IsUnderWay aim start p s

-- whether a round has `ended` at this end, where it had or hadn't before
abbrev pub ended_as : End → Bool → Bool
ended_as (Budget calls paths) before = true
ended_as end before = before

-- the chain that was found, exactly where one was
abbrev pub IsChain : Query → Trace → Course → Option FoundChain → Type 0
IsChain query trace course None = ¬ FoundPath course
IsChain query trace course (Some chain) = (path : Path) × (course.stop ≡ found path) × IsFound trace (case_in query (pages_in course) path) chain.texts chain.resolved

-- the round is one of the query, ended so, and made the calls that it calls for
pub record IsRoundEnd (aim : Aim) (start : Trace) (p : Point) (end : RoundEnd) : Type 0 where
  pub course : Course
  pub is : course.search ≡ p.search
  pub looked : course.looks ≡ aim.looks
  pub round : Round (query_at aim start) course
  pub ends : EndsAs (query_at aim start) course end.end
  pub unhit : aim.looks ≡ false → p.search.hits ≡ 0
  pub looks : looks_in p.trace.events ≡ looks_in start.events ++ looks_of start.moment course
  pub puts : puts_in p.trace.events ≡ puts_in start.events ++ puts_of start.moment aim.age course
  pub chain : IsChain (query_at aim start) p.trace course end.chain

-- the round goes on with its session, or is at its end
abbrev pub IsStep : Aim → Trace → Point → Searched → Option RoundEnd → Type 0
IsStep aim start p s None = IsUnderWay aim start p s
IsStep aim start p s (Some end) = IsRoundEnd aim start p end

-- the same, whenever the round began
abbrev pub Turns : Aim → Point → Searched → Point → Searched → Option RoundEnd → Type 0
Turns aim old before new after end = (start : Trace) → IsUnderWay aim start old before → IsStep aim start new after end

-- ---- what the session wants

-- the session wants this page, and later answers don't change that
pub record WantsPageNow (s : Searched) (page : Need) : Type 0 where
  pub want : next_want s ≡ want_of page
  pub stays : (found : Findings) → Extends found s.pages → IsNextBy found s (want_of page)
  pub new : answer_to s.pages page ≡ None

-- it wants a verdict on this path
pub record WantsVerdictNow (s : Searched) (path : Path) : Type 0 where
  pub want : next_want s ≡ Judge path
  pub stays : (found : Findings) → Extends found s.pages → IsNextBy found s (Judge path)

-- where the round goes on, a page or a path more was answered
abbrev pub Grows : Searched → Searched → Option RoundEnd → Type 0
Grows old new None = length old.pages + length old.verdicts < length new.pages + length new.verdicts
Grows old new (Some end) = Unit {0}

-- ---- the whole round

-- the round that has asked nothing yet
abbrev pub blank : List ℕ → Search
blank leaf = record { leaf = leaf; asks = []; hits = 0; calls = 0; paths = 0; faults = 0; ended = false }

-- this round was added to the trace
abbrev pub AddsRound : Trace → Search → Trace → Type 0
AddsRound old search new = new.searches ≡ old.searches ++ search ∷ []

-- the moment, the epoch and the keys stay, and a round was added, at most
pub record SameBut (old new : Trace) : Type 0 where
  pub moment : new.moment ≡ old.moment
  pub epoch : new.epoch ≡ old.epoch
  pub keys : new.keys ≡ old.keys
  pub bounds : new.bounds ≡ old.bounds
  pub searches : (new.searches ≡ old.searches) ⊎ ((search : Search) × AddsRound old search new)

-- the round that was added ended so
pub record HasRound (aim : Aim) (old new : Trace) (end : RoundEnd) : Type 0 where
  pub search : Search
  pub added : AddsRound old search new
  pub ends : IsRoundEnd aim old (point new search) end

-- the link was used by the round that was added, or not at all
pub record UsesLinkOnce (extra : ℕ) (seen now : LinkSeen) (old new : Trace) : Type 0 where
  pub search : Search
  pub added : (new.searches ≡ old.searches) ⊎ AddsRound old search new
  pub used : UsesLink extra seen now (blank []) search
  pub none : new.searches ≡ old.searches → now ≡ seen

-- where memory was wanting the link was called once more, at most; where an object is worn, as the round counts
abbrev pub TriesOnce : LinkSeen → LinkSeen → Trace → Trace → Halt → Type 0
TriesOnce seen now old new (halt.Worn count) = UsesLinkOnce 0 seen now old new
TriesOnce seen now old new halt.Memory = UsesLinkOnce 0 seen now old new ⊎ UsesLinkOnce 1 seen now old new

-- how the round used the link, by the result: it was called as the round counts, and the asks got what it gave; where the round broke off,
-- it may have been called once more
abbrev pub RoundUsed : {L A : Type 0} → LinkView L → L → L → Trace → Trace → Result A Halt → Type 0
RoundUsed view old new before after (Ok value) =
    UsesLinkOnce 0 (seen_by view old) (seen_by view new) before after × WalkedRound view.gave old new before after
RoundUsed view old new before after (Err cause) =
    TriesOnce (seen_by view old) (seen_by view new) before after cause × StumblesOnce view.gave old new before after
