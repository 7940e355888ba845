-- What the trace of a call tells: whole, and of a call that ended for want of memory or at a worn object.
use Rattle.std.specs.Prelude.{◌≡◌, ◌⊎◌, ℕ, List, [], ◌∷◌, ◌++◌, map}
use Rattle.jwk_set.specs.declared.jwk.Jwk.{Jwk}
use Rattle.chain_climb.specs.declared.want.Bounds.{Bounds}
use Rattle.chain_climb.specs.Elements.{Among}
use Rattle.statement_shelf.specs.declared.calls.BookCall.TheVariants.{Read}
use Rattle.statement_shelf.specs.declared.calls.BookReply.{BookReply}
use Rattle.statement_shelf.specs.declared.calls.BookReply.TheVariants.{Keys}
use Rattle.resolve_reply.specs.declared.signer.Signer.{Signer}
use Rattle.resolve_reply.specs.Bounds.{bounds_for}
use Rattle.resolve_round.specs.declared.request.ResolveRequest.{ResolveRequest}
use Rattle.resolve_round.specs.declared.trace.Event.{Event}
use Rattle.resolve_round.specs.declared.trace.Event.TheVariants.{Book}
use Rattle.resolve_round.specs.declared.trace.Search.{Search}
use Rattle.resolve_round.specs.declared.trace.Trace.{Trace}
use Rattle.resolve_round.specs.Courses.{Counts, Course, search_of}
use Rattle.resolve_round.specs.Pages.{Query}
use Rattle.resolve_round.specs.Rounds.{AreRounds, AreRoundsForEach, IsLast}
use Rattle.resolve_round.specs.Told.{AreChecks, HitsAreLooks, LooksAreNow, ProvesAreKnown, ProvesGood, PutsAreFetched}
use Rattle.resolve_round.specs.Traces.{IsWork, looks_in, looks_of, puts_in, puts_of}
use Rattle.fed_resolver.specs.Searches.{issuers_after}

-- what a call is judged by: its request, the age for which its signer keeps pages, its moment and its bounds
pub record Situation : Type 0 where
  pub request : ResolveRequest
  pub age : ℕ
  pub moment : ℕ
  pub bounds : Bounds

-- a call by a signer: its bounds are those of the signer's first entry of the requested anchor, else the usual ones
abbrev pub situation_of : ResolveRequest → Signer → ℕ → Situation
situation_of request signer moment = record {
  request = request;
  age = signer.age;
  moment = moment;
  bounds = bounds_for signer.bounds request.anchor;
}

-- what the leaf's rounds are after
abbrev pub query_of : Situation → List Jwk → Query
query_of here keys = record { entity = here.request.sub; anchor = here.request.anchor; keys = keys; moment = here.moment; bounds = here.bounds }

-- ---- the book

-- the epoch and the keys that a Read gave
abbrev pub GaveKeys : BookReply → ℕ → List Jwk → Type 0
GaveKeys (Keys e set) epoch keys = (epoch ≡ e) × (keys ≡ set.keys)
GaveKeys r epoch keys = (epoch ≡ 0) × (keys ≡ [])

-- the same, where memory may have been wanting for a copy of the keys
abbrev pub GaveSome : BookReply → ℕ → List Jwk → Type 0
GaveSome (Keys e set) epoch keys = (epoch ≡ e) × ((keys ≡ set.keys) ⊎ (keys ≡ []))
GaveSome r epoch keys = (epoch ≡ 0) × (keys ≡ [])

-- ---- the whole trace

-- the rounds of the leaf, and then those of the issuers of its marks
pub record AreSearches (query : Query) (leaf others : List Course) : Type 0 where
  pub rounds : AreRounds query leaf
  pub last : Course
  pub is_last : IsLast leaf last
  pub issuers : AreRoundsForEach query (issuers_after query last) others

-- a listed anchor's keys lead to searches; without them there is none
abbrev pub SearchesAfter : Situation → BookReply → List Course → List Course → Type 0
SearchesAfter here (Keys epoch set) leaf others = AreSearches (query_of here set.keys) leaf others
SearchesAfter here r leaf others = (leaf ≡ []) × (others ≡ [])

-- what the trace tells of the book, the searches and the checks, of a call that ended with a reply or a refusal of its own
pub record ToldSearches (here : Situation) (trace : Trace) : Type 0 where
  -- the call's one reading of the clock
  pub moment : trace.moment ≡ here.moment
  -- its bounds
  pub bounds : trace.bounds ≡ here.bounds
  -- its one Read, of the requested anchor, comes first, and then come Looks, Puts and Proves
  pub answer : BookReply
  pub work : List Event
  pub begins : trace.events ≡ Book (Read here.request.anchor) answer ∷ work
  pub works : (event : Event) → Among event work → IsWork event
  -- the keys are those of that Read
  pub keys : GaveKeys answer trace.epoch trace.keys.keys
  -- the searches are the leaf's rounds and those of the issuers of its marks, and no others
  pub leaf : List Course
  pub others : List Course
  pub searches : trace.searches ≡ map search_of (leaf ++ others)
  pub rounds : SearchesAfter here answer leaf others
  -- the tests of signatures, each once
  pub checks : AreChecks trace

-- what a round did on the shelf
pub record DidRound (moment age : ℕ) (course : Course) (events : List Event) : Type 0 where
  -- each URL of a first round was looked up before anything else, once, and what was hit is what was got; a second round looks nothing up
  pub looks : looks_in events ≡ looks_of moment course
  -- each page that is kept was put with its end, and no other
  pub puts : puts_in events ≡ puts_of moment age course

-- what these rounds did there, one behind the other
abbrev pub DidRounds : ℕ → ℕ → List Course → List Event → Type 0
DidRounds moment age [] events = events ≡ []
DidRounds moment age (course ∷ courses) events =
    (own : List Event) × (later : List Event) × (events ≡ own ++ later) × DidRound moment age course own × DidRounds moment age courses later

-- the same, and what it tells of the shelf
pub record ToldWhole (here : Situation) (trace : Trace) : Type 0 where
  pub base : ToldSearches here trace
  -- its work falls into one part for each round, in their order, with the Looks and the Puts of this round
  pub did : DidRounds here.moment here.age (base.leaf ++ base.others) base.work
  -- each good check was proved, and nothing else than good checks and what hits showed
  pub proved : ProvesGood trace
  pub proves : ProvesAreKnown trace

-- ---- a call that ended for want of memory or at a worn object

-- there is no event, or the Read comes first, and then come Looks, Puts and Proves; the keys are those of the Read, or were not copied any
-- more
abbrev pub BeginsSo : Situation → Trace → List Event → Type 0
BeginsSo here trace [] = (trace.epoch ≡ 0) × (trace.keys.keys ≡ [])
BeginsSo here trace (Book (Read anchor) answer ∷ work) =
    (anchor ≡ here.request.anchor) × GaveSome answer trace.epoch trace.keys.keys × ((event : Event) → Among event work → IsWork event)
BeginsSo here trace events = ⊥

-- what stands in the trace is true
pub record ToldInPart (here : Situation) (trace : Trace) : Type 0 where
  pub moment : trace.moment ≡ here.moment
  pub bounds : trace.bounds ≡ here.bounds
  pub begins : BeginsSo here trace trace.events
  -- each Look is of the call's moment
  pub looks : LooksAreNow trace
  -- what was hit is what a Look replied, and what was put is a page that the call fetched, with its end
  pub hits : HitsAreLooks trace
  pub puts : PutsAreFetched here.age trace
  pub proves : ProvesAreKnown trace
  pub checks : AreChecks trace
  -- of the rounds nothing is said but that they count their asks
  pub counts : (search : Search) → Among search trace.searches → Counts search
