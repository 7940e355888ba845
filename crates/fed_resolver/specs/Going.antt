-- What holds of a call between its rounds, and what its rounds have added.
use Rattle.std.specs.Prelude.{◌≡◌, ◌-◌, ℕ, List, [], ◌∷◌, ◌++◌, length, map, nat_eq, slice_get, Bool, true, ◌||◌, is_some, Option, Some, None, option_and_then, Result, Ok, Err}
use Rattle.std.specs.Option.{option_map_or}
use Rattle.jwk_set.specs.declared.set.JwkSet.{JwkSet}
use Rattle.entity_statement.specs.Claims.{Identifier}
use Rattle.entity_statement.specs.Signed.{statement_of}
use Rattle.entity_statement.specs.Told.{told}
use Rattle.chain_climb.specs.declared.path.Path.{Path}
use Rattle.chain_climb.specs.declared.want.Bounds.{Bounds}
use Rattle.chain_climb.specs.Elements.{Among}
use Rattle.chain_check.specs.declared.tried.Tried.{Tried}
use Rattle.statement_shelf.specs.declared.calls.BookCall.TheVariants.{Read}
use Rattle.statement_shelf.specs.declared.calls.BookReply.{BookReply}
use Rattle.statement_shelf.specs.declared.calls.BookReply.TheVariants.{Keys}
use Rattle.statement_shelf.specs.declared.calls.BookReply.TheVariants as book
use Rattle.resolve_reply.specs.declared.issuers.Issuer.{Issuer}
use Rattle.resolve_reply.specs.declared.signer.Signer.{Signer}
use Rattle.resolve_reply.specs.Bounds.{bounds_for}
use Rattle.resolve_reply.specs.Marks.{keys_of, text_of}
use Rattle.resolve_round.specs.declared.trace.Event.{Event}
use Rattle.resolve_round.specs.declared.trace.Event.TheVariants.{Book}
use Rattle.resolve_round.specs.declared.trace.Search.{Search}
use Rattle.resolve_round.specs.declared.trace.Trace.{Trace}
use Rattle.resolve_round.specs.Courses.{Course, found, search_of}
use Rattle.resolve_round.specs.Pages.{case_in}
use Rattle.resolve_round.specs.Rounds.{AreRounds, AreRoundsForEach, EndsAs, IsLast, Round, pages_in}
use Rattle.resolve_round.specs.Traces.{IsWork}
use Rattle.resolve_round.specs.declared.aim.Aim.{Aim}
use Rattle.resolve_search.specs.declared.round.FoundChain.{FoundChain}
use Rattle.resolve_search.specs.declared.round.RoundEnd.{RoundEnd}
use Rattle.resolve_search.specs.Judging.{IsFound}
use Rattle.resolve_search.specs.Turning.{IsChain, query_at}
use Rattle.fed_resolver.specs.declared.outcome.Refusal.{Refusal}
use Rattle.fed_resolver.specs.declared.texts.Ends.{Ends}
use Rattle.fed_resolver.specs.declared.outcome.Refusal.TheVariants as refusal
use Rattle.fed_resolver.specs.Outcomes.{asked_query}
use Rattle.fed_resolver.specs.Searches.{first_text_of, found_keys, found_texts, keys_said, said_in}
use Rattle.fed_resolver.specs.Told.{DidRounds, GaveSome, Situation}

-- ---- the beginning

-- nothing was done yet
pub record IsBlank (bounds : Bounds) (moment : ℕ) (trace : Trace) : Type 0 where
  pub moment_is : trace.moment ≡ moment
  pub bounds_is : trace.bounds ≡ bounds
  pub epoch : trace.epoch ≡ 0
  pub keys : trace.keys.keys ≡ []
  pub searches : trace.searches ≡ []
  pub checks : trace.checks ≡ []
  pub events : trace.events ≡ []

-- the book replied the anchor's keys, and nothing else was done
pub record IsBegun (here : Situation) (trace : Trace) : Type 0 where
  pub moment : trace.moment ≡ here.moment
  pub bounds : trace.bounds ≡ here.bounds
  pub searches : trace.searches ≡ []
  pub checks : trace.checks ≡ []
  pub events : trace.events ≡ Book (Read here.request.anchor) (Keys trace.epoch trace.keys) ∷ []

-- ---- the book

-- the book was read, and replied as it does to a Read
abbrev pub CanAnswer : BookReply → Type 0
CanAnswer (Keys epoch keys) = Unit {0}
CanAnswer book.NoAnchor = Unit {0}
CanAnswer book.Memory = Unit {0}
CanAnswer answer = ⊥

pub record HasRead (anchor : Identifier) (old new : Trace) : Type 0 where
  pub answer : BookReply
  pub is : new ≡ record old { events = Book (Read anchor) answer ∷ [] }
  pub can : CanAnswer answer

-- the one event is a reading of the book, whose keys were not taken yet
pub record CanTakeKeys (trace : Trace) : Type 0 where
  pub anchor : Identifier
  pub answer : BookReply
  pub is : trace.events ≡ Book (Read anchor) answer ∷ []
  pub can : CanAnswer answer
  pub epoch : trace.epoch ≡ 0
  pub unkeyed : trace.keys.keys ≡ []

-- the epoch and the keys that the book replied were taken, but for want of memory; nothing else changed
abbrev pub IsTaken : BookReply → Trace → Trace → Result (Unit {0}) Refusal → Type 0
IsTaken answer old new (Ok done) = answer ≡ Keys new.epoch new.keys
IsTaken answer old new (Err refusal.NoAnchor) = (answer ≡ book.NoAnchor) × (new ≡ old)
IsTaken answer old new (Err refusal.Memory) = GaveSome answer new.epoch new.keys.keys
IsTaken answer old new (Err other) = ⊥

pub record TakesKeys (old new : Trace) (result : Result (Unit {0}) Refusal) : Type 0 where
  pub same : new ≡ record old { epoch = new.epoch; keys = new.keys }
  pub took : (anchor : Identifier) (answer : BookReply) → old.events ≡ Book (Read anchor) answer ∷ [] → IsTaken answer old new result

-- ---- rounds

-- what a first round for an entity is after, within the signer's bounds for the anchor
abbrev pub first_aim : Identifier → Identifier → Signer → Aim
first_aim leaf anchor signer = record { leaf = leaf; anchor = anchor; bounds = bounds_for signer.bounds anchor; age = signer.age; looks = true }

-- the hits and the faults of a round, where there is one
abbrev pub hits_in : Option Search → ℕ
hits_in None = 0
hits_in (Some search) = search.hits

abbrev pub faults_in : Option Search → ℕ
faults_in None = 0
faults_in (Some search) = search.faults

-- the last of some rounds
abbrev pub last_search : List Search → Option Search
last_search searches = slice_get searches (length searches - 1)

-- no second round follows one that ended so
abbrev pub is_settled : RoundEnd → List Search → Bool
is_settled end searches = is_some end.chain || nat_eq (hits_in (last_search searches)) 0

-- these rounds were added to the trace, with the calls on the cache that they call for
pub record AddsCourses (age : ℕ) (courses : List Course) (old new : Trace) : Type 0 where
  pub searches : new.searches ≡ old.searches ++ map search_of courses
  pub more : List Event
  pub events : new.events ≡ old.events ++ more
  pub did : DidRounds old.moment age courses more

-- the rounds for an entity were added, and the last of them ended so
pub record HasRounds (aim : Aim) (old new : Trace) (end : RoundEnd) : Type 0 where
  pub courses : List Course
  pub added : AddsCourses aim.age courses old new
  pub are : AreRounds (query_at aim old) courses
  pub last : Course
  pub is_last : IsLast courses last
  pub ends : EndsAs (query_at aim old) last end.end
  pub chain : IsChain (query_at aim old) new last end.chain

-- an issuer is kept with its configuration and the keys that this says, where it was found
abbrev pub KeepsBy : Identifier → Option (List ℕ) → List Issuer → List Issuer → Type 0
KeepsBy id None before after = after ≡ before
KeepsBy id (Some text) before after =
    (keys : JwkSet) × (after ≡ before ++ record { id = id; keys = keys; text = text } ∷ []) × (keys_said (Some text) ≡ Some keys.keys)

-- the rounds for an issuer were added, and it is kept where the last of them found a chain
pub record HasIssuer (aim : Aim) (old new : Trace) (before after : List Issuer) : Type 0 where
  pub courses : List Course
  pub added : AddsCourses aim.age courses old new
  pub are : AreRounds (query_at aim old) courses
  pub last : Course
  pub is_last : IsLast courses last
  pub kept : KeepsBy aim.leaf (first_text_of last) before after
  -- the first text of its chain is the configuration that the round found
  pub said : said_in (query_at aim old) last aim.leaf ≡ option_and_then statement_of (first_text_of last)

-- the rounds for each of these issuers were added, and those whose chain was found are kept with their configurations and the keys of these
pub record HasIssuers (aim : Aim) (issuers : List Identifier) (old new : Trace) (kept : List Issuer) : Type 0 where
  pub others : List Course
  pub added : AddsCourses aim.age others old new
  pub rounds : AreRoundsForEach (query_at aim old) issuers others
  pub keys : (issuer : Identifier) → keys_of kept issuer ≡ found_keys (query_at aim old) others issuer
  pub texts : (issuer : Identifier) → text_of kept issuer ≡ found_texts others issuer
  -- the keys are those that the configuration says
  pub said : (issuer : Identifier) → found_keys (query_at aim old) others issuer ≡ keys_said (found_texts others issuer)

-- ---- the leaf's chain

-- the trace tells the leaf's rounds, behind the reading of the book
pub record HasLeafRounds (here : Situation) (trace : Trace) : Type 0 where
  pub moment : trace.moment ≡ here.moment
  pub bounds : trace.bounds ≡ here.bounds
  pub work : List Event
  pub begins : trace.events ≡ Book (Read here.request.anchor) (Keys trace.epoch trace.keys) ∷ work
  pub works : (event : Event) → Among event work → IsWork event
  pub leaf : List Course
  pub searches : trace.searches ≡ map search_of leaf
  pub did : DidRounds here.moment here.age leaf work
  pub rounds : AreRounds (asked_query here trace) leaf
  pub last : Course
  pub is_last : IsLast leaf last
  pub last_round : Round (asked_query here trace) last

-- the last of them found this chain
pub record HasLeaf (here : Situation) (trace : Trace) (chain : FoundChain) : Type 0 where
  pub rounds : HasLeafRounds here trace
  pub path : Path
  pub is_path : rounds.last.stop ≡ found path
  pub is_found : IsFound trace (case_in (asked_query here trace) (pages_in rounds.last) path) chain.texts chain.resolved

-- the first and the last text of a chain
abbrev pub first_text : List Tried → List ℕ
first_text chain = option_map_or (λ (tried : Tried). tried.text) (slice_get chain 0) []

abbrev pub last_text : List Tried → List ℕ
last_text chain = option_map_or (λ (tried : Tried). tried.text) (slice_get chain (length chain - 1)) []

-- the statements that these are
abbrev pub AreEnds : List Tried → Ends → Type 0
AreEnds chain ends = (statement_of (first_text chain) ≡ Some (told ends.leaf)) × (statement_of (last_text chain) ≡ Some (told ends.anchor))
