-- A call on a cache and a book that nobody else uses, and that were just opened.
use Rattle.std.specs.Prelude.{◌≡◌, ℕ, List, [], ◌∷◌}
use Rattle.turn_log.specs.Gains.{calls_of}
use Rattle.turn_log.specs.Groups.{IsHistory}
use Rattle.turn_log.specs.Passes.{unused}
use Rattle.chain_climb.specs.Elements.{Among}
use Rattle.statement_shelf.specs.Book.{BookStep, opened_with}
use Rattle.statement_shelf.specs.Passes.{CommonsKnown}
use Rattle.statement_shelf.specs.Shelf.{ShelfStep}
use Rattle.statement_shelf.specs.declared.calls.AnchorKeys.{AnchorKeys}
use Rattle.statement_shelf.specs.declared.calls.Proven.{Proven}
use Rattle.resolve_reply.specs.declared.signer.Signer.{Signer}
use Rattle.resolve_round.specs.declared.trace.Event.{Event}
use Rattle.resolve_round.specs.declared.trace.Got.TheVariants.{Hit}
use Rattle.resolve_round.specs.declared.trace.Search.{Search}
use Rattle.resolve_round.specs.Courses.{Course}
use Rattle.resolve_round.specs.Told.{FetchedText}
use Rattle.resolve_round.specs.Traces.{asks_in}
use Rattle.resolve_round.specs.Acts.{on_book, on_part}
use Rattle.fed_resolver.specs.declared.outcome.Outcome.{Outcome}
use Rattle.fed_resolver.specs.Calls.{Resolves}
use Rattle.fed_resolver.specs.Told.{Situation}

-- nothing was seen of any shared object, and no call was made
pub record HasSeenNothing (known : CommonsKnown) : Type 0 where
  pub parts : (p : ℕ) → known.part p ≡ unused
  pub book : known.book ≡ unused

-- what was seen of each part of the cache, and of the book, are the calls that these events tell, and no others
pub record HasSeenOnly (events : List Event) (known : CommonsKnown) : Type 0 where
  pub parts : (p : ℕ) → (known.part p).seen ≡ calls_of (on_part p) events
  pub book : known.book.seen ≡ calls_of on_book events

-- what a call tells that is alone: no other call is made on the cache and the book before it, nor beside it
pub record ResolvesAlone (here : Situation) (signer : Signer) (anchors : List AnchorKeys) (outcome : Outcome) : Type 0 where
  -- its pass had seen nothing
  pub unseen : CommonsKnown
  pub nothing : HasSeenNothing unseen
  -- what the pass knows after it; with this, all that is told of any call
  pub last : CommonsKnown
  pub resolves : Resolves here signer unseen last outcome
  -- the calls that the trace tells are all calls that were made, and each was answered as it is from the empty cache on, and from the
  -- book with these anchors
  pub all : HasSeenOnly outcome.trace.events last
  pub history : IsHistory ShelfStep [] BookStep (opened_with anchors) last

-- there is one round at most, and the cache gave nothing to it
abbrev pub HasOneRound : List Course → Type 0
HasOneRound [] = Unit {0}
HasOneRound (only ∷ []) = only.search.hits ≡ 0
HasOneRound courses = ⊥

-- each text that the cache gave was fetched by the same call, at the same URL
abbrev pub HitsAreFetched : List Search → Type 0
HitsAreFetched searches =
    (url : List ℕ) (proven : Proven) → Among (record { url = url; got = Hit proven }) (asks_in searches) → FetchedText searches url proven.text
