-- What getting the page of a URL adds to a round.
use Rattle.std.specs.Prelude.{◌≡◌, ◌≤◌, ◌<◌, ◌⊎◌, ℕ, List, [], ◌∷◌, ◌++◌, map, find, bytes_eq, Bool, true, false, Option, Some, None, slice_get, if◌then◌else◌}
use Rattle.chain_climb.specs.Elements.{Among}
use Rattle.statement_shelf.specs.declared.calls.Proven.{Proven}
use Rattle.statement_shelf.specs.declared.calls.ShelfCall.TheVariants.{Look}
use Rattle.statement_shelf.specs.declared.calls.ShelfReply.TheVariants as reply
use Rattle.resolve_round.specs.declared.aim.Aim.{Aim}
use Rattle.resolve_round.specs.declared.getting.Place.{Place}
use Rattle.resolve_round.specs.declared.trace.Ask.{Ask}
use Rattle.resolve_round.specs.declared.trace.Event.{Event}
use Rattle.resolve_round.specs.declared.trace.Got.TheVariants.{Hit}
use Rattle.resolve_round.specs.declared.trace.Search.{Search}
use Rattle.resolve_round.specs.declared.trace.Trace.{Trace}
use Rattle.resolve_round.specs.Asking.{with_ask}
use Rattle.resolve_round.specs.Courses.{is_call, is_hit, url_of}
use Rattle.resolve_round.specs.Traces.{ShelfEvent, look_for, looks_in, puts_in}

-- only the events of the call changed
abbrev pub OnlyEvents : Trace → Trace → Type 0
OnlyEvents old new = new ≡ record old { events = new.events }

-- these Looks were added to the events, and no Put
pub record AddsLooks (more : List ShelfEvent) (old new : List Event) : Type 0 where
  pub looks : looks_in new ≡ looks_in old ++ more
  pub puts : puts_in new ≡ puts_in old

-- the Look of a round that looks into the cache
abbrev pub if_looks : Bool → ShelfEvent → List ShelfEvent
if_looks looks event = if looks then event ∷ [] else []

-- a trace and the round that is under way
pub record Point : Type 0 where
  pub trace : Trace
  pub search : Search

abbrev pub point : Trace → Search → Point
point trace search = record { trace = trace; search = search }

-- the URL wasn't asked
abbrev pub NotAsked : List ℕ → Search → Type 0
NotAsked url search = ¬ Among url (map url_of search.asks)

-- the ask of a new URL was added, behind its Look in a round that looks
pub record TakesAsk (looks : Bool) (ask : Ask) (old new : Point) : Type 0 where
  pub fresh : NotAsked ask.url old.search
  pub is : new.search ≡ with_ask old.search ask
  pub unhit : looks ≡ false → is_hit ask ≡ false
  pub added : AddsLooks (if_looks looks (look_for old.trace.moment ask)) old.trace.events new.trace.events

-- a Look was told the text, which was added to the asks, or nothing
pub record TakesHit (url : List ℕ) (old new : Point) : Type 0 where
  pub proven : Proven
  pub is : new.search ≡ with_ask old.search (record { url = url; got = Hit proven })
  pub added : AddsLooks ((Look url old.trace.moment, reply.Hit proven) ∷ []) old.trace.events new.trace.events

pub record TakesMiss (looks : Bool) (url : List ℕ) (old new : Point) : Type 0 where
  pub is : new.search ≡ old.search
  pub added : AddsLooks (if_looks looks (Look url old.trace.moment, reply.Miss)) old.trace.events new.trace.events

-- the same in a round that looks into the cache, or doesn't
abbrev pub LooksUp : Bool → List ℕ → Point → Point → Bool → Type 0
LooksUp looks url old new true = (looks ≡ true) × TakesHit url old new
LooksUp looks url old new false = TakesMiss looks url old new

-- nothing was asked, looked up or put: the URL was asked before
pub record WasBefore (url : List ℕ) (place : Place) (old new : Point) : Type 0 where
  pub asked : Among url (map url_of old.search.asks)
  pub same : new ≡ old
  pub before : place.fresh ≡ false

-- the place of the first ask of the URL, which was made before or now
pub record IsPlace (aim : Aim) (url : List ℕ) (old new : Point) (place : Place) : Type 0 where
  pub ask : Ask
  pub there : slice_get new.search.asks place.at ≡ Some ask
  pub among : Among ask new.search.asks
  pub first : find (λ a. bytes_eq a.url url) new.search.asks ≡ Some ask
  pub at : ask.url ≡ url
  pub came : WasBefore url place old new ⊎ (TakesAsk aim.looks ask old new × (place.fresh ≡ is_call ask))
  pub room : place.fresh ≡ true → old.search.calls < aim.bounds.calls

-- all calls were made, and the URL had to be asked of the link
pub record IsSpentAt (looks : Bool) (most : ℕ) (url : List ℕ) (old new : Point) : Type 0 where
  pub fresh : NotAsked url old.search
  pub all : most ≤ old.search.calls
  pub is : new.search ≡ old.search
  pub added : AddsLooks (if_looks looks (Look url old.trace.moment, reply.Miss)) old.trace.events new.trace.events

abbrev pub IsSource : Aim → List ℕ → Point → Point → Option Place → Type 0
IsSource aim url old new None = IsSpentAt aim.looks aim.bounds.calls url old new
IsSource aim url old new (Some place) = IsPlace aim url old new place
