-- What keeping a page in the cache adds to the events.
use Rattle.std.specs.Prelude.{◌≡◌, ℕ, List, [], ◌∷◌, ◌++◌, Bool, Some, if◌then◌else◌}
use Rattle.entity_statement.specs.Claims.{Claims}
use Rattle.entity_statement.specs.Use.{current_at}
use Rattle.chain_climb.specs.Climbs.{Need}
use Rattle.resolve_round.specs.declared.trace.Event.{Event}
use Rattle.resolve_round.specs.declared.trace.Search.{Search}
use Rattle.resolve_round.specs.declared.trace.Trace.{Trace}
use Rattle.resolve_round.specs.Knowing.{with_search}
use Rattle.resolve_round.specs.Pages.{named_statement}
use Rattle.resolve_round.specs.Told.{FetchedText}
use Rattle.resolve_round.specs.Traces.{Kept, kept_until, looks_in, puts_in}

-- these Puts were added to the events, and no Look
pub record AddsPuts (more : List Kept) (old new : List Event) : Type 0 where
  pub looks : looks_in new ≡ looks_in old
  pub puts : puts_in new ≡ puts_in old ++ more

-- what is kept of a text that says this, at the moment and for this age
abbrev pub kept_here : ℕ → ℕ → List ℕ → List ℕ → Claims → List Kept
kept_here t age url text s = if current_at s.iat s.exp t then record { url = url; text = text; until = kept_until t age s.exp } ∷ [] else []

-- the same of a page that was fetched just now; nothing of any other
abbrev pub kept_new : Bool → ℕ → ℕ → List ℕ → List ℕ → Claims → List Kept
kept_new fresh t age url text s = if fresh then kept_here t age url text s else []

-- the text was fetched at the URL for this page, and says this
pub record IsFetchedPage (t : Trace) (search : Search) (url text : List ℕ) (s : Claims) : Type 0 where
  pub page : Need
  pub at : page.url ≡ url
  pub reads : named_statement page text ≡ Some s
  pub fetched : FetchedText (with_search t search).searches url text
