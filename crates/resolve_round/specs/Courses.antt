-- A round with what its trace doesn't name: for which needs its asks were made, and where it stopped.
use Rattle.std.specs.Prelude.{◌≡◌, ℕ, List, [], ◌∷◌, find, zip, bytes_eq, count_by, Bool, true, false, not, Option, Some, None, if◌then◌else◌}
use Rattle.std.specs.List.{list_any}
use Rattle.std.specs.Option.{option_and_then}
use Rattle.fed_ports.specs.declared.page.Page.{Page}
use Rattle.fed_ports.specs.declared.page.Page.TheVariants.{Document}
use Rattle.chain_climb.specs.declared.path.Path.{Path}
use Rattle.chain_climb.specs.Climbs.{Need}
use Rattle.resolve_round.specs.declared.trace.Ask.{Ask}
use Rattle.resolve_round.specs.declared.trace.Got.{Got}
use Rattle.resolve_round.specs.declared.trace.Got.TheVariants.{Hit, Fetched, Fault}
use Rattle.resolve_round.specs.declared.trace.Search.{Search}
use Rattle.resolve_round.specs.Pages.{Pages}

-- the text of a document
abbrev pub document_in : Page → Option (List ℕ)
document_in (Document text) = Some text
document_in page = None

-- the text that was got, where one was
abbrev pub text_got : Got → Option (List ℕ)
text_got (Hit proven) = Some proven.text
text_got (Fetched page) = document_in page
text_got Fault = None

-- the page that was fetched, where one was
abbrev pub fetched : Got → Option Page
fetched (Hit proven) = None
fetched (Fetched page) = Some page
fetched Fault = None

-- what the counts of a round count
abbrev pub is_hit : Ask → Bool
is_hit ask = elim ask.got [ Hit proven ↦ true | Fetched page ↦ false | Fault ↦ false ]

abbrev pub is_fault : Ask → Bool
is_fault ask = elim ask.got [ Hit proven ↦ false | Fetched page ↦ false | Fault ↦ true ]

abbrev pub is_call : Ask → Bool
is_call ask = not (is_hit ask)

abbrev pub url_of : Ask → List ℕ
url_of ask = ask.url

-- the documents that the asks gave
unfoldable pub pages_of : List Ask → Pages
pages_of asks url = option_and_then (λ ask. text_got ask.got) (find (λ ask. bytes_eq ask.url url) asks)

-- the counts are those of the asks
pub record Counts (search : Search) : Type 0 where
  pub hits : search.hits ≡ count_by is_hit search.asks
  pub faults : search.faults ≡ count_by is_fault search.asks
  pub calls : search.calls ≡ count_by is_call search.asks

-- why a round went no further
pub data Stop : Type 0 where
  -- there was nothing left to do
  finished : Stop
  -- this path's chain is valid
  found : (path : Path) → Stop
  -- this page had to be asked of the link, and all calls were made
  out_of_calls : (page : Need) → Stop
  -- this path had to be added, and all paths were
  out_of_paths : (path : Path) → Stop

-- each URL at its first need
abbrev pub first_after : List (List ℕ) → List Need → List Need
first_after earlier [] = []
first_after earlier (page ∷ pages) =
    if list_any (bytes_eq page.url) earlier then first_after earlier pages else page ∷ first_after (page.url ∷ earlier) pages

abbrev pub first_needs : List Need → List Need
first_needs pages = first_after [] pages

-- a bound was met
abbrev pub is_budget : Stop → Bool
is_budget finished = false
is_budget (found path) = false
is_budget (out_of_calls page) = true
is_budget (out_of_paths path) = true

-- a round, whether it looked on the shelf, the need for which each ask was made, and where it stopped
pub record Course : Type 0 where
  pub search : Search
  pub looks : Bool
  pub needs : List Need
  pub stop : Stop

-- the asks with the needs for which they were made
abbrev pub asked : Course → List (Need × Ask)
asked course = zip course.needs course.search.asks

abbrev pub search_of : Course → Search
search_of course = course.search
