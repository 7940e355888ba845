-- What a call answers where its link tells its web and doesn't fail.
use Rattle.std.specs.Prelude.{◌≡◌, ◌≢◌, ◌≤◌, ℕ, List, [], ◌∷◌, ◌++◌, length, false, IsFalse, Some, Result, Err}
use Rattle.fed_ports.specs.declared.page.Page.{Page}
use Rattle.fed_ports.specs.Webs.{Web, page_in}
use Rattle.statement_shelf.specs.declared.calls.Proven.{Proven}
use Rattle.chain_climb.specs.Elements.{Among}
use Rattle.resolve_round.specs.Courses.{first_needs}
use Rattle.chain_climb.specs.Climbs.{Step, added, climb, judge, needed}
use Rattle.resolve_round.specs.declared.trace.Got.TheVariants.{Hit, Fetched}
use Rattle.fed_resolver.specs.declared.outcome.Refusal.{Refusal}
use Rattle.fed_resolver.specs.declared.outcome.Refusal.TheVariants.{Unavailable}
use Rattle.resolve_reply.specs.declared.reply.Reply.{Reply}
use Rattle.resolve_round.specs.declared.trace.Search.{Search}
use Rattle.resolve_round.specs.Courses.{Course, document_in, is_budget}
use Rattle.fed_resolver.specs.Outcomes.{IsRefused, IsReplied}
use Rattle.resolve_round.specs.Pages.{HasChain, HasValidChain, Pages, Query, findings}

-- the documents of a web
unfoldable pub documents_in : Web → Pages
documents_in web url = document_in (page_in web url)

-- what was fetched is the web's
abbrev pub FetchedFrom : Web → Search → Type 0
FetchedFrom web search = (url : List ℕ) (page : Page) → Among (record { url = url; got = Fetched page }) search.asks → page ≡ page_in web url

-- what was hit is the web's document
abbrev pub HitsAgree : Web → Search → Type 0
HitsAgree web search =
    (url : List ℕ) (proven : Proven) → Among (record { url = url; got = Hit proven }) search.asks → documents_in web url ≡ Some proven.text

-- the steps of a search end, or come to the first valid path
abbrev pub EndsAtBest : Query → Pages → List Step → Type 0
EndsAtBest query pages [] = Unit {0}
EndsAtBest query pages (judge path ∷ steps) = HasValidChain query pages path
EndsAtBest query pages steps = ⊥

-- over the whole web the search needs no more URLs and adds no more paths than the bounds allow
pub record FitsBounds (query : Query) (web : Web) : Type 0 where
  pub taken : List Step
  pub left : List Step
  pub steps : climb (findings (documents_in web) query.moment) query.entity query.anchor query.bounds.depth ≡ taken ++ left
  pub ends : EndsAtBest query (documents_in web) left
  pub urls : length (first_needs (needed taken)) ≤ query.bounds.calls
  pub paths : length (added taken) ≤ query.bounds.paths

-- no text of these rounds came from the shelf
abbrev pub NoHits : List Course → Type 0
NoHits courses = (course : Course) → Among course courses → course.search.hits ≡ 0

-- a round doesn't end at a bound
abbrev pub InBounds : Course → Type 0
InBounds course = IsFalse (is_budget course.stop)

-- what the leaf's rounds and the result say of the web
pub record SpeaksOf (query : Query) (web : Web) (leaf : List Course) (result : Result Reply Refusal) : Type 0 where
  -- a chain was found, or refused by the last round's end
  pub available : result ≢ Err Unavailable
  -- what the web has is found
  pub found : IsRefused result → ¬ HasChain query (documents_in web)
  -- without a hit, what was found is the web's
  pub true_chain : NoHits leaf → IsReplied result → HasChain query (documents_in web)
  -- where the bounds suffice for the web, no round ends at one, but for a first round that was misled by the shelf
  pub second_round : FitsBounds query web → (course : Course) → Among course leaf → course.looks ≡ false → InBounds course
  pub first_round : FitsBounds query web → (course : Course) → Among course leaf → HitsAgree web course.search → InBounds course
