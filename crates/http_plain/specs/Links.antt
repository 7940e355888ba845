-- What a link over a network answers and leaves.
use Rattle.std.specs.Prelude.{◌≡◌, ◌≤◌, ◌⊎◌, ℕ, false, true, List, [], ◌∷◌, length, Option, Some, None, Result, Ok, Err}
use Rattle.fed_ports.specs.declared.address.Address.{Address}
use Rattle.fed_ports.specs.declared.link.LinkFault.{LinkFault}
use Rattle.fed_ports.specs.declared.link.LinkFault.TheVariants.{Failed, Memory}
use Rattle.fed_ports.specs.declared.page.Page.{Page}
use Rattle.fed_ports.specs.declared.page.Page.TheVariants.{NoRoute}
use Rattle.fed_ports.specs.Exchanges.{Exchange}
use Rattle.fed_ports.specs.Lists.{Added}
use Rattle.http_plain.specs.declared.link.HttpLink.{HttpLink}
use Rattle.http_plain.specs.declared.route.Route.{Route}
use Rattle.url.specs.Parts.{Parts}
use Rattle.http_messages.specs.Asked.{AsksPart}
use Rattle.http_plain.specs.Clients.{HasNoRoute, PageBy, address_of, message_of, post_of, url_in}
use Rattle.http_plain.specs.Pages.{IsPage, answer_limit}

-- one exchange was added, which shows the page
abbrev pub AddsExchange : Option (List Exchange) → Option (List Exchange) → (Exchange → Type 0) → Type 0
AddsExchange old new Is = (x : Exchange) × Added old (x ∷ []) new × Is x

-- the exchange is one of this address and message that didn't fail and shows the page
pub record Answers (x : Exchange) (to : Address) (message : List ℕ) (p : Page) : Type 0 where
  pub address : x.to ≡ to
  pub message_is : x.sent ≡ message
  pub steady : x.failed ≡ false
  pub few : length x.received ≤ answer_limit
  pub page : IsPage x.received x.ended p

-- the exchange of a call that failed: it failed, and what was received by then is no page
pub record Broke (x : Exchange) : Type 0 where
  pub failed : x.failed ≡ true
  pub none : (p : Page) → IsPage x.received x.ended p → ⊥

-- one that failed was added, in which no page had come, or exchanges are told no longer
abbrev pub AddsBroken : Option (List Exchange) → Option (List Exchange) → Type 0
AddsBroken old new = AddsExchange old new Broke ⊎ (new ≡ None)

-- the network failed only where no page had come by then
abbrev pub FailsBy : Option (List Exchange) → Option (List Exchange) → Result Page LinkFault → Type 0
FailsBy old new (Ok p) = Unit {0}
FailsBy old new (Err Failed) = AddsBroken old new
FailsBy old new (Err Memory) = Unit {0}

-- the page: without a route none is opened, and else one exchange was added, by which the page is the one with which that message for the
-- URL is answered
abbrev pub GetsBy : (Parts → List ℕ) → List Route → List ℕ → Option (List Exchange) → Option (List Exchange) → Page → Type 0
GetsBy message_for routes text old new p =
    (HasNoRoute routes text × (p ≡ NoRoute) × (new ≡ old))
    ⊎ AddsExchange old new (λ x. PageBy message_for text routes x p)

-- what a call leaves that got no page: the network wasn't asked, or it was for the URL alone
pub record AsksBy (message_for : Parts → List ℕ) (routes : List Route) (text : List ℕ) (old new : Option (List Exchange)) : Type 0 where
  pub url : Parts
  pub to : Address
  pub reads : url_in text ≡ Some url
  pub address : address_of routes url ≡ Some to
  pub asks : AsksPart old new to (message_for url)

abbrev pub LeavesBy : (Parts → List ℕ) → List Route → List ℕ → Option (List Exchange) → Option (List Exchange) → Type 0
LeavesBy message_for routes text old new = (new ≡ old) ⊎ AsksBy message_for routes text old new

-- what a call answered: the page of the URL, and else what it left
abbrev pub AnswersBy : (Parts → List ℕ) → List Route → List ℕ → Option (List Exchange) → Option (List Exchange) → Result Page LinkFault → Type 0
AnswersBy message_for routes text old new (Ok p) = GetsBy message_for routes text old new p
AnswersBy message_for routes text old new (Err fault) = LeavesBy message_for routes text old new

-- the same of a GET
abbrev pub Gets : List Route → List ℕ → Option (List Exchange) → Option (List Exchange) → Page → Type 0
Gets = GetsBy message_of

abbrev pub Leaves : List Route → List ℕ → Option (List Exchange) → Option (List Exchange) → Type 0
Leaves = LeavesBy message_of

abbrev pub GotOrLeft : List Route → List ℕ → Option (List Exchange) → Option (List Exchange) → Result Page LinkFault → Type 0
GotOrLeft = AnswersBy message_of

-- and of a POST of a form
abbrev pub Posts : List ℕ → List Route → List ℕ → Option (List Exchange) → Option (List Exchange) → Page → Type 0
Posts form = GetsBy (post_of form)

abbrev pub LeavesPost : List ℕ → List Route → List ℕ → Option (List Exchange) → Option (List Exchange) → Type 0
LeavesPost form = LeavesBy (post_of form)

-- a network as others reach it: the port that it listens on, the callers to come and those that were settled, where it tells them
pub record Listening (P : Type 0) : Type 0 where
  pub port : Option ℕ
  pub callers : Option (List P)
  pub settled : Option (List P)

abbrev pub listening : {P : Type 0} → Option ℕ → Option (List P) → Option (List P) → Listening P
listening port callers settled = record { port = port; callers = callers; settled = settled }

-- the network that a link holds
abbrev pub link_network : {N : Type 0} → HttpLink N → N
link_network link = link.net

-- the routes of a link
abbrev pub link_routes : {N : Type 0} → HttpLink N → List Route
link_routes link = link.routes

-- how many calls a link had
abbrev pub link_calls : {N : Type 0} → HttpLink N → ℕ
link_calls link = link.calls
