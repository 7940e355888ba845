-- Which webs the exchanges of a call show, where its network tells them and doesn't fail.
use Rattle.std.specs.Prelude.{◌≡◌, ◌<◌, ◌++◌, ℕ, List, Some}
use Rattle.fed_base.specs.Counts.{last_count}
use Rattle.fed_ports.specs.declared.page.Page.{Page}
use Rattle.fed_ports.specs.declared.page.Page.TheVariants.{NoRoute}
use Rattle.fed_ports.specs.Exchanges.{Exchange}
use Rattle.fed_ports.specs.Webs.{Web, page_in}
use Rattle.http_plain.specs.declared.route.Route.{Route}
use Rattle.http_plain.specs.Clients.{ClientPage, HasNoRoute}
use Rattle.chain_climb.specs.Elements.{Among}
use Rattle.resolve_call.specs.Ports.{Around}

-- the web has the page that each of these exchanges shows for a URL, and none of a URL to which no route leads
pub record IsShownBy (routes : List Route) (exchanges : List Exchange) (web : Web) : Type 0 where
  pub shown : (x : Exchange) → Among x exchanges → (url : List ℕ) (page : Page) → ClientPage url routes x page → page ≡ page_in web url
  pub unrouted : (url : List ℕ) → HasNoRoute routes url → NoRoute ≡ page_in web url

-- the network tells its exchanges and didn't fail, and those that were added show this web
pub record ShowsWeb (routes : List Route) (before now : Around) (web : Web) : Type 0 where
  pub earlier : List Exchange
  pub more : List Exchange
  pub told : before.exchanges ≡ Some earlier
  pub added : now.exchanges ≡ Some (earlier ++ more)
  pub steady : now.faults ≡ before.faults
  pub countable : before.faults < last_count
  pub web_is : IsShownBy routes more web
