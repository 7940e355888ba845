-- The pages that a link gives, and when it may fail.
use Rattle.std.specs.Prelude.{◌≡◌, ◌≤◌, ℕ, List, Option, Some, None, unwrap_or, Result, Ok, Err}
use Rattle.fed_base.specs.Counts.{Rose}
use Rattle.fed_ports.specs.declared.link.LinkFault.{LinkFault}
use Rattle.fed_ports.specs.declared.link.LinkFault.TheVariants.{Failed, Memory}
use Rattle.fed_ports.specs.declared.page.Page.{Page}
use Rattle.fed_ports.specs.declared.page.Page.TheVariants.{NoRoute}

-- the page of each URL, where there is one
abbrev pub Web : Type 0
Web = List ℕ → Option Page

-- the page that a web gives for a URL
abbrev pub page_in : Web → List ℕ → Page
page_in web url = unwrap_or (web url) NoRoute

-- the page is the web's, where that is told
abbrev pub IsPageOf : Option Web → List ℕ → Page → Type 0
IsPageOf None url page = Unit {0}
IsPageOf (Some web) url page = page ≡ page_in web url

-- the page that a link answers is the web's
abbrev pub Serves : Option Web → List ℕ → Result Page LinkFault → Type 0
Serves web url (Ok page) = IsPageOf web url page
Serves web url (Err fault) = Unit {0}

-- the count rose, or stands at its last value, where the answer is a failure of the link; any other answer leaves it
abbrev pub LinkCounted : ℕ → ℕ → Result Page LinkFault → Type 0
LinkCounted before now (Ok page) = now ≡ before
LinkCounted before now (Err Failed) = Rose before now
LinkCounted before now (Err Memory) = now ≡ before

-- the count never falls, and a failure comes only where it rose
pub record HasLinkCause (before now : ℕ) (result : Result Page LinkFault) : Type 0 where
  pub later : before ≤ now
  pub counted : LinkCounted before now result
