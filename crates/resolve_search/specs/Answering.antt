-- What the answer to the want of a page says, and what it adds to a round.
use Rattle.std.specs.Prelude.{◌≡◌, ◌⊎◌, ◌&&◌, ℕ, List, [], ◌++◌, map, Bool, true, false, Option, Some, None, if◌then◌else◌}
use Rattle.std.specs.Option.{option_and_then}
use Rattle.std.specs.List.{cons_option}
use Rattle.chain_climb.specs.declared.answer.Answer.{Answer}
use Rattle.sealed.specs.Deciding.{is_sealed_by}
use Rattle.entity_statement.specs.declared.signed.SignedStatement.{SignedStatement}
use Rattle.entity_statement.specs.Claims.{Claims, Identifier}
use Rattle.entity_statement.specs.Told.{told}
use Rattle.entity_statement.specs.Use.{current_at}
use Rattle.chain_climb.specs.declared.answer.Origin.{Origin}
use Rattle.chain_climb.specs.declared.answer.Origin.TheVariants.{Shelf, Link}
use Rattle.chain_climb.specs.declared.answer.Report.{Report}
use Rattle.chain_climb.specs.Climbs.{Need, page_named}
use Rattle.chain_climb.specs.Elements.{Among}
use Rattle.chain_climb.specs.Sessions.{FitsPage, IsPageAnswer, finding_in, is_call as is_answered_call, report_in}
use Rattle.resolve_round.specs.declared.aim.Aim.{Aim}
use Rattle.resolve_round.specs.declared.trace.Ask.{Ask}
use Rattle.resolve_round.specs.declared.trace.Got.{Got}
use Rattle.resolve_round.specs.declared.trace.Got.TheVariants.{Hit, Fetched, Fault}
use Rattle.resolve_round.specs.declared.trace.Trace.{Trace}
use Rattle.resolve_round.specs.Asking.{with_ask}
use Rattle.resolve_round.specs.Courses.{is_call, is_hit, pages_of, text_got, url_of}
use Rattle.resolve_round.specs.Getting.{IsSpentAt, NotAsked, Point, if_looks}
use Rattle.resolve_round.specs.Pages.{findings, good_text, named_statement}
use Rattle.resolve_round.specs.Traces.{Kept, kept_of, look_for, looks_in, puts_in}

-- the call of a trace stays: only its checks and its events change
pub record SameCall (old new : Trace) : Type 0 where
  pub moment : new.moment ≡ old.moment
  pub epoch : new.epoch ≡ old.epoch
  pub keys : new.keys ≡ old.keys
  pub bounds : new.bounds ≡ old.bounds
  pub searches : new.searches ≡ old.searches

-- the link was called for what was got
abbrev pub was_called : Got → Bool
was_called (Hit proven) = false
was_called (Fetched page) = true
was_called Fault = true

abbrev pub is_link : Origin → Bool
is_link Shelf = false
is_link Link = true

-- a statement of the wanted names is good: of a superior's nothing is asked, a configuration must be current and sealed by its own keys
abbrev pub passes_as : Bool → ℕ → List ℕ → Claims → Bool
passes_as own t text s = if own then current_at s.iat s.exp t && is_sealed_by text s.keys else true

-- the statement is what the text that was got reads as, with these names
pub record IsRead (issuer subject : Identifier) (ask : Ask) (signed : SignedStatement) : Type 0 where
  pub got : text_got ask.got ≡ Some signed.compact.whole
  pub named : named_statement (page_named issuer subject ask.url) signed.compact.whole ≡ Some (told signed.statement)

-- the answer says that there is nothing good
pub record IsUseless (got : Got) (answer : Answer) : Type 0 where
  pub report : Report
  pub is : report_in answer ≡ Some report
  pub ok : IsPageAnswer report
  pub none : finding_in report ≡ None
  pub called : is_answered_call report ≡ was_called got

-- the answer says what was got of the page, and whether the link was called for it
pub record TellsAsk (t : ℕ) (page : Need) (ask : Ask) (answer : Answer) : Type 0 where
  pub report : Report
  pub is : report_in answer ≡ Some report
  pub ok : IsPageAnswer report
  pub says : finding_in report ≡ option_and_then (good_text t page) (text_got ask.got)
  pub called : is_answered_call report ≡ is_call ask

-- what is put of an ask that was made now
abbrev pub put_of : Bool → ℕ → ℕ → Need → Ask → List Kept
put_of fresh t age page ask = if fresh then cons_option (kept_of t age (page, ask)) [] else []

-- the URL was asked before: nothing was looked up, asked or put
pub record AsksAgain (page : Need) (old new : Point) : Type 0 where
  pub asked : Among page.url (map url_of old.search.asks)
  pub is : new.search ≡ old.search
  pub looks : looks_in new.trace.events ≡ looks_in old.trace.events
  pub puts : puts_in new.trace.events ≡ puts_in old.trace.events

-- the URL was asked now, behind its Look, and what was fetched was put
pub record AsksNow (aim : Aim) (page : Need) (old new : Point) (report : Report) : Type 0 where
  pub ask : Ask
  pub at : ask.url ≡ page.url
  pub fresh : NotAsked page.url old.search
  pub is : new.search ≡ with_ask old.search ask
  pub unhit : aim.looks ≡ false → is_hit ask ≡ false
  pub looks : looks_in new.trace.events ≡ looks_in old.trace.events ++ if_looks aim.looks (look_for old.trace.moment ask)
  pub puts : puts_in new.trace.events ≡ puts_in old.trace.events ++ cons_option (kept_of old.trace.moment aim.age (page, ask)) []
  pub called : is_answered_call report ≡ is_call ask
  pub fits : FitsPage false old.search.calls aim.bounds.calls (Some report)

-- the report says what the round got of the page
pub record Reports (aim : Aim) (page : Need) (old new : Point) (report : Report) : Type 0 where
  pub ok : IsPageAnswer report
  pub says : finding_in report ≡ findings (pages_of new.search.asks) old.trace.moment page
  pub source : AsksAgain page old new ⊎ AsksNow aim page old new report

-- the answer to the want of the page, where there is one
abbrev pub IsPageReport : Aim → Need → Point → Point → Option Answer → Type 0
IsPageReport aim page old new None = IsSpentAt aim.looks aim.bounds.calls page.url old new
IsPageReport aim page old new (Some answer) = (report : Report) × (report_in answer ≡ Some report) × Reports aim page old new report
