-- How a round uses its link.
use Rattle.std.specs.Prelude.{◌≡◌, ◌≤◌, ◌<◌, ◌+◌, ◌⊎◌, ℕ, List, Option, IfSome, Result, Ok, Err}
use Rattle.chain_climb.specs.Elements.{Among}
use Rattle.fed_ports.specs.declared.page.Page.{Page}
use Rattle.fed_ports.specs.Webs.{Web, page_in}
use Rattle.resolve_round.specs.declared.halt.Halt.{Halt}
use Rattle.resolve_round.specs.declared.halt.Halt.TheVariants as halt
use Rattle.resolve_round.specs.declared.trace.Got.TheVariants.{Fetched}
use Rattle.resolve_round.specs.declared.trace.Search.{Search}
use Rattle.resolve_round.specs.Walking.{Giving, Stumbled, Walked}
use Rattle.fed_base.specs.Counts.{counted}

-- a link at one moment: its counts of calls and of faults, and its web, where it tells one
pub record LinkSeen : Type 0 where
  pub calls : ℕ
  pub faults : ℕ
  pub web : Option Web

abbrev pub link_seen : ℕ → ℕ → Option Web → LinkSeen
link_seen calls faults web = record { calls = calls; faults = faults; web = web }

-- how a link shows itself: its counts of calls and of faults, its web, where it tells one, and what it says of one call
pub record LinkView (L : Type 0) : Type 1 where
  pub calls : L → ℕ
  pub faults : L → ℕ
  pub web : L → Option Web
  pub gave : Giving L

abbrev pub link_view : {L : Type 0} → (L → ℕ) → (L → ℕ) → (L → Option Web) → Giving L → LinkView L
link_view calls faults web gave = record { calls = calls; faults = faults; web = web; gave = gave }

-- the link as it is seen at one moment
abbrev pub seen_by : {L : Type 0} → LinkView L → L → LinkSeen
seen_by view link = link_seen (view.calls link) (view.faults link) (view.web link)

-- what was fetched is the web's, where the link tells it
abbrev pub FetchesOf : Option Web → Search → Type 0
FetchesOf web search = (url : List ℕ) (page : Page) → Among (record { url = url; got = Fetched page }) search.asks → IfSome web (λ w. page ≡ page_in w url)

-- the link was called as often as the round counts, and so many times more; each fault that it counts is one of the round
pub record UsesLink (extra : ℕ) (old new : LinkSeen) (before after : Search) : Type 0 where
  pub calls : ℕ
  pub calls_are : after.calls ≡ before.calls + calls
  pub called : new.calls ≡ counted (calls + extra) old.calls
  pub faults : ℕ
  pub faults_are : after.faults ≡ before.faults + faults
  pub later : old.faults ≤ new.faults
  pub failed : counted faults old.faults ≤ new.faults
  pub shown : old.faults < new.faults → 0 < faults
  pub web : new.web ≡ old.web
  pub fetched : FetchesOf old.web before → FetchesOf old.web after

-- the same, and one call more at most: that for which memory was wanting
abbrev pub TriesLink : LinkSeen → LinkSeen → Search → Search → Type 0
TriesLink old new before after = UsesLink 0 old new before after ⊎ UsesLink 1 old new before after

-- ---- one step of a round

-- where memory was wanting the link was called once more, at most; where an object is worn, as the round counts
abbrev pub TriesBy : LinkSeen → LinkSeen → Search → Search → Halt → Type 0
TriesBy old new before after (halt.Worn count) = UsesLink 0 old new before after
TriesBy old new before after halt.Memory = TriesLink old new before after

-- how a step of a round used its link: it was called as the round counts, and the asks that were added got what it gave; where the step
-- broke off, it may have been called once more
abbrev pub LinkUsed : {L A : Type 0} → LinkView L → L → L → Search → Search → Result A Halt → Type 0
LinkUsed view old new before after (Ok value) =
    UsesLink 0 (seen_by view old) (seen_by view new) before after × Walked view.gave old new before.asks after.asks
LinkUsed view old new before after (Err cause) =
    TriesBy (seen_by view old) (seen_by view new) before after cause × Stumbled view.gave old new before.asks after.asks
