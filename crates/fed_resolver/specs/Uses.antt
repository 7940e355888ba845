-- How one resolve call uses its link, which signatures it tests, and what its result says of the link's web.
use Rattle.std.specs.Prelude.{◌≡◌, ◌<◌, ◌≤◌, ◌+◌, ◌⊎◌, ℕ, List, length, count_by, sum_by, Option, IfSome, Result, Err}
use Rattle.fed_base.specs.Counts.{counted, last_count}
use Rattle.fed_ports.specs.Webs.{Web}
use Rattle.jwk_set.specs.declared.set.JwkSet.{JwkSet}
use Rattle.chain_climb.specs.Elements.{Among}
use Rattle.statement_shelf.specs.declared.calls.BookReply.TheVariants.{Keys}
use Rattle.resolve_reply.specs.declared.reply.Reply.{Reply}
use Rattle.resolve_reply.specs.declared.signer.Signer.{Signer}
use Rattle.resolve_round.specs.declared.trace.Search.{Search}
use Rattle.resolve_round.specs.declared.trace.Trace.{Trace}
use Rattle.resolve_round.specs.Courses.{is_fault}
use Rattle.resolve_round.specs.Traces.{asks_in}
use Rattle.fed_resolver.specs.declared.outcome.Outcome.{Outcome}
use Rattle.fed_resolver.specs.declared.outcome.Refusal.{Refusal}
use Rattle.fed_resolver.specs.declared.outcome.Refusal.TheVariants.{Worn, Memory}
use Rattle.fed_resolver.specs.Completeness.{FetchedFrom, SpeaksOf}
use Rattle.fed_resolver.specs.Outcomes.{IsAnswered, IsWhole, asked_query}
use Rattle.fed_resolver.specs.Searches.{marks_tested}
use Rattle.fed_resolver.specs.Told.{Situation}

-- ---- the link

-- the calls and the faults of all rounds
abbrev pub calls_of : Search → ℕ
calls_of search = search.calls

abbrev pub faults_of : Search → ℕ
faults_of search = search.faults

abbrev pub calls_made : List Search → ℕ
calls_made searches = sum_by calls_of searches

abbrev pub faults_met : List Search → ℕ
faults_met searches = sum_by faults_of searches

-- the link was called once for each call that the rounds count, and once more at most where memory was wanting
abbrev pub CountsCalls : Result Reply Refusal → List Search → ℕ → ℕ → Type 0
CountsCalls (Err Memory) searches before now = (now ≡ counted (calls_made searches) before) ⊎ (now ≡ counted (calls_made searches + 1) before)
CountsCalls result searches before now = now ≡ counted (calls_made searches) before

-- a fault of the link is one of a round
pub record CountsFaults (searches : List Search) (before now : ℕ) : Type 0 where
  pub at_least : counted (faults_met searches) before ≤ now
  pub shown : before < now → 0 < count_by is_fault (asks_in searches)

-- what was fetched is the web's, where the link tells it
abbrev pub FetchesFrom : Option Web → List Search → Type 0
FetchesFrom web searches = IfSome web (λ w. (search : Search) → Among search searches → FetchedFrom w search)

-- how the link was used
pub record UsesLink (web : Option Web) (calls_before calls_now faults_before faults_now : ℕ) (outcome : Outcome) : Type 0 where
  pub calls : CountsCalls outcome.result outcome.trace.searches calls_before calls_now
  pub faults : CountsFaults outcome.trace.searches faults_before faults_now
  pub fetched : FetchesFrom web outcome.trace.searches

-- ---- tested signatures

-- the ledger counts each check and each test of a mark; with want of memory at most 32 more than the checks
abbrev pub CountsSome : Trace → ℕ → ℕ → Type 0
CountsSome trace before now = (more : ℕ) × (more ≤ 32) × (now ≡ counted (length trace.checks + more) before)

pub record CountsAll (here : Situation) (signer : Signer) (outcome : Outcome) (before now : ℕ) : Type 0 where
  pub whole : IsWhole here signer outcome
  pub count : now ≡ counted (length outcome.trace.checks + marks_tested (asked_query here outcome.trace) whole.told.base.leaf whole.told.base.others) before

abbrev pub CountsTests : Situation → Signer → Outcome → Result Reply Refusal → ℕ → ℕ → Type 0
CountsTests here signer outcome (Err Memory) before now = CountsSome outcome.trace before now
CountsTests here signer outcome (Err (Worn count)) before now = CountsSome outcome.trace before now
CountsTests here signer outcome result before now = CountsAll here signer outcome before now

-- ---- completeness

-- where the link tells its web and didn't fail, and the anchor is listed, the result speaks of the web
pub record SpeaksFor (here : Situation) (signer : Signer) (web : Web) (outcome : Outcome) : Type 0 where
  pub whole : IsWhole here signer outcome
  pub speaks : (epoch : ℕ) (keys : JwkSet) → whole.told.base.answer ≡ Keys epoch keys → SpeaksOf (asked_query here outcome.trace) web whole.told.base.leaf outcome.result

abbrev pub IsComplete : Situation → Signer → Option Web → ℕ → ℕ → Outcome → Type 0
IsComplete here signer web before now outcome = now ≡ before → before < last_count → IsAnswered outcome.result → IfSome web (λ w. SpeaksFor here signer w outcome)
