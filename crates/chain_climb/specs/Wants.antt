-- What a search wants as a function of its answers, and what an answer changes (OpenID Federation 1.0 section 10.1).
use Rattle.std.specs.Prelude.{◌≡◌, ◌≤◌, ◌+◌, ℕ, List, [], ◌∷◌, ◌++◌, length, map, nat_lt, Bool, Option, Some, None, if◌then◌else◌}
use Rattle.chain_climb.specs.declared.path.Path.{Path}
use Rattle.chain_climb.specs.declared.want.End.{End}
use Rattle.chain_climb.specs.declared.want.End.TheVariants.{Found, NoLeaf, PolicyOnly, NoChain, Budget}
use Rattle.chain_climb.specs.declared.want.Want.{Want}
use Rattle.chain_climb.specs.declared.want.Want.TheVariants.{Config, Superior, Judge, Done}
use Rattle.chain_climb.specs.declared.answer.Answer.{Answer}
use Rattle.chain_climb.specs.declared.answer.Report.{Report}
use Rattle.chain_climb.specs.declared.answer.Report.TheVariants.{Spent}
use Rattle.chain_climb.specs.declared.answer.PageAnswer.{PageAnswer}
use Rattle.chain_climb.specs.declared.answer.Verdict.{Verdict}
use Rattle.entity_statement.specs.Claims.{Claims}
use Rattle.chain_climb.specs.Climbs.{Need, Step, add, added, climb, configuration_of, judge, need, page_named, with_chain}
use Rattle.chain_climb.specs.Elements.{NoneTwice}
use Rattle.chain_climb.specs.Sessions.{IsNext, Search, answer_to, calls_in, faults_in, findings_of, first_answers_after, is_valid_answer, page_of, report_in, some_policy, want_of}

-- a page that wasn't answered is wanted; where it had to be asked of the link in vain a bound is met; else the search goes on
abbrev pub at_page : Search → ℕ → Need → Option Report → Want → Want
at_page s paths page None later = want_of page
at_page s paths page (Some Spent) later = Done (Budget (calls_in s.pages) paths)
at_page s paths page (Some answer) later = later

-- a path without a verdict is to be judged; a valid one is found; else the search goes on with the verdicts on later paths
abbrev pub at_path : Path → List Verdict → (List Verdict → Want) → Want
at_path path [] later = Judge (with_chain path)
at_path path (verdict ∷ verdicts) later = if is_valid_answer verdict.answer then Done (Found (with_chain path)) else later verdicts

-- the end where no step is left, by the leaf's configuration and whether some path fails by its policies alone
abbrev pub end_by : Option Claims → Bool → End
end_by None policy = NoLeaf
end_by (Some own) policy = if policy then PolicyOnly else NoChain

-- and by the answers so far
abbrev pub last_end : Search → End
last_end s = end_by (findings_of s.pages (configuration_of s.leaf)) (some_policy s.verdicts)

-- what is wanted at these steps, where so many paths were made and these verdicts are left
unfoldable pub want_at : Search → ℕ → List Verdict → List Step → Want
want_at s paths verdicts [] = Done (last_end s)
want_at s paths verdicts (need page ∷ steps) = at_page s paths page (answer_to s.pages page) (want_at s paths verdicts steps)
want_at s paths verdicts (add path ∷ steps) =
    if nat_lt paths s.bounds.paths then want_at s (paths + 1) verdicts steps else Done (Budget (calls_in s.pages) paths)
want_at s paths verdicts (judge path ∷ steps) = at_path path verdicts (λ rest. want_at s paths rest steps)

-- what a search wants next
unfoldable pub next_want : Search → Want
next_want s = want_at s 0 s.verdicts (climb (findings_of s.pages) s.leaf s.anchor s.bounds.depth)

-- the search with the answer to a page, or with a verdict
abbrev pub with_page : Search → Need → Option Report → Search
with_page s page None = s
with_page s page (Some report) =
    record s { pages = s.pages ++ record { issuer = page.issuer; subject = page.subject; url = page.url; answer = report } ∷ [] }

-- the search with an answer more, to this want
abbrev pub given_to : Search → Want → Answer → Search
given_to s (Config entity url) answer = with_page s (page_named entity entity url) (report_in answer)
given_to s (Superior superior subject url) answer = with_page s (page_named superior subject url) (report_in answer)
given_to s (Judge path) answer = record s { verdicts = s.verdicts ++ record { path = path; answer = answer } ∷ [] }
given_to s (Done end) answer = s

-- the search with an answer more, to what it wanted
abbrev pub given : Search → Answer → Search
given s answer = given_to s (next_want s) answer

-- the page that is wanted
abbrev pub page_in : Want → Option Need
page_in (Config entity url) = Some (page_named entity entity url)
page_in (Superior superior subject url) = Some (page_named superior subject url)
page_in want = None

-- a page that is wanted wasn't answered before under these names
abbrev pub WantsNew : Search → Want → Type 0
WantsNew s want = (page : Need) → page_in want ≡ Some page → answer_to s.pages page ≡ None

-- the answers at which a URL was asked: the first ones to each URL
abbrev pub asks_in : List PageAnswer → List PageAnswer
asks_in pages = first_answers_after [] pages

-- so many paths were made by the steps before what is wanted next
abbrev pub HasMade : Search → Want → ℕ → Type 0
HasMade s want paths = (next : IsNext s want) × (paths ≡ length (added next.taken))

-- the URL of an answer
abbrev pub url_of : PageAnswer → List ℕ
url_of a = a.url

-- what holds of a search at every moment: no page is answered twice, no URL is asked twice, and the bounds aren't passed
pub record IsBounded (s : Search) : Type 0 where
  pub pages_once : NoneTwice (map page_of s.pages)
  pub asks_once : NoneTwice (map url_of (asks_in s.pages))
  pub few_calls : calls_in s.pages ≤ s.bounds.calls
  pub few_faults : faults_in s.pages ≤ calls_in s.pages
  pub few_judged : length s.verdicts ≤ s.bounds.paths
