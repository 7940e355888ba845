-- What a search knows, what it wants next, and which answers fit (OpenID Federation 1.0 section 10.1).
use Rattle.std.specs.Prelude.{◌≡◌, ◌≢◌, ◌≤◌, ◌<◌, ◌⊎◌, ℕ, List, [], ◌∷◌, ◌++◌, length, bytes_eq, Bool, true, false, ◌&&◌, Option, Some, None, find, option_map, count_by, if◌then◌else◌}
use Rattle.std.specs.List.{list_any}
use Rattle.std.specs.Option.{option_and_then}
use Rattle.entity_statement.specs.Claims.{Claims, Identifier}
use Rattle.entity_statement.specs.Told.{told}
use Rattle.chain_climb.specs.Elements.{Among}
use Rattle.chain_climb.specs.declared.path.Path.{Path}
use Rattle.chain_climb.specs.declared.want.Bounds.{Bounds}
use Rattle.chain_climb.specs.declared.want.End.{End}
use Rattle.chain_climb.specs.declared.want.End.TheVariants.{Found, NoLeaf, PolicyOnly, NoChain, Budget}
use Rattle.chain_climb.specs.declared.answer.Origin.TheVariants.{Shelf, Link}
use Rattle.chain_climb.specs.declared.want.Want.{Want}
use Rattle.chain_climb.specs.declared.want.Want.TheVariants.{Config, Superior, Judge, Done}
use Rattle.chain_climb.specs.declared.answer.Answer.{Answer}
use Rattle.chain_climb.specs.declared.answer.Answer.TheVariants.{Good as GoodAnswer, Useless as UselessAnswer, Fault as FaultAnswer, Spent as SpentAnswer, Valid, PolicyFails, Invalid}
use Rattle.chain_climb.specs.declared.answer.Report.{Report}
use Rattle.chain_climb.specs.declared.answer.Report.TheVariants.{Good, Useless, Fault, Spent}
use Rattle.chain_climb.specs.declared.answer.PageAnswer.{PageAnswer}
use Rattle.chain_climb.specs.declared.answer.Verdict.{Verdict}
use Rattle.chain_climb.specs.Climbs.{Findings, Need, Step, add, added, climb, configuration_of, judge, judged, need, needed, page_named, with_chain}

-- the want of a page
abbrev pub want_of : Need → Want
want_of page = if bytes_eq page.issuer page.subject then Config page.issuer page.url else Superior page.issuer page.subject page.url

-- the page that an answer is about
abbrev pub page_of : PageAnswer → Need
page_of a = record { issuer = a.issuer; subject = a.subject; url = a.url }

-- two pages are one: their names and their URL are
abbrev pub is_same : Need → Need → Bool
is_same a b = bytes_eq a.issuer b.issuer && bytes_eq a.subject b.subject && bytes_eq a.url b.url

-- an answer is about this page
abbrev pub answers_page : Need → PageAnswer → Bool
answers_page page a = is_same page (page_of a)

-- the answer to the want of a page
unfoldable pub answer_to : List PageAnswer → Need → Option Report
answer_to pages page = option_map (λ a. a.answer) (find (answers_page page) pages)

-- what an answer says of a page, where it is good
abbrev pub finding_in : Report → Option Claims
finding_in (Good statement origin) = Some (told statement)
finding_in answer = None

-- what is found of a page by the answers so far
unfoldable pub findings_of : List PageAnswer → Findings
findings_of pages page = option_and_then finding_in (answer_to pages page)

-- an answer with which a search goes on
abbrev pub IsPageAnswer : Report → Type 0
IsPageAnswer (Good statement origin) = Unit {0}
IsPageAnswer (Useless origin) = Unit {0}
IsPageAnswer Fault = Unit {0}
IsPageAnswer answer = ⊥

-- a verdict on a chain that isn't valid
abbrev pub IsNoChain : Answer → Type 0
IsNoChain PolicyFails = Unit {0}
IsNoChain Invalid = Unit {0}
IsNoChain answer = ⊥

-- the page was answered, and the search goes on with that
abbrev pub IsAnswered : List PageAnswer → Need → Type 0
IsAnswered pages page = (answer : Report) × (answer_to pages page ≡ Some answer) × IsPageAnswer answer

-- the findings say what the answers say
pub record Extends (found : Findings) (pages : List PageAnswer) : Type 0 where
  pub agrees : (page : Need) (answer : Report) → answer_to pages page ≡ Some answer → IsPageAnswer answer → found page ≡ finding_in answer

-- these are the verdicts on these paths, in order, and none is valid
abbrev pub AreJudged : List Verdict → List Path → Type 0
AreJudged [] [] = Unit {0}
AreJudged [] (path ∷ paths) = ⊥
AreJudged (v ∷ verdicts) [] = ⊥
AreJudged (v ∷ verdicts) (path ∷ paths) = (v.path ≡ with_chain path) × IsNoChain v.answer × AreJudged verdicts paths

-- the URL was asked, under whatever names
abbrev pub was_asked : List PageAnswer → List ℕ → Bool
was_asked pages url = list_any (λ a. bytes_eq url a.url) pages

-- each URL at its first answer
abbrev pub first_answers_after : List (List ℕ) → List PageAnswer → List PageAnswer
first_answers_after earlier [] = []
first_answers_after earlier (a ∷ pages) =
    if list_any (bytes_eq a.url) earlier then first_answers_after earlier pages else a ∷ first_answers_after (a.url ∷ earlier) pages

-- the link was called for the answer
abbrev pub is_call : Report → Bool
is_call (Good statement Link) = true
is_call (Useless Link) = true
is_call Fault = true
is_call answer = false

-- the call failed
abbrev pub is_fault : Report → Bool
is_fault Fault = true
is_fault answer = false

-- how many URLs the link was called for, each once
unfoldable pub calls_in : List PageAnswer → ℕ
calls_in pages = count_by (λ a. is_call a.answer) (first_answers_after [] pages)

-- how many of these calls failed
unfoldable pub faults_in : List PageAnswer → ℕ
faults_in pages = count_by (λ a. is_fault a.answer) (first_answers_after [] pages)

-- a search: whose chain to which trust anchor, how far it goes, what was answered of pages, and the verdicts on paths, in the order of the
-- answers
pub record Search : Type 0 where
  pub leaf : Identifier
  pub anchor : Identifier
  pub bounds : Bounds
  pub pages : List PageAnswer
  pub verdicts : List Verdict

-- the search that has no answer yet
abbrev pub begun : Identifier → Identifier → Bounds → Search
begun leaf anchor bounds = record { leaf = leaf; anchor = anchor; bounds = bounds; pages = []; verdicts = [] }

-- the steps that are done, with the verdicts on their paths, and the steps that are left, by what is found
pub record StandsBy (found : Findings) (s : Search) (verdicts : List Verdict) (taken left : List Step) : Type 0 where
  pub steps : climb found s.leaf s.anchor s.bounds.depth ≡ taken ++ left
  pub answered : (page : Need) → Among page (needed taken) → IsAnswered s.pages page
  pub invalid : AreJudged verdicts (judged taken)
  pub room : length (added taken) ≤ s.bounds.paths

-- a verdict that a chain fails by its policies alone
abbrev pub is_policy : Answer → Bool
is_policy PolicyFails = true
is_policy answer = false

-- a verdict that a chain is valid
abbrev pub is_valid_answer : Answer → Bool
is_valid_answer Valid = true
is_valid_answer answer = false

-- some chain fails by its policies alone
abbrev pub some_policy : List Verdict → Bool
some_policy verdicts = list_any (λ v. is_policy v.answer) verdicts

-- the end where no step is left
abbrev pub IsPlainEnd : Search → End → Type 0
IsPlainEnd s NoLeaf = findings_of s.pages (configuration_of s.leaf) ≡ None
IsPlainEnd s PolicyOnly = (findings_of s.pages (configuration_of s.leaf) ≢ None) × (some_policy s.verdicts ≡ true)
IsPlainEnd s NoChain = (findings_of s.pages (configuration_of s.leaf) ≢ None) × (some_policy s.verdicts ≡ false)
IsPlainEnd s end = ⊥

-- a bound ends the search, with the calls and the paths that were made
abbrev pub IsBudget : Search → List Step → Want → Type 0
IsBudget s taken want = want ≡ Done (Budget (calls_in s.pages) (length (added taken)))

-- a page that is needed next is wanted, or was to be had no more
abbrev pub WantsPage : Search → List Step → Need → Option Report → Want → Type 0
WantsPage s taken page None want = want ≡ want_of page
WantsPage s taken page (Some Spent) want = IsBudget s taken want
WantsPage s taken page (Some answer) want = ⊥

-- a path that is judged next waits for its verdict, or is found
abbrev pub WantsVerdict : Search → List Verdict → Path → Want → Type 0
WantsVerdict s verdicts path want =
    ((s.verdicts ≡ verdicts) × (want ≡ Judge (with_chain path)))
    ⊎ ((s.verdicts ≡ verdicts ++ record { path = with_chain path; answer = Valid } ∷ []) × (want ≡ Done (Found (with_chain path))))

-- what the next step wants, or how the search ends at it; the steps before it have these verdicts
abbrev pub Wants : Search → List Verdict → List Step → List Step → Want → Type 0
Wants s verdicts taken [] want = (s.verdicts ≡ verdicts) × ((end : End) × (want ≡ Done end) × IsPlainEnd s end)
Wants s verdicts taken (need page ∷ left) want = (s.verdicts ≡ verdicts) × WantsPage s taken page (answer_to s.pages page) want
Wants s verdicts taken (judge path ∷ left) want = WantsVerdict s verdicts path want
Wants s verdicts taken (add path ∷ left) want = (s.verdicts ≡ verdicts) × (length (added taken) ≡ s.bounds.paths) × IsBudget s taken want

-- this is what the next step wants, by what is found
pub record IsNextBy (found : Findings) (s : Search) (want : Want) : Type 0 where
  pub taken : List Step
  pub left : List Step
  pub verdicts : List Verdict
  pub stands : StandsBy found s verdicts taken left
  pub wants : Wants s verdicts taken left want

-- and by the answers so far
abbrev pub IsNext : Search → Want → Type 0
IsNext s want = IsNextBy (findings_of s.pages) s want

-- what an answer to the want of a page says of it
abbrev pub report_in : Answer → Option Report
report_in (GoodAnswer statement origin) = Some (Good statement origin)
report_in (UselessAnswer origin) = Some (Useless origin)
report_in FaultAnswer = Some Fault
report_in SpentAnswer = Some Spent
report_in answer = None

-- an answer that fits the want of a page, by whether its URL was asked before, and by the calls that were made of those that may be
abbrev pub FitsPage : Bool → ℕ → ℕ → Option Report → Type 0
FitsPage true calls most (Some (Good statement origin)) = Unit {0}
FitsPage true calls most (Some (Useless origin)) = Unit {0}
FitsPage true calls most (Some Fault) = Unit {0}
FitsPage false calls most (Some (Good statement Shelf)) = Unit {0}
FitsPage false calls most (Some (Useless Shelf)) = Unit {0}
FitsPage false calls most (Some (Good statement Link)) = calls < most
FitsPage false calls most (Some (Useless Link)) = calls < most
FitsPage false calls most (Some Fault) = calls < most
FitsPage false calls most (Some Spent) = most ≤ calls
FitsPage asked calls most report = ⊥

-- an answer to the want of a verdict
abbrev pub IsVerdict : Answer → Type 0
IsVerdict Valid = Unit {0}
IsVerdict PolicyFails = Unit {0}
IsVerdict Invalid = Unit {0}
IsVerdict answer = ⊥

-- the answer fits the want
abbrev pub Fits : Search → Want → Answer → Type 0
Fits s (Config entity url) answer = FitsPage (was_asked s.pages url) (calls_in s.pages) s.bounds.calls (report_in answer)
Fits s (Superior superior subject url) answer = FitsPage (was_asked s.pages url) (calls_in s.pages) s.bounds.calls (report_in answer)
Fits s (Judge path) answer = IsVerdict answer
Fits s (Done end) answer = ⊥

-- one answer more to the want of a page
abbrev pub TakesPage : Search → Search → Need → Option Report → Type 0
TakesPage old now page None = ⊥
TakesPage old now page (Some report) =
    (now.pages ≡ old.pages ++ record { issuer = page.issuer; subject = page.subject; url = page.url; answer = report } ∷ []) × (now.verdicts ≡ old.verdicts)

-- one answer more to this want
abbrev pub Takes : Search → Search → Want → Answer → Type 0
Takes old now (Config entity url) answer = TakesPage old now (page_named entity entity url) (report_in answer)
Takes old now (Superior superior subject url) answer = TakesPage old now (page_named superior subject url) (report_in answer)
Takes old now (Judge path) answer = (now.pages ≡ old.pages) × (now.verdicts ≡ old.verdicts ++ record { path = path; answer = answer } ∷ [])
Takes old now (Done end) answer = ⊥
