-- What a round asks, where it stops and how it ends, and which rounds a call makes.
use Rattle.std.specs.Prelude.{◌≡◌, ◌≢◌, ◌≤◌, ◌⊎◌, ℕ, List, [], ◌∷◌, ◌++◌, length, map, true, false, IsTrue, Option, Some, None}
use Rattle.chain_climb.specs.declared.want.End.{End}
use Rattle.chain_climb.specs.declared.want.End.TheVariants.{Found, NoLeaf, PolicyOnly, NoChain, Budget}
use Rattle.chain_climb.specs.declared.path.Path.{Path}
use Rattle.chain_climb.specs.Climbs.{Findings, Need, Step, add, added, climb, configuration_of, judge, judged, need, needed, with_chain}
use Rattle.entity_statement.specs.Claims.{Identifier}
use Rattle.chain_climb.specs.Elements.{Among}
use Rattle.resolve_round.specs.Pages.{HasValidChain, Pages, PassesToMerge, Query, findings}
use Rattle.resolve_round.specs.Courses.{Counts, Course, Stop, finished, first_needs, found, is_budget, out_of_calls, out_of_paths, pages_of, url_of}

abbrev pub need_url : Need → List ℕ
need_url page = page.url

-- the page was asked for
abbrev pub WasAsked : Course → Need → Type 0
WasAsked course page = Among page.url (map need_url course.needs)

-- the first step that a round doesn't take, and why
abbrev pub StopsAt : Query → (Path → Type 0) → Course → List Step → Stop → Type 0
StopsAt query Valid course [] finished = Unit {0}
StopsAt query Valid course (judge path ∷ rest) (found p) = (p ≡ path) × Valid path
StopsAt query Valid course (need page ∷ rest) (out_of_calls p) = (p ≡ page) × (¬ WasAsked course page) × (course.search.calls ≡ query.bounds.calls)
StopsAt query Valid course (add path ∷ rest) (out_of_paths p) = (p ≡ path) × (course.search.paths ≡ query.bounds.paths)
StopsAt query Valid course steps stop = ⊥

-- a round takes the steps of the search one by one, up to where it stops, and does nothing else
pub record RoundBy (query : Query) (good : Findings) (Valid : Path → Type 0) (course : Course) : Type 0 where
  -- whose chain is searched
  pub leaf : course.search.leaf ≡ query.entity
  -- the steps that it took, and those that are left
  pub taken : List Step
  pub left : List Step
  pub steps : climb good query.entity query.anchor query.bounds.depth ≡ taken ++ left
  pub stops : StopsAt query Valid course left course.stop
  -- each URL that the steps needed was asked once, at its first need, and no other
  pub needs : course.needs ≡ first_needs (needed taken)
  pub asks : map url_of course.search.asks ≡ map need_url course.needs
  -- no path that was judged is valid
  pub invalid : (path : Path) → Among path (judged taken) → ¬ Valid path
  -- the counts are those of the asks and of the paths that were added, and none passes its bound
  pub counts : Counts course.search
  pub paths : course.search.paths ≡ length (added taken)
  pub few_calls : course.search.calls ≤ query.bounds.calls
  pub few_paths : course.search.paths ≤ query.bounds.paths
  pub ended : course.search.ended ≡ is_budget course.stop

-- the documents that a round got, and what is good of them
abbrev pub pages_in : Course → Pages
pages_in course = pages_of course.search.asks

abbrev pub good_in : Query → Course → Findings
good_in query course = findings (pages_in course) query.moment

-- the round is one of the query, by the pages that it got; a fault gives none
abbrev pub Round : Query → Course → Type 0
Round query course = RoundBy query (good_in query course) (HasValidChain query (pages_in course)) course

-- some path that was judged fails by its policies alone
abbrev pub SomeMerges : Query → Findings → (Path → Type 0) → Type 0
SomeMerges query good Merges = (path : Path) × Among path (judged (climb good query.entity query.anchor query.bounds.depth)) × Merges path

-- how a round ended
abbrev pub EndsBy : Query → Findings → (Path → Type 0) → Course → End → Type 0
EndsBy query good Merges course (Found path) = (p : Path) × (course.stop ≡ found p) × (path ≡ with_chain p)
EndsBy query good Merges course (Budget calls paths) = IsTrue (is_budget course.stop) × (calls ≡ course.search.calls) × (paths ≡ course.search.paths)
EndsBy query good Merges course NoLeaf = (course.stop ≡ finished) × (good (configuration_of query.entity) ≡ None)
EndsBy query good Merges course PolicyOnly = (course.stop ≡ finished) × (good (configuration_of query.entity) ≢ None) × SomeMerges query good Merges
EndsBy query good Merges course NoChain = (course.stop ≡ finished) × (good (configuration_of query.entity) ≢ None) × (¬ SomeMerges query good Merges)

abbrev pub EndsAs : Query → Course → End → Type 0
EndsAs query course end = EndsBy query (good_in query course) (PassesToMerge query (pages_in course)) course end

-- the round found a valid path; it had a fault
abbrev pub FoundPath : Course → Type 0
FoundPath course = (path : Path) × (course.stop ≡ found path)

abbrev pub HadFault : Course → Type 0
HadFault course = course.search.faults ≢ 0

-- no second round follows: a valid path was found, or no text came from the shelf
abbrev pub Settles : Course → Type 0
Settles course = FoundPath course ⊎ (course.search.hits ≡ 0)

-- the rounds for one entity: the first looks on the shelf, and where it doesn't settle, a second one starts from nothing and doesn't look
abbrev pub AreRounds : Query → List Course → Type 0
AreRounds query (only ∷ []) = Round query only × (only.looks ≡ true) × Settles only
AreRounds query (first ∷ second ∷ []) =
    Round query first × (first.looks ≡ true) × (¬ Settles first) × Round query second × (second.looks ≡ false) × (second.search.hits ≡ 0)
AreRounds query courses = ⊥

-- the last round
abbrev pub last_course : List Course → Option Course
last_course [] = None
last_course (course ∷ []) = Some course
last_course (course ∷ next ∷ courses) = last_course (next ∷ courses)

abbrev pub IsLast : List Course → Course → Type 0
IsLast courses course = last_course courses ≡ Some course

-- the same search for another entity
abbrev pub for_entity : Query → Identifier → Query
for_entity query entity = record query { entity = entity }

-- the rounds for each of these entities, in order
abbrev pub AreRoundsForEach : Query → List Identifier → List Course → Type 0
AreRoundsForEach query [] courses = courses ≡ []
AreRoundsForEach query (entity ∷ entities) courses =
    (here : List Course) × (rest : List Course) × (courses ≡ here ++ rest) × AreRounds (for_entity query entity) here × AreRoundsForEach query entities rest
