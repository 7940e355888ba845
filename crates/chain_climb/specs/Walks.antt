-- How far a search has come, for whatever is found later of the pages that weren't answered yet.
use Rattle.std.specs.Prelude.{map, ◌≡◌, ◌≢◌, ◌≤◌, ◌<◌, ◌+◌, ℕ, zero, suc, List, [], ◌∷◌, ◌++◌, length, take, drop, flat_map, bytes_eq, Bool, true, false, Option, Some, None, nat_le, slice_index_or, if◌then◌else◌}
use Rattle.entity_id.specs.Urls.{well_known_of}
use Rattle.entity_statement.specs.Claims.{Identifier}
use Rattle.entity_statement.specs.declared.statement.Statement.{Statement}
use Rattle.chain_climb.specs.Elements.{Among, NoneTwice}
use Rattle.chain_climb.specs.declared.want.Bounds.{Bounds}
use Rattle.chain_climb.specs.declared.path.Path.{Path}
use Rattle.chain_climb.specs.declared.want.End.{End}
use Rattle.chain_climb.specs.declared.want.End.TheVariants.{Found as FoundPath, NoLeaf, PolicyOnly, NoChain, Budget}
use Rattle.chain_climb.specs.declared.facing.Facing.{Facing}
use Rattle.chain_climb.specs.declared.facing.Facing.TheVariants.{Passed, Wants, Spent as AllSpent, Adds}
use Rattle.chain_climb.specs.declared.answer.Origin.{Origin}
use Rattle.chain_climb.specs.declared.want.Want.{Want}
use Rattle.chain_climb.specs.declared.want.Want.TheVariants.{Config, Judge as JudgePath, Done}
use Rattle.chain_climb.specs.declared.answer.Answer.{Answer}
use Rattle.chain_climb.specs.declared.answer.Answer.TheVariants.{Valid}
use Rattle.chain_climb.specs.declared.answer.Report.{Report}
use Rattle.chain_climb.specs.declared.answer.Report.TheVariants.{Good, Spent}
use Rattle.chain_climb.specs.declared.answer.PageAnswer.{PageAnswer}
use Rattle.chain_climb.specs.declared.answer.Verdict.{Verdict}
use Rattle.chain_climb.specs.declared.place.Stage.{Stage}
use Rattle.chain_climb.specs.declared.place.Stage.TheVariants.{Leaf, Hint, Judge, Found, Ended}
use Rattle.chain_climb.specs.declared.place.Place.{Place}
use Rattle.chain_climb.specs.declared.state.State.{State}
use Rattle.chain_climb.specs.declared.walk.Look.{Look}
use Rattle.chain_climb.specs.declared.walk.Look.TheVariants.{Passed as PathPassed, Judge as ToJudge, Hint as AtHint}
use Rattle.chain_climb.specs.Climbs.{Findings, Need, Step, added, climb, climb_from, configuration_of, hints_at, judged, last_of, look_at, needed, through_hint, with_chain}
use Rattle.chain_climb.specs.Facings.{face_of}
use Rattle.chain_climb.specs.Sessions.{AreJudged, Extends, IsAnswered, Search, Takes, answer_to, calls_in, faults_in, findings_of, page_of, some_policy}

-- the last entity of the path has a good configuration
pub record IsKnown (pages : List PageAnswer) (path : Path) : Type 0 where
  pub some : 0 < length path.entities
  pub own : Statement
  pub origin : Origin
  pub good : answer_to pages (configuration_of (last_of path)) ≡ Some (Good own origin)

-- so has that of each of these paths
abbrev pub AllKnown : List PageAnswer → List Path → Type 0
AllKnown pages paths = (path : Path) → Among path paths → IsKnown pages path

-- the paths that were made, before and after
pub record Growth : Type 0 where
  pub before : List Path
  pub after : List Path

abbrev pub from_to : List Path → List Path → Growth
from_to before after = record { before = before; after = after }

-- from these steps to the rest of them, whatever is found later: the pages between were answered, these paths were judged, and the others
-- added
pub record Walked (pages : List PageAnswer) (most : ℕ) (judges : List Path) (steps rest : Findings → List Step) (paths : Growth) : Type 0 where
  pub taken : List Step
  pub is : (found : Findings) → Extends found pages → steps found ≡ taken ++ rest found
  pub answered : (page : Need) → Among page (needed taken) → IsAnswered pages page
  pub judgement : judged taken ≡ judges
  pub adds : paths.after ≡ paths.before ++ added taken
  pub room : length paths.before ≤ most → length paths.after ≤ most
  pub known : AllKnown pages paths.before → AllKnown pages paths.after

-- the second list has more behind the first
abbrev pub Grows : {X : Type 0} → List X → List X → Type 0
Grows {X = X} before after = (more : List X) × (after ≡ before ++ more)

-- the levels that follow
abbrev pub below : Findings → Identifier → ℕ → ℕ → List Path → List Step
below found anchor depth zero paths = []
below found anchor depth (suc left) paths = climb_from found anchor depth left paths

-- the rest of a level, then the levels that follow
abbrev pub onward : Findings → Identifier → ℕ → List Step → List Path → ℕ → List Step
onward found anchor depth steps longer left = steps ++ below found anchor depth left (longer ++ added steps)

-- the steps at these paths
abbrev pub looks : Identifier → ℕ → List Path → Findings → List Step
looks anchor depth paths found = flat_map (look_at found anchor depth) paths

-- the hints of a path from this one on
abbrev pub hints_from : Path → ℕ → Findings → List Step
hints_from path hint found = flat_map (through_hint found path) (drop hint (hints_at found path))

-- the paths of this level from this one on
abbrev pub level_from : List Path → ℕ → ℕ → List Path
level_from queue at level_end = drop at (take level_end queue)

-- these steps, then the levels behind the paths up to this end
abbrev pub rest_from : Identifier → ℕ → List Path → (Findings → List Step) → ℕ → ℕ → Findings → List Step
rest_from anchor depth queue steps level_end left found = onward found anchor depth (steps found) (drop level_end queue) left

-- the steps at the paths of a level from this one on, then the levels that follow
abbrev pub path_rest : Identifier → ℕ → List Path → ℕ → ℕ → ℕ → Findings → List Step
path_rest anchor depth queue at level_end left = rest_from anchor depth queue (looks anchor depth (level_from queue at level_end)) level_end left

-- the steps at a path from this hint on, at the paths behind it, then the levels that follow
abbrev pub hint_rest : Identifier → ℕ → List Path → Path → ℕ → ℕ → ℕ → ℕ → Findings → List Step
hint_rest anchor depth queue path hint at level_end left =
    rest_from anchor depth queue (λ found. hints_from path hint found ++ looks anchor depth (level_from queue (at + 1) level_end) found) level_end left

-- what stands for a path where there is none
abbrev pub no_path : Path
no_path = record { entities = []; urls = [] }

-- the path at this place
abbrev pub path_in : List Path → ℕ → Path
path_in queue at = slice_index_or queue at no_path

-- the path at hand
abbrev pub path_at : List Path → Place → Path
path_at queue place = path_in queue place.at

-- what is left at a place
abbrev pub rest_at : Stage → Identifier → Identifier → ℕ → List Path → Place → Findings → List Step
rest_at Leaf leaf anchor depth queue place found = climb found leaf anchor depth
rest_at Hint leaf anchor depth queue place found = hint_rest anchor depth queue (path_at queue place) place.hint place.at place.level_end place.left found
rest_at Judge leaf anchor depth queue place found = path_rest anchor depth queue place.at place.level_end place.left found
rest_at Found leaf anchor depth queue place found = path_rest anchor depth queue place.at place.level_end place.left found
rest_at Ended leaf anchor depth queue place found = []

-- a path is at hand
abbrev pub HasPath : List Path → Place → Type 0
HasPath queue place = (place.at < place.level_end) × (place.level_end ≤ length queue)

-- a hint isn't passed: its page is wanted or wasn't to be had, or there is no room for its path
abbrev pub is_stop : Facing → Bool → Bool
is_stop Passed full = false
is_stop (Wants want) full = true
is_stop AllSpent full = true
is_stop (Adds url) full = full

-- so is the leaf's configuration
abbrev pub is_leaf_stop : Option Report → Bool → Bool
is_leaf_stop None full = true
is_leaf_stop (Some Spent) full = true
is_leaf_stop (Some (Good statement origin)) full = full
is_leaf_stop (Some answer) full = false

-- these are the hints of the path's last entity
pub record AreHints (pages : List PageAnswer) (path : Path) (hints : List Identifier) : Type 0 where
  pub known : IsKnown pages path
  pub are : hints ≡ known.own.hints

-- the hint at this place of the path isn't passed
pub record StopsAtHint (pages : List PageAnswer) (most : ℕ) (queue : List Path) (path : Path) (at : ℕ) : Type 0 where
  pub hints : List Identifier
  pub are : AreHints pages path hints
  pub within : at < length hints
  pub stops : is_stop (face_of pages path (slice_index_or hints at [])) (nat_le most (length queue)) ≡ true

-- from which leaf to which anchor a search goes
pub record Route : Type 0 where
  pub leaf : Identifier
  pub anchor : Identifier

abbrev pub route : Identifier → Identifier → Route
route leaf anchor = record { leaf = leaf; anchor = anchor }

-- why a session goes no further at a place
abbrev pub StopsAt : Stage → Route → Bounds → List PageAnswer → List Path → Place → Type 0
StopsAt Leaf way bounds pages queue place =
    (queue ≡ []) × (is_leaf_stop (answer_to pages (configuration_of way.leaf)) (nat_le bounds.paths 0) ≡ true)
StopsAt Hint way bounds pages queue place = HasPath queue place × StopsAtHint pages bounds.paths queue (path_at queue place) place.hint
StopsAt Judge way bounds pages queue place = HasPath queue place × (bytes_eq (last_of (path_at queue place)) way.anchor ≡ true)
StopsAt Found way bounds pages queue place = HasPath queue place × (bytes_eq (last_of (path_at queue place)) way.anchor ≡ true)
StopsAt Ended way bounds pages queue place = Unit {0}

-- a hint at hand, or the end of the hints
abbrev pub HasHint : List PageAnswer → Path → ℕ → Type 0
HasHint pages path hint = (hints : List Identifier) × AreHints pages path hints × (hint ≤ length hints)

-- a path is added where there is room for it
abbrev pub IsAdded : ℕ → Path → Growth → Bool → Type 0
IsAdded most path paths true = (length paths.before < most) × (paths.after ≡ paths.before ++ path ∷ [])
IsAdded most path paths false = (most ≤ length paths.before) × (paths.after ≡ paths.before)

-- what came of the hints of a path from one on: the first that isn't passed, where there is one
abbrev pub RestTried : List PageAnswer → ℕ → Path → ℕ → Growth → Option ℕ → Type 0
RestTried pages most path from paths None = Walked pages most [] (hints_from path from) (λ found. []) paths
RestTried pages most path from paths (Some at) = Walked pages most [] (hints_from path from) (hints_from path at) paths × StopsAtHint pages most paths.after path at

-- what came of one hint
abbrev pub HintTried : List PageAnswer → ℕ → Path → Identifier → Growth → Bool → Type 0
HintTried pages most path hint paths true = Walked pages most [] (λ found. through_hint found path hint) (λ found. []) paths
HintTried pages most path hint paths false = (paths.after ≡ paths.before) × (is_stop (face_of pages path hint) (nat_le most (length paths.before)) ≡ true)

-- a path, and the hints of its last entity
pub record Hinted : Type 0 where
  pub path : Path
  pub hints : List Identifier

abbrev pub hints_on : Path → List Identifier → Hinted
hints_on path hints = record { path = path; hints = hints }

-- what came of the hints from one on: those before the answer are passed
pub record HintsTried (pages : List PageAnswer) (most : ℕ) (tried : Hinted) (from : ℕ) (paths : Growth) (at : ℕ) : Type 0 where
  pub within : at ≤ length tried.hints
  pub walked : Walked pages most [] (hints_from tried.path from) (hints_from tried.path at) paths
  pub stops : at < length tried.hints → is_stop (face_of pages tried.path (slice_index_or tried.hints at [])) (nat_le most (length paths.after)) ≡ true

-- what came of one path
abbrev pub Looked : List PageAnswer → Bounds → Identifier → Path → Growth → Look → Type 0
Looked pages bounds anchor path paths PathPassed = Walked pages bounds.paths [] (λ found. look_at found anchor bounds.depth path) (λ found. []) paths
Looked pages bounds anchor path paths ToJudge = (paths.after ≡ paths.before) × (bytes_eq (last_of path) anchor ≡ true)
Looked pages bounds anchor path paths (AtHint at) =
    Walked pages bounds.paths [] (λ found. look_at found anchor bounds.depth path) (hints_from path at) paths × StopsAtHint pages bounds.paths paths.after path at

-- a place behind the leaf's configuration, with no path found
abbrev pub IsOpen : Stage → Type 0
IsOpen Leaf = ⊥
IsOpen Hint = Unit {0}
IsOpen Judge = Unit {0}
IsOpen Found = ⊥
IsOpen Ended = Unit {0}

-- these steps lead to a place at which a session goes no further
pub record Reaches (anchor : Identifier) (bounds : Bounds) (pages : List PageAnswer) (steps : Findings → List Step) (paths : Growth) (place : Place) : Type 0 where
  pub is_open : IsOpen place.stage
  pub walked : Walked pages bounds.paths [] steps (rest_at place.stage [] anchor bounds.depth paths.after place) paths
  pub stops : StopsAt place.stage (route [] anchor) bounds pages paths.after place

-- the paths of a level from one on, up to its end, and how many levels follow
pub record Level : Type 0 where
  pub first : ℕ
  pub end : ℕ
  pub left : ℕ

abbrev pub level_of : ℕ → ℕ → ℕ → Level
level_of first end left = record { first = first; end = end; left = left }

-- what came of a level
abbrev pub LevelLooked : List PageAnswer → Bounds → Identifier → Level → Growth → Option Place → Type 0
LevelLooked pages bounds anchor level paths None =
    Walked pages bounds.paths [] (path_rest anchor bounds.depth paths.before level.first level.end level.left) (path_rest anchor bounds.depth paths.after level.end level.end level.left) paths
LevelLooked pages bounds anchor level paths (Some place) =
    Reaches anchor bounds pages (path_rest anchor bounds.depth paths.before level.first level.end level.left) paths place

-- what came of the leaf's configuration
pub record LeafReaches (leaf anchor : Identifier) (bounds : Bounds) (pages : List PageAnswer) (after : List Path) (place : Place) : Type 0 where
  pub not_found : place.stage ≢ Found
  pub walked : Walked pages bounds.paths [] (λ found. climb found leaf anchor bounds.depth) (rest_at place.stage leaf anchor bounds.depth after place) (from_to [] after)
  pub stops : StopsAt place.stage (route leaf anchor) bounds pages after place

-- a place at which a page was wanted
abbrev pub IsReady : Stage → List PageAnswer → List Path → Place → Type 0
IsReady Leaf pages queue place = queue ≡ []
IsReady Hint pages queue place = HasPath queue place × HasHint pages (path_at queue place) place.hint
IsReady Judge pages queue place = ⊥
IsReady Found pages queue place = ⊥
IsReady Ended pages queue place = ⊥

-- a place leads to another
pub record Resumes (way : Route) (bounds : Bounds) (pages : List PageAnswer) (paths : Growth) (place reached : Place) : Type 0 where
  pub not_found : reached.stage ≢ Found
  pub walked : Walked pages bounds.paths [] (rest_at place.stage way.leaf way.anchor bounds.depth paths.before place) (rest_at reached.stage way.leaf way.anchor bounds.depth paths.after reached) paths
  pub stops : StopsAt reached.stage way bounds pages paths.after reached

-- the steps up to a place are done
pub record IsAt (way : Route) (bounds : Bounds) (pages : List PageAnswer) (judges queue : List Path) (rest : Findings → List Step) : Type 0 where
  pub walked : Walked pages bounds.paths judges (λ found. climb found way.leaf way.anchor bounds.depth) rest (from_to [] queue)

-- a place at which a session goes no further
pub record IsPlace (way : Route) (bounds : Bounds) (pages : List PageAnswer) (judges queue : List Path) (place : Place) : Type 0 where
  pub is_at : IsAt way bounds pages judges queue (rest_at place.stage way.leaf way.anchor bounds.depth queue place)
  pub stops : StopsAt place.stage way bounds pages queue place

-- the verdict on the path at hand comes last, where it is valid
abbrev pub with_last : Stage → List Verdict → Path → List Verdict
with_last Leaf verdicts path = verdicts
with_last Hint verdicts path = verdicts
with_last Judge verdicts path = verdicts
with_last Found verdicts path = verdicts ++ record { path = with_chain path; answer = Valid } ∷ []
with_last Ended verdicts path = verdicts

-- what a session's fields say of its search
abbrev pub search_of : State → Search
search_of s = record { leaf = s.leaf; anchor = s.anchor; bounds = s.bounds; pages = s.pages; verdicts = s.verdicts }

-- the invariant of a session
pub record IsStanding (s : State) : Type 0 where
  pub judges : List Path
  pub earlier : List Verdict
  pub judged : AreJudged earlier judges
  pub verdicts : s.verdicts ≡ with_last s.place.stage earlier (path_at s.queue s.place)
  pub place : IsPlace (route s.leaf s.anchor) s.bounds s.pages judges s.queue s.place
  pub calls : s.calls ≡ calls_in s.pages
  pub faults : s.faults ≡ faults_in s.pages
  pub few_calls : s.calls ≤ s.bounds.calls
  pub few_faults : s.faults ≤ s.calls
  pub once : NoneTwice (map page_of s.pages)

-- the want at a hint
abbrev pub facing_want : State → Facing → Want
facing_want s (Wants want) = want
facing_want s facing = Done (Budget s.calls (length s.queue))

-- the want at the leaf's configuration
abbrev pub leaf_want : State → Option Report → Want
leaf_want s None = Config s.leaf (well_known_of s.leaf)
leaf_want s (Some answer) = Done (Budget s.calls (length s.queue))

-- the end where nothing is left, by the paths that were made and whether one fails by its policies alone
abbrev pub end_of : List Path → Bool → End
end_of [] policy = NoLeaf
end_of (path ∷ paths) policy = if policy then PolicyOnly else NoChain

-- the hint at hand
abbrev pub hint_at : State → Identifier
hint_at s = slice_index_or (hints_at (findings_of s.pages) (path_at s.queue s.place)) s.place.hint []

-- what a session wants, by its stage
abbrev pub wanted_at : Stage → State → Want
wanted_at Leaf s = leaf_want s (answer_to s.pages (configuration_of s.leaf))
wanted_at Hint s = facing_want s (face_of s.pages (path_at s.queue s.place) (hint_at s))
wanted_at Judge s = JudgePath (with_chain (path_at s.queue s.place))
wanted_at Found s = Done (FoundPath (with_chain (path_at s.queue s.place)))
wanted_at Ended s = Done (end_of s.queue (some_policy s.verdicts))

-- what a session wants
unfoldable pub wanted : State → Want
wanted s = wanted_at s.place.stage s

-- a session that has just begun
pub record IsBegun (leaf anchor : Identifier) (bounds : Bounds) (s : State) : Type 0 where
  pub leaf_is : s.leaf ≡ leaf
  pub anchor_is : s.anchor ≡ anchor
  pub bounds_are : s.bounds ≡ bounds
  pub no_pages : s.pages ≡ []
  pub no_verdicts : s.verdicts ≡ []
  pub standing : IsStanding s

-- the search stays the same
pub record IsSameSearch (old now : State) : Type 0 where
  pub leaf : now.leaf ≡ old.leaf
  pub anchor : now.anchor ≡ old.anchor
  pub bounds : now.bounds ≡ old.bounds

-- a session that was given an answer
pub record IsGiven (old now : State) (answer : Answer) : Type 0 where
  pub standing : IsStanding now
  pub takes : Takes (search_of old) (search_of now) (wanted old) answer
  pub same : IsSameSearch old now

-- a page is wanted
abbrev pub WaitsForPage : Stage → Type 0
WaitsForPage Leaf = Unit {0}
WaitsForPage Hint = Unit {0}
WaitsForPage stage = ⊥

-- a session that has taken a page
pub record HasTakenPage (old now : State) (page : PageAnswer) : Type 0 where
  pub standing : IsStanding now
  pub pages : now.pages ≡ old.pages ++ page ∷ []
  pub verdicts : now.verdicts ≡ old.verdicts
  pub same : IsSameSearch old now

-- a session that has taken a verdict
pub record HasTakenVerdict (old now : State) (verdict : Verdict) : Type 0 where
  pub standing : IsStanding now
  pub pages : now.pages ≡ old.pages
  pub verdicts : now.verdicts ≡ old.verdicts ++ verdict ∷ []
  pub same : IsSameSearch old now
