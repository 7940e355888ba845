-- A round has one stop: what it asked and got decides it.
use Rattle.std.proofs.Common.{◌≡◌, ◌<◌, ◌+◌, List, [], ◌∷◌, ◌++◌, length, map, refl, sym, ap, ◌∙◌, subst, inl, inr, ⊎_elim, length-append, arith}
use Rattle.std.proofs.lemmas.List.Elements.{filter_map-append}
use Rattle.chain_climb.specs.declared.path.Path.{Path}
use Rattle.chain_climb.specs.Climbs.{Findings, Step, add, added, added_by, judge, judged, judged_by, need, needed, needed_by}
use Rattle.chain_climb.specs.Elements.{Among}
use Rattle.resolve_round.specs.declared.trace.Search.{Search}
use Rattle.resolve_round.specs.Pages.{HasValidChain, Query}
use Rattle.resolve_round.specs.Courses.{Course, Stop, finished, first_needs, found, out_of_calls, out_of_paths, pages_of, url_of}
use Rattle.resolve_round.specs.Rounds.{Round, RoundBy, StopsAt, need_url, good_in, pages_in}
use Rattle.resolve_round.proofs.Elements.{among-filter_map}
use Rattle.resolve_round.proofs.RoundLaws.{first-all}

-- ---- two ways to cut one list

-- the first list is a beginning of the second, and this comes next
abbrev pub Ahead : List Step → List Step → List Step → List Step → Type 0
Ahead taken left other rest = (step : Step) × (more : List Step) × (other ≡ taken ++ step ∷ more) × (left ≡ step ∷ (more ++ rest))

pub data Cuts (taken left other rest : List Step) : Type 0 where
  same : taken ≡ other → left ≡ rest → Cuts taken left other rest
  ahead : Ahead taken left other rest → Cuts taken left other rest
  behind : Ahead other rest taken left → Cuts taken left other rest

longer-cuts : (x y : Step) → x ≡ y → (taken left other rest : List Step) → Cuts taken left other rest → Cuts (x ∷ taken) left (y ∷ other) rest
longer-cuts x y one taken left other rest (same a b) = same (ap (λ s. s ∷ taken) one ∙ ap (λ l. y ∷ l) a) b
longer-cuts x y one taken left other rest (ahead (step, more, a, b)) = ahead (step, more, ap (λ s. s ∷ other) (sym one) ∙ ap (λ l. x ∷ l) a, b)
longer-cuts x y one taken left other rest (behind (step, more, a, b)) = behind (step, more, ap (λ s. s ∷ taken) one ∙ ap (λ l. y ∷ l) a, b)

pub cuts : (taken left other rest : List Step) → taken ++ left ≡ other ++ rest → Cuts taken left other rest
cuts [] left [] rest one = same refl one
cuts [] left (y ∷ other) rest one = ahead (y, other, refl, one)
cuts (x ∷ taken) left [] rest one = behind (x, taken, refl, sym one)
cuts (x ∷ taken) left (y ∷ other) rest one =
    let head : x ≡ y = cc one in
    let tail : taken ++ left ≡ other ++ rest = cc one in
    longer-cuts x y head taken left other rest (cuts taken left other rest tail)

-- ---- a round that goes on where another stops

pub among-step : (taken more : List Step) (step : Step) → Among step (taken ++ step ∷ more)
among-step [] more step = inl refl
among-step (x ∷ taken) more step = inr (among-step taken more step)

module _ (query : Query) (good : Findings) (Valid : Path → Type 0) (course other : Course)
    (round : RoundBy query good Valid course) (second : RoundBy query good Valid other) (one : other.search ≡ course.search) where
  needs-same : map need_url other.needs ≡ map need_url course.needs
  needs-same = sym second.asks ∙ ap (λ (s : Search). map url_of s.asks) one ∙ round.asks

  more-paths : (more : List Step) (path : Path) → second.taken ≡ round.taken ++ add path ∷ more → length (added round.taken) < length (added second.taken)
  more-paths more path is =
      let longer : added second.taken ≡ added round.taken ++ path ∷ added more = ap added is ∙ filter_map-append added_by round.taken (add path ∷ more) in
      let count : length (added second.taken) ≡ length (added round.taken) + length (path ∷ added more) = ap length longer ∙ length-append (added round.taken) (path ∷ added more) in
      omega (arith, count)

  no-ahead : (step : Step) (more left : List Step) (stop : Stop) → second.taken ≡ round.taken ++ step ∷ more → StopsAt query Valid course (step ∷ left) stop → ⊥
  no-ahead (judge path) more left (found p) is stops =
      second.invalid path (subst (λ steps. Among path (judged steps)) (sym is) (among-filter_map judged_by (judge path) path refl (round.taken ++ judge path ∷ more) (among-step round.taken more (judge path)))) stops.1
  no-ahead (need page) more left (out_of_calls p) is stops =
      let there : Among page (needed second.taken) = subst (λ steps. Among page (needed steps)) (sym is) (among-filter_map needed_by (need page) page refl (round.taken ++ need page ∷ more) (among-step round.taken more (need page))) in
      let asked : Among page.url (map need_url other.needs) =
      ⊎_elim (λ none. absurd none) (λ met. subst (λ ns. Among page.url (map need_url ns)) (sym second.needs) met) (first-all [] (needed second.taken) page there) in
      stops.1 (subst (Among page.url) needs-same asked)
  no-ahead (add path) more left (out_of_paths p) is stops =
      let counts : length (added round.taken) < length (added second.taken) = more-paths more path is in
      let first : course.search.paths ≡ length (added round.taken) = round.paths in
      let last : course.search.paths ≡ length (added second.taken) = ap (λ (s : Search). s.paths) (sym one) ∙ second.paths in
      omega (arith, counts, first, last)
  no-ahead step more left stop is stops = absurd stops

-- the stop that the steps that are left lead to
abbrev stop_at : List Step → Stop
stop_at [] = finished
stop_at (judge path ∷ left) = found path
stop_at (need page ∷ left) = out_of_calls page
stop_at (add path ∷ left) = out_of_paths path

stop-is : (query : Query) (Valid : Path → Type 0) (course : Course) (left : List Step) (stop : Stop) → StopsAt query Valid course left stop → stop ≡ stop_at left
stop-is query Valid course [] finished stops = refl
stop-is query Valid course (judge path ∷ left) (found p) stops = ap found stops.0
stop-is query Valid course (need page ∷ left) (out_of_calls p) stops = ap out_of_calls stops.0
stop-is query Valid course (add path ∷ left) (out_of_paths p) stops = ap out_of_paths stops.0
stop-is query Valid course left stop stops = absurd stops

module _ (query : Query) (good : Findings) (Valid : Path → Type 0) (course other : Course)
    (round : RoundBy query good Valid course) (second : RoundBy query good Valid other) (one : other.search ≡ course.search) where
  by_cuts : Cuts round.taken round.left second.taken second.left → (other.stop ≡ course.stop) × (other.needs ≡ course.needs)
  by_cuts (same taken left) = (
    stop-is query Valid other second.left other.stop second.stops ∙ ap stop_at (sym left) ∙ sym (stop-is query Valid course round.left course.stop round.stops),
    second.needs ∙ ap (λ steps. first_needs (needed steps)) (sym taken) ∙ sym round.needs,
  )
  by_cuts (ahead (step, more, taken, left)) =
      absurd (no-ahead query good Valid course other round second one step more (more ++ second.left) course.stop taken (subst (λ l. StopsAt query Valid course l course.stop) left round.stops))
  by_cuts (behind (step, more, taken, left)) =
      absurd (no-ahead query good Valid other course second round (sym one) step more (more ++ round.left) other.stop taken (subst (λ l. StopsAt query Valid other l other.stop) left second.stops))

  pub one-stop_by : (other.stop ≡ course.stop) × (other.needs ≡ course.needs)
  one-stop_by = by_cuts (cuts round.taken round.left second.taken second.left (sym round.steps ∙ second.steps))

pub one-stop : (query : Query) (course other : Course) → Round query course → Round query other → other.search ≡ course.search → (other.stop ≡ course.stop) × (other.needs ≡ course.needs)
one-stop query course other round second one =
    let moved : RoundBy query (good_in query course) (HasValidChain query (pages_in course)) other =
    subst (λ (s : Search). RoundBy query (Rattle.resolve_round.specs.Pages.findings (pages_of s.asks) query.moment) (HasValidChain query (pages_of s.asks)) other) one second in
    one-stop_by query (good_in query course) (HasValidChain query (pages_in course)) course other round moved one
