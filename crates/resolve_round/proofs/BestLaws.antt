-- What a round finds is the first valid path, and a round that finishes without one leaves none.
use Rattle.std.proofs.Common.{◌≡◌, List, [], ◌∷◌, ◌++◌, refl, sym, ap, ◌∙◌, subst, inl, ⊎_elim, append-nil}
use Rattle.std.proofs.lemmas.List.Elements.{filter_map-append}
use Rattle.chain_climb.specs.Elements.{Among, Ordered}
use Rattle.chain_climb.proofs.Elements.{among-right, among-split, ordered-later}
use Rattle.chain_climb.specs.declared.path.Path.{Path}
use Rattle.chain_climb.specs.Climbs.{Findings, Step, add, climb, judge, judged, judged_by, need}
use Rattle.chain_climb.specs.Paths.{Precedes}
use Rattle.chain_climb.proofs.LevelLaws.{judged-ordered, judged-path, path-judged}
use Rattle.resolve_round.specs.Pages.{HasChain, HasValidChain, IsBest, Query}
use Rattle.resolve_round.specs.Courses.{Course, Stop, finished, found, out_of_calls, out_of_paths}
use Rattle.resolve_round.specs.Rounds.{Round, StopsAt, good_in, pages_in}
use Rattle.resolve_round.proofs.HintLaws.{hints-once}

-- the next step of a round that found a path
pub stop-found : (query : Query) (Valid : Path → Type 0) (course : Course) (path : Path) (left : List Step) (stop : Stop) → StopsAt query Valid course left stop → stop ≡ found path
    → (rest : List Step) × (left ≡ judge path ∷ rest) × Valid path
stop-found query Valid course path [] finished stops is = cc is
stop-found query Valid course path (judge p ∷ left) (found q) stops is =
    let one : q ≡ path = cc is in
    let here : p ≡ path = sym stops.0 ∙ one in
    (left, ap (λ x. judge x ∷ left) here, subst Valid here stops.1)
stop-found query Valid course path (need page ∷ left) (out_of_calls p) stops is = cc is
stop-found query Valid course path (add q ∷ left) (out_of_paths p) stops is = cc is
stop-found query Valid course path left stop stops is = absurd stops

pub stop-finished : (query : Query) (Valid : Path → Type 0) (course : Course) (left : List Step) (stop : Stop) → StopsAt query Valid course left stop → stop ≡ finished → left ≡ []
stop-finished query Valid course [] finished stops is = refl
stop-finished query Valid course (judge p ∷ left) (found q) stops is = cc is
stop-finished query Valid course (need page ∷ left) (out_of_calls p) stops is = cc is
stop-finished query Valid course (add q ∷ left) (out_of_paths p) stops is = cc is
stop-finished query Valid course left stop stops is = absurd stops

module _ (query : Query) (course : Course) (round : Round query course) where
  abbrev good : Findings
  good = good_in query course

  abbrev all_judged : List Path
  all_judged = judged (climb good query.entity query.anchor query.bounds.depth)

  -- the path that a round found is the first valid one
  pub found-best : (path : Path) → course.stop ≡ found path → IsBest query (pages_in course) path
  found-best path is =
      let next = stop-found query (HasValidChain query (pages_in course)) course path round.left course.stop round.stops is in
      let split : all_judged ≡ judged round.taken ++ path ∷ judged next.0 =
      ap judged (round.steps ∙ ap (λ l. round.taken ++ l) next.1) ∙ filter_map-append judged_by round.taken (judge path ∷ next.0) in
      let stands : Among path all_judged = subst (Among path) (sym split) (among-right path (judged round.taken) (path ∷ judged next.0) (inl refl)) in
      let here = judged-path good query.entity query.anchor query.bounds.depth path stands in
      let ordered : Ordered (Precedes good) (judged round.taken ++ path ∷ judged next.0) =
      subst (Ordered (Precedes good)) split (judged-ordered good query.entity query.anchor query.bounds.depth (hints-once (pages_in course) query.moment)) in
      record {
        whole = record { is_path = here.0; ends = here.1 };
        valid = next.2;
        first = λ other whole valid apart.
            let there : Among other (judged round.taken ++ path ∷ judged next.0) =
            subst (Among other) split (path-judged good query.entity query.anchor query.bounds.depth other whole.is_path whole.ends) in
            ⊎_elim
            (λ before. absurd (round.invalid other before valid))
            (λ rest. ⊎_elim (λ same. absurd (apart same)) (λ after. ordered-later (Precedes good) (judged round.taken) path (judged next.0) ordered other after) rest)
            (among-split other (judged round.taken) (path ∷ judged next.0) there);
      }

  -- a round that finishes leaves no valid path
  pub finished-none : course.stop ≡ finished → ¬ HasChain query (pages_in course)
  finished-none is chain =
      let empty = stop-finished query (HasValidChain query (pages_in course)) course round.left course.stop round.stops is in
      let all : all_judged ≡ judged round.taken = ap judged (round.steps ∙ ap (λ l. round.taken ++ l) empty ∙ append-nil round.taken) in
      let there = path-judged good query.entity query.anchor query.bounds.depth chain.path chain.whole.is_path chain.whole.ends in
      round.invalid chain.path (subst (Among chain.path) all there) chain.valid
