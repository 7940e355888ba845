-- A session whose answers are true makes a round.
use Rattle.std.proofs.Common.{◌≡◌, ◌≤◌, List, [], ◌∷◌, ◌++◌, length, refl, sym, ap, ◌∙◌, subst, inl, inr}
use Rattle.std.specs.Option.{option_and_then}
use Rattle.chain_climb.specs.Elements.{Among}
use Rattle.chain_climb.proofs.Elements.{among-left}
use Rattle.chain_climb.specs.declared.path.Path.{Path}
use Rattle.chain_climb.specs.declared.want.Bounds.{Bounds}
use Rattle.chain_climb.specs.declared.answer.Answer.{Answer}
use Rattle.chain_climb.specs.declared.answer.Answer.TheVariants.{Good as GoodAnswer, Useless as UselessAnswer, Fault as FaultAnswer, Spent as SpentAnswer, Valid, PolicyFails, Invalid}
use Rattle.chain_climb.specs.declared.answer.Verdict.{Verdict}
use Rattle.chain_climb.specs.declared.want.Want.{Want}
use Rattle.chain_climb.specs.Climbs.{Step, add, climb, judge, judged, need, with_chain}
use Rattle.chain_climb.specs.Sessions.{AreJudged, IsNext, IsNoChain, Search, Wants, finding_in, findings_of}
use Rattle.chain_climb.proofs.PrefixLaws.{Agree, SameHead, like-climb}
use Rattle.resolve_round.specs.Answers.{AnswersTell, IsMadeBy, IsRuling}
use Rattle.resolve_round.specs.Courses.{Course, Stop, found, out_of_calls, out_of_paths}
use Rattle.resolve_round.specs.Pages.{HasValidChain, PassesToMerge, Query}
use Rattle.resolve_round.specs.Rounds.{Round, StopsAt, good_in, pages_in}

-- the verdict on a path that was judged
abbrev pub Ruled : List Verdict → Path → Type 0
Ruled verdicts path = (v : Verdict) × Among v verdicts × (v.path ≡ with_chain path) × IsNoChain v.answer

pub judged-verdict : (verdicts : List Verdict) (paths : List Path) (path : Path) → AreJudged verdicts paths → Among path paths → Ruled verdicts path
judged-verdict [] [] path rulings among = absurd among
judged-verdict [] (p ∷ paths) path rulings among = absurd rulings
judged-verdict (v ∷ verdicts) [] path rulings among = absurd among
judged-verdict (v ∷ verdicts) (p ∷ paths) path rulings (inl same) = (v, inl refl, rulings.0 ∙ ap with_chain (sym same), rulings.1)
judged-verdict (v ∷ verdicts) (p ∷ paths) path rulings (inr among) =
    let rest = judged-verdict verdicts paths path rulings.2 among in
    (rest.0, inr rest.1, rest.2, rest.3)

-- each of the verdicts on the steps that are done was given
pub given-verdict : (s : Search) (verdicts : List Verdict) (taken left : List Step) (want : Want) → Wants s verdicts taken left want → (v : Verdict) → Among v verdicts → Among v s.verdicts
given-verdict s verdicts taken [] want wants v among = subst (Among v) (sym wants.0) among
given-verdict s verdicts taken (need page ∷ left) want wants v among = subst (Among v) (sym wants.0) among
given-verdict s verdicts taken (judge path ∷ left) want (inl (are, is)) v among = subst (Among v) (sym are) among
given-verdict s verdicts taken (judge path ∷ left) want (inr (are, is)) v among = subst (Among v) (sym are) (among-left v verdicts _ among)
given-verdict s verdicts taken (add path ∷ left) want wants v among = subst (Among v) (sym wants.0) among

-- a ruling says that the chain isn't valid
not-valid : (answer : Answer) (Merges Valid' : Type 0) → IsRuling answer Merges Valid' → ¬ Valid'
not-valid PolicyFails Merges Valid' ruling = ruling.1
not-valid Invalid Merges Valid' ruling = ruling.1
not-valid (GoodAnswer statement origin) Merges Valid' ruling = absurd ruling
not-valid (UselessAnswer origin) Merges Valid' ruling = absurd ruling
not-valid FaultAnswer Merges Valid' ruling = absurd ruling
not-valid SpentAnswer Merges Valid' ruling = absurd ruling
not-valid Valid Merges Valid' ruling = absurd ruling

stops-same : (query : Query) (Holds : Path → Type 0) (course : Course) (left rest : List Step) (stop : Stop) → SameHead left rest → StopsAt query Holds course left stop → StopsAt query Holds course rest stop
stops-same query Holds course [] [] stop head stops = stops
stops-same query Holds course [] (s ∷ rest) stop head stops = absurd head
stops-same query Holds course (s ∷ left) [] stop head stops = absurd head
stops-same query Holds course (judge path ∷ left) (s ∷ rest) (found p) head stops = subst (λ x. StopsAt query Holds course (x ∷ rest) (found p)) head stops
stops-same query Holds course (need page ∷ left) (s ∷ rest) (out_of_calls p) head stops = subst (λ x. StopsAt query Holds course (x ∷ rest) (out_of_calls p)) head stops
stops-same query Holds course (add path ∷ left) (s ∷ rest) (out_of_paths p) head stops = subst (λ x. StopsAt query Holds course (x ∷ rest) (out_of_paths p)) head stops
stops-same query Holds course left rest stop head stops = absurd stops

module _ (query : Query) (course : Course) (s : Search) (want : Want) (next : IsNext s want) (tell : AnswersTell query course s) where
  pub answers-agree : Agree (findings_of s.pages) (good_in query course) next.taken
  unfolding findings_of
  answers-agree page among =
      let passed = next.stands.answered page among in
      ap (option_and_then finding_in) passed.1 ∙ tell.pages page passed.0 passed.1 passed.2

  pub own-steps : climb (findings_of s.pages) query.entity query.anchor query.bounds.depth ≡ next.taken ++ next.left
  own-steps = rw (← tell.leaf, ← tell.anchor, ← tell.bounds) next.stands.steps

  no-valid : (path : Path) → Among path (judged next.taken) → ¬ HasValidChain query (pages_in course) path
  no-valid path among =
      let ruled = judged-verdict next.verdicts (judged next.taken) path next.stands.invalid among in
      not-valid (ruled.0).answer (PassesToMerge query (pages_in course) path) (HasValidChain query (pages_in course) path)
      (tell.verdicts ruled.0 (given-verdict s next.verdicts next.taken next.left want next.wants ruled.0 ruled.1) path ruled.2)

  pub session-round : IsMadeBy query course next.taken next.left → Round query course
  session-round made =
      let steps = like-climb (findings_of s.pages) (good_in query course) query.anchor query.bounds.depth query.entity next.taken next.left own-steps answers-agree in
      record {
        leaf = made.leaf;
        taken = next.taken;
        left = steps.0;
        steps = steps.1;
        stops = stops-same query (HasValidChain query (pages_in course)) course next.left steps.0 course.stop steps.2 made.stops;
        needs = made.needs;
        asks = made.asks;
        invalid = no-valid;
        counts = made.counts;
        paths = made.paths;
        few_calls = made.few_calls;
        few_paths = subst (λ n. n ≤ query.bounds.paths) (sym made.paths) (subst (λ (b : Bounds). length (Rattle.chain_climb.specs.Climbs.added next.taken) ≤ b.paths) tell.bounds next.stands.room);
        ended = made.ended;
      }
