-- How a round ends whose search has nothing left to do.
use Rattle.std.proofs.Common.{◌≡◌, List, [], ◌∷◌, ◌++◌, Bool, true, false, refl, sym, ap, ◌∙◌, subst, inl, inr, append-nil, true≢false, ◌||◌}
use Rattle.chain_climb.specs.Elements.{Among}
use Rattle.chain_climb.specs.declared.path.Path.{Path}
use Rattle.chain_climb.specs.declared.answer.Answer.{Answer}
use Rattle.chain_climb.specs.declared.answer.Answer.TheVariants.{Good as GoodAnswer, Useless as UselessAnswer, Fault as FaultAnswer, Spent as SpentAnswer, Valid, PolicyFails, Invalid}
use Rattle.chain_climb.specs.declared.answer.Verdict.{Verdict}
use Rattle.chain_climb.specs.declared.want.End.{End}
use Rattle.chain_climb.specs.declared.want.End.TheVariants.{Found, NoLeaf, PolicyOnly, NoChain, Budget}
use Rattle.chain_climb.specs.declared.want.Want.{Want}
use Rattle.chain_climb.specs.Climbs.{Findings, Step, climb, configuration_of, judged, needed, with_chain}
use Rattle.chain_climb.specs.Sessions.{AreJudged, IsNext, IsPlainEnd, Search, findings_of, is_policy, some_policy}
use Rattle.chain_climb.proofs.PrefixLaws.{SameHead, like-climb, same-none}
use Rattle.resolve_round.specs.Answers.{AnswersTell, IsRuling}
use Rattle.resolve_round.specs.Courses.{Course, finished}
use Rattle.resolve_round.specs.Pages.{HasValidChain, PassesToMerge, Query}
use Rattle.resolve_round.specs.Rounds.{EndsAs, SomeMerges, good_in, pages_in}
use Rattle.resolve_round.proofs.SessionLaws.{Ruled, answers-agree, judged-verdict, own-steps}

-- ---- verdicts

policy_is : (answer : Answer) → is_policy answer ≡ true → answer ≡ PolicyFails
policy_is PolicyFails is = refl
policy_is Invalid is = absurd (true≢false (sym is))
policy_is (GoodAnswer statement origin) is = absurd (true≢false (sym is))
policy_is (UselessAnswer origin) is = absurd (true≢false (sym is))
policy_is FaultAnswer is = absurd (true≢false (sym is))
policy_is SpentAnswer is = absurd (true≢false (sym is))
policy_is Valid is = absurd (true≢false (sym is))

abbrev PolicyOne : List Verdict → Type 0
PolicyOne verdicts = (v : Verdict) × Among v verdicts × (v.answer ≡ PolicyFails)

one_by : (b : Bool) (v : Verdict) (verdicts : List Verdict) → is_policy v.answer ≡ b → (some_policy verdicts ≡ true → PolicyOne verdicts) → (b || some_policy verdicts) ≡ true → PolicyOne (v ∷ verdicts)
one_by true v verdicts is later any = (v, inl refl, policy_is v.answer is)
one_by false v verdicts is later any = let rest = later any in (rest.0, inr rest.1, rest.2)

policy-one : (verdicts : List Verdict) → some_policy verdicts ≡ true → PolicyOne verdicts
policy-one [] any = absurd (true≢false (sym any))
policy-one (v ∷ verdicts) any = one_by (is_policy v.answer) v verdicts refl (policy-one verdicts) any

or-none : (a b : Bool) → (a || b) ≡ false → (a ≡ false) × (b ≡ false)
or-none true b none = absurd (true≢false none)
or-none false b none = (refl, none)

no-policy : (verdicts : List Verdict) (v : Verdict) → some_policy verdicts ≡ false → Among v verdicts → is_policy v.answer ≡ false
no-policy [] v none among = absurd among
no-policy (x ∷ verdicts) v none (inl same) = ap (λ (y : Verdict). is_policy y.answer) same ∙ (or-none (is_policy x.answer) (some_policy verdicts) none).0
no-policy (x ∷ verdicts) v none (inr among) = no-policy verdicts v (or-none (is_policy x.answer) (some_policy verdicts) none).1 among

-- the path of a verdict
abbrev PathOf : List Path → Verdict → Type 0
PathOf paths v = (path : Path) × Among path paths × (v.path ≡ with_chain path)

verdict-path : (verdicts : List Verdict) (paths : List Path) (v : Verdict) → AreJudged verdicts paths → Among v verdicts → PathOf paths v
verdict-path [] [] v rulings among = absurd among
verdict-path [] (p ∷ paths) v rulings among = absurd among
verdict-path (x ∷ verdicts) [] v rulings among = absurd rulings
verdict-path (x ∷ verdicts) (p ∷ paths) v rulings (inl same) = (p, inl refl, ap (λ (y : Verdict). y.path) same ∙ rulings.0)
verdict-path (x ∷ verdicts) (p ∷ paths) v rulings (inr among) = let rest = verdict-path verdicts paths v rulings.2 among in (rest.0, inr rest.1, rest.2)

-- a ruling that isn't by policies says that the chain fails before them
before-policies : (answer : Answer) (Merges Valid' : Type 0) → is_policy answer ≡ false → IsRuling answer Merges Valid' → ¬ Merges
before-policies PolicyFails Merges Valid' is ruling = absurd (true≢false is)
before-policies Invalid Merges Valid' is ruling = ruling.0
before-policies (GoodAnswer statement origin) Merges Valid' is ruling = absurd ruling
before-policies (UselessAnswer origin) Merges Valid' is ruling = absurd ruling
before-policies FaultAnswer Merges Valid' is ruling = absurd ruling
before-policies SpentAnswer Merges Valid' is ruling = absurd ruling
before-policies Valid Merges Valid' is ruling = absurd ruling

merges-of : (answer : Answer) (Merges Valid' : Type 0) → answer ≡ PolicyFails → IsRuling answer Merges Valid' → Merges
merges-of answer Merges Valid' is ruling = (subst (λ a. IsRuling a Merges Valid') is ruling).0

-- ---- the leaf's configuration

first_step : (found : Findings) (query : Query) (taken : List Step) → climb found query.entity query.anchor query.bounds.depth ≡ taken → Among (configuration_of query.entity) (needed taken)
unfolding climb
first_step found query taken is = subst (λ steps. Among (configuration_of query.entity) (needed steps)) is (inl refl)

module _ (query : Query) (course : Course) (s : Search) (want : Want) (next : IsNext s want) (tell : AnswersTell query course s) (nothing : next.left ≡ []) (verdicts : s.verdicts ≡ next.verdicts)
    (stop : course.stop ≡ finished) where
  abbrev good : Findings
  good = good_in query course

  all_taken : climb (findings_of s.pages) query.entity query.anchor query.bounds.depth ≡ next.taken
  all_taken = own-steps query course s want next tell ∙ ap (λ l. next.taken ++ l) nothing ∙ append-nil next.taken

  -- the whole search over what was got took the same steps
  whole : climb good query.entity query.anchor query.bounds.depth ≡ next.taken
  whole =
      let steps = like-climb (findings_of s.pages) good query.anchor query.bounds.depth query.entity next.taken next.left (own-steps query course s want next tell) (answers-agree query course s want next tell) in
      let none : steps.0 ≡ [] = same-none steps.0 (subst (λ l. SameHead l steps.0) nothing steps.2) in
      steps.1 ∙ ap (λ l. next.taken ++ l) none ∙ append-nil next.taken

  leaf_same : findings_of s.pages (configuration_of s.leaf) ≡ good (configuration_of query.entity)
  leaf_same =
      ap (λ e. findings_of s.pages (configuration_of e)) tell.leaf
      ∙ answers-agree query course s want next tell (configuration_of query.entity) (first_step (findings_of s.pages) query next.taken all_taken)

  judged_all : judged (climb good query.entity query.anchor query.bounds.depth) ≡ judged next.taken
  judged_all = ap judged whole

  some_merges : some_policy s.verdicts ≡ true → SomeMerges query good (PassesToMerge query (pages_in course))
  some_merges any =
      let one = policy-one s.verdicts any in
      let path = verdict-path next.verdicts (judged next.taken) one.0 next.stands.invalid (subst (Among one.0) verdicts one.1) in (
        path.0,
        subst (Among path.0) (sym judged_all) path.1,
        merges-of (one.0).answer (PassesToMerge query (pages_in course) path.0) (HasValidChain query (pages_in course) path.0) one.2 (tell.verdicts one.0 one.1 path.0 path.2),
      )

  none_merges : some_policy s.verdicts ≡ false → ¬ SomeMerges query good (PassesToMerge query (pages_in course))
  none_merges none (path, among, merges) =
      let ruled : Ruled next.verdicts path = judged-verdict next.verdicts (judged next.taken) path next.stands.invalid (subst (Among path) judged_all among) in
      let there : Among ruled.0 s.verdicts = subst (Among ruled.0) (sym verdicts) ruled.1 in
      before-policies (ruled.0).answer (PassesToMerge query (pages_in course) path) (HasValidChain query (pages_in course) path) (no-policy s.verdicts ruled.0 none there) (tell.verdicts ruled.0 there path ruled.2) merges

  -- the round ended as the search did
  pub plain-end : (end : End) → IsPlainEnd s end → EndsAs query course end
  plain-end NoLeaf is = (stop, sym leaf_same ∙ is)
  plain-end PolicyOnly is = (stop, (λ none. is.0 (leaf_same ∙ none)), some_merges is.1)
  plain-end NoChain is = (stop, (λ none. is.0 (leaf_same ∙ none)), none_merges is.1)
  plain-end (Found path) is = absurd is
  plain-end (Budget calls paths) is = absurd is
