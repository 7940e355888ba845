-- Where a round ends, and what it is then.
use Rattle.std.proofs.Common.{◌≡◌, ◌≤◌, List, [], ◌∷◌, ◌++◌, length, map, Bool, true, false, cond, Option, Some, None, refl, sym, ap, ◌∙◌, subst, inl, inr}
use Rattle.std.specs.Prelude.{find, option_map}
use Rattle.chain_climb.specs.declared.answer.PageAnswer.{PageAnswer}
use Rattle.chain_climb.specs.declared.answer.Answer.TheVariants.{Valid}
use Rattle.chain_climb.specs.declared.answer.Report.{Report}
use Rattle.chain_climb.specs.declared.answer.Report.TheVariants.{Good, Useless, Fault, Spent}
use Rattle.chain_climb.specs.declared.answer.Verdict.{Verdict}
use Rattle.chain_climb.specs.declared.path.Path.{Path}
use Rattle.chain_climb.specs.declared.want.Bounds.{Bounds}
use Rattle.chain_climb.specs.declared.want.End.{End}
use Rattle.chain_climb.specs.declared.want.Want.{Want}
use Rattle.chain_climb.specs.declared.want.Want.TheVariants.{Judge, Done}
use Rattle.chain_climb.specs.Climbs.{Need, Step, add, added, judge, need, with_chain}
use Rattle.chain_climb.specs.Elements.{Among}
use Rattle.chain_climb.specs.Sessions.{IsNext, IsNoChain, IsPageAnswer, Search as Searched, Wants, WantsPage, answer_to, answers_page, findings_of, want_of}
use Rattle.chain_climb.proofs.Elements.{among-right}
use Rattle.chain_climb.proofs.WalkLaws.{extends-self}
use Rattle.resolve_round.specs.declared.aim.Aim.{Aim}
use Rattle.resolve_round.specs.declared.trace.Search.{Search}
use Rattle.resolve_round.specs.declared.trace.Trace.{Trace}
use Rattle.resolve_round.specs.Answers.{AnswersTell, IsMadeBy, IsRuling}
use Rattle.resolve_round.specs.Courses.{Counts, Course, Stop, is_budget, pages_of, url_of}
use Rattle.resolve_search.specs.Driving.{Drives}
use Rattle.resolve_round.specs.Getting.{Point}
use Rattle.resolve_round.specs.Pages.{HasValidChain, PassesToMerge, Query, findings}
use Rattle.resolve_round.specs.Rounds.{Round, StopsAt, pages_in}
use Rattle.resolve_round.proofs.Following.{want-one}
use Rattle.resolve_round.proofs.SessionLaws.{session-round}

-- ---- answers

answer_by : (b : Bool) (a : PageAnswer) (o : Option PageAnswer) (pages : List PageAnswer) (r : Report) → (option_map (λ (y : PageAnswer). y.answer) o ≡ Some r → (x : PageAnswer) × Among x pages × (x.answer ≡ r))
    → option_map (λ (y : PageAnswer). y.answer) (cond b (Some a) o) ≡ Some r → (x : PageAnswer) × Among x (a ∷ pages) × (x.answer ≡ r)
answer_by true a o pages r later is = (a, inl refl, cc is)
answer_by false a o pages r later is = let rest = later is in (rest.0, inr rest.1, rest.2)

answer_among : (pages : List PageAnswer) (page : Need) (r : Report) → answer_to pages page ≡ Some r → (x : PageAnswer) × Among x pages × (x.answer ≡ r)
unfolding answer_to
answer_among [] page r is = cc is
answer_among (a ∷ pages) page r is = answer_by (answers_page page a) a (find (answers_page page) pages) pages r (answer_among pages page r) is

-- ---- the last step

-- nothing is left, or a path that may not be added
pub data Ending (s : Searched) (taken left : List Step) : Type 0 where
  nothing : left ≡ [] → Ending s taken left
  no_path : (path : Path) (rest : List Step) → left ≡ add path ∷ rest → length (added taken) ≡ s.bounds.paths → Ending s taken left

module _ (s : Searched) (answered : (a : PageAnswer) → Among a s.pages → IsPageAnswer a.answer) (none : (v : Verdict) → Among v s.verdicts → IsNoChain v.answer) where
  no_spent : (page : Need) → answer_to s.pages page ≡ Some Spent → ⊥
  no_spent page is = let a = answer_among s.pages page Spent is in subst IsPageAnswer a.2 (answered a.0 a.1)

  want_done : (page : Need) (end : End) → Done end ≡ want_of page → ⊥
  want_done page end is = absurd (want-one page end (sym is))

  no_page : (page : Need) (o : Option Report) (end : End) (taken : List Step) → answer_to s.pages page ≡ o → WantsPage s taken page o (Done end) → ⊥
  no_page page None end taken is wants = want_done page end wants
  no_page page (Some Spent) end taken is wants = no_spent page is
  no_page page (Some (Good x y)) end taken is wants = wants
  no_page page (Some (Useless y)) end taken is wants = wants
  no_page page (Some Fault) end taken is wants = wants

  judge_done : (path : Path) (end : End) → Done end ≡ Judge path → ⊥
  judge_done path end is = cc is

  no_valid : (verdicts : List Verdict) (path : Path) → s.verdicts ≡ verdicts ++ record { path = path; answer = Valid } ∷ [] → ⊥
  no_valid verdicts path is = none (record { path = path; answer = Valid }) (subst (Among (record { path = path; answer = Valid })) (sym is) (among-right _ verdicts (record { path = path; answer = Valid } ∷ []) (inl refl)))

  pub ending : (verdicts : List Verdict) (taken left : List Step) (end : End) → Wants s verdicts taken left (Done end) → Ending s taken left
  ending verdicts taken [] end wants = nothing refl
  ending verdicts taken (need page ∷ rest) end wants = absurd (no_page page (answer_to s.pages page) end taken refl wants.1)
  ending verdicts taken (judge path ∷ rest) end (inl w) = absurd (judge_done (with_chain path) end w.1)
  ending verdicts taken (judge path ∷ rest) end (inr w) = absurd (no_valid verdicts (with_chain path) w.0)
  ending verdicts taken (add path ∷ rest) end wants = no_path path rest refl wants.1

-- ---- the round

module _ (aim : Aim) (query : Query) (start : Trace) (s : Searched) (needs : List Need) (p : Point) (drives : Drives aim query start s needs p)
    (leaf : s.leaf ≡ query.entity) (anchor : s.anchor ≡ query.anchor) (bounds : s.bounds ≡ query.bounds) (most : query.bounds ≡ aim.bounds)
    (search : Search) (same_asks : search.asks ≡ p.search.asks) (same_calls : search.calls ≡ p.search.calls) (of : search.leaf ≡ query.entity) (counts : Counts search) where
  abbrev pub course_at : Stop → Course
  course_at stop = record { search = search; looks = aim.looks; needs = needs; stop = stop }

  pub tells : (stop : Stop) → AnswersTell query (course_at stop) s
  tells stop = record {
    leaf = leaf;
    anchor = anchor;
    bounds = bounds;
    pages = λ page answer gives ok. drives.pages page answer gives ok ∙ ap (λ l. findings (pages_of l) query.moment page) (sym same_asks);
    verdicts = λ v among path is. subst (λ l. IsRuling v.answer (PassesToMerge query (pages_of l) path) (HasValidChain query (pages_of l) path)) (sym same_asks) ((drives.verdicts v among).ruling path is);
  }

  pub made : (stop : Stop) (want : Want) (next : IsNext s want) → search.paths ≡ length (added next.taken) → search.ended ≡ is_budget stop
      → StopsAt query (HasValidChain query (pages_in (course_at stop))) (course_at stop) next.left stop → IsMadeBy query (course_at stop) next.taken next.left
  made stop want next paths ended stops = record {
    leaf = of;
    needs = sym ((drives.follows).are (findings_of s.pages) want (extends-self s.pages) next);
    asks = ap (map url_of) same_asks ∙ drives.asks;
    counts = counts;
    paths = paths;
    few_calls = subst (λ n. n ≤ query.bounds.calls) (sym same_calls) (subst (λ (b : Bounds). p.search.calls ≤ b.calls) (sym most) drives.few);
    ended = ended;
    stops = stops;
  }

  pub round-at : (stop : Stop) (want : Want) (next : IsNext s want) → search.paths ≡ length (added next.taken) → search.ended ≡ is_budget stop
      → StopsAt query (HasValidChain query (pages_in (course_at stop))) (course_at stop) next.left stop → Round query (course_at stop)
  round-at stop want next paths ended stops = session-round query (course_at stop) s want next (tells stop) (made stop want next paths ended stops)
