-- What follows from where a search stands: what it wants as a function, and what its end says.
use Rattle.std.proofs.Common.{◌≡◌, ◌≤◌, ◌<◌, lt-ltb, le-ltb, append_assoc, ◌+◌, ◌⊎◌, ℕ, suc, List, [], ◌∷◌, ◌++◌, length, Bool, true, false, cond, not, ◌&&◌, Option, Some, None, refl, sym, ap, ◌∙◌, subst, inl, inr, ⊎_elim, true≢false, bytes_eq, nat_lt, length-append, append-nil, arith}
use Rattle.std.specs.List.{list_any}
use Rattle.std.specs.Option.{option_and_then, option_map_or}
use Rattle.std.proofs.lemmas.List.Elements.{filter_map-append}
use Rattle.fed_json.proofs.Order.{equal-bytes_eq}
use Rattle.entity_statement.specs.Claims.{Claims, Identifier}
use Rattle.entity_statement.specs.Forms.{all_differ}
use Rattle.chain_climb.specs.declared.path.Path.{Path}
use Rattle.chain_climb.specs.declared.want.Want.{Want}
use Rattle.chain_climb.specs.declared.want.Want.TheVariants.{Config, Superior, Judge, Done}
use Rattle.chain_climb.specs.declared.want.End.{End}
use Rattle.chain_climb.specs.declared.want.End.TheVariants.{Found, NoLeaf, PolicyOnly, NoChain, Budget}
use Rattle.chain_climb.specs.declared.answer.Answer.{Answer}
use Rattle.chain_climb.specs.declared.answer.Answer.TheVariants.{Valid, PolicyFails, Invalid, Good as GoodAnswer, Useless as UselessAnswer, Fault as FaultAnswer, Spent as SpentAnswer}
use Rattle.chain_climb.specs.declared.answer.Report.{Report}
use Rattle.chain_climb.specs.declared.answer.Report.TheVariants.{Good, Useless, Fault, Spent}
use Rattle.chain_climb.specs.declared.answer.Verdict.{Verdict}
use Rattle.chain_climb.specs.declared.answer.PageAnswer.{PageAnswer}
use Rattle.chain_climb.specs.Climbs.{Findings, Need, Step, add, added, added_by, climb, configuration_of, judge, judged, judged_by, need, needed, page_named, with_chain}
use Rattle.chain_climb.specs.Elements.{Among, NoneTwice, Ordered}
use Rattle.chain_climb.specs.Ends.{FindsFirst, IsPlain, LeadsToAnchor, LeavesNone}
use Rattle.chain_climb.specs.Paths.{HintsDiffer, Precedes}
use Rattle.chain_climb.specs.Sessions.{AreJudged, Extends, IsAnswered, IsNext, IsNextBy, IsNoChain, IsPageAnswer, IsPlainEnd, Search, StandsBy, Wants, WantsPage, answer_to, calls_in, finding_in, findings_of, is_valid_answer, some_policy, want_of}
use Rattle.chain_climb.specs.Wants.{WantsNew, at_page, end_by, next_want, page_in, want_at}
use Rattle.chain_climb.proofs.ClimbLaws.{any-among}
use Rattle.chain_climb.proofs.Elements.{among-left, among-right, among-split, ordered-later}
use Rattle.chain_climb.proofs.FewLaws.{climb-few}
use Rattle.chain_climb.proofs.LevelLaws.{judged-ordered, judged-path, path-judged}
use Rattle.chain_climb.proofs.PrefixLaws.{Agree, SameHead, like-climb}
use Rattle.chain_climb.proofs.WalkLaws.{extends-self}

-- ---- tests

less_test : (n m : ℕ) → n < m → nat_lt n m ≡ true
less_test n m less = lt-ltb n m less

plus_none : (n : ℕ) → n ≡ n + 0
plus_none n = omega arith

none_plus : (n : ℕ) → 0 + n ≡ n
none_plus n = omega arith

plus_more : (n k : ℕ) → n + 1 + k ≡ n + suc k
plus_more n k = omega arith

same_test : (n m : ℕ) → n ≡ m → nat_lt n m ≡ false
same_test n m same = le-ltb n m (omega (arith, same))

not_valid : (answer : Answer) → IsNoChain answer → is_valid_answer answer ≡ false
not_valid PolicyFails no_chain = refl
not_valid Invalid no_chain = refl
not_valid Valid no_chain = absurd no_chain
not_valid (GoodAnswer own origin) no_chain = absurd no_chain
not_valid (UselessAnswer origin) no_chain = absurd no_chain
not_valid FaultAnswer no_chain = absurd no_chain
not_valid SpentAnswer no_chain = absurd no_chain

-- ---- wants of pages

abbrev page_want : Bool → Need → Want
page_want b page = cond b (Config page.issuer page.url) (Superior page.issuer page.subject page.url)

not_done : (b : Bool) (page : Need) (end : End) → Done end ≡ page_want b page → ⊥
not_done true page end is = cc is
not_done false page end is = cc is

page_by : (b : Bool) (page : Need) → bytes_eq page.issuer page.subject ≡ b → page_in (page_want b page) ≡ Some page
page_by true page same = ap (λ e. Some (page_named page.issuer e page.url)) (equal-bytes_eq page.issuer page.subject same)
page_by false page same = refl

pub page-in : (page : Need) → page_in (want_of page) ≡ Some page
page-in page = page_by (bytes_eq page.issuer page.subject) page refl

-- ---- verdicts

abbrev valid_verdict : Path → Verdict
valid_verdict path = record { path = path; answer = Valid }

judged-length : (verdicts : List Verdict) (paths : List Path) → AreJudged verdicts paths → length verdicts ≡ length paths
judged-length [] [] judged = refl
judged-length [] (path ∷ paths) judged = absurd judged
judged-length (v ∷ verdicts) [] judged = absurd judged
judged-length (v ∷ verdicts) (path ∷ paths) judged = ap (λ n. suc n) (judged-length verdicts paths judged.2)

abbrev Refuses : List Verdict → Path → Type 0
Refuses verdicts path = (verdict : Verdict) × Among verdict verdicts × (verdict.path ≡ with_chain path) × IsNoChain verdict.answer

judged-refuses : (verdicts : List Verdict) (paths : List Path) → AreJudged verdicts paths → (path : Path) → Among path paths → Refuses verdicts path
judged-refuses verdicts [] judged path among = absurd among
judged-refuses [] (p ∷ paths) judged path among = absurd judged
judged-refuses (v ∷ verdicts) (p ∷ paths) judged path (inl same) = (v, inl refl, judged.0 ∙ ap with_chain (sym same), judged.1)
judged-refuses (v ∷ verdicts) (p ∷ paths) judged path (inr among) =
    let rest = judged-refuses verdicts paths judged.2 path among in (rest.0, inr rest.1, rest.2, rest.3)

refuses-more : (verdicts more : List Verdict) (path : Path) → Refuses verdicts path → Refuses (verdicts ++ more) path
refuses-more verdicts more path (v, among, is, no_chain) = (v, among-left v verdicts more among, is, no_chain)

-- ---- hints

and-left : (a b : Bool) → (a && b) ≡ true → a ≡ true
and-left true b both = refl
and-left false b both = both

and-right : (a b : Bool) → (a && b) ≡ true → b ≡ true
and-right true b both = both
and-right false b both = absurd (true≢false (sym both))

differ-once : (ids : List Identifier) → all_differ ids ≡ true → NoneTwice ids
differ-once [] differ = tt
differ-once (id ∷ ids) differ = (
  λ among. true≢false (sym (and-left (not (list_any (bytes_eq id) ids)) (all_differ ids) differ) ∙ ap not (any-among id ids among)),
  differ-once ids (and-right (not (list_any (bytes_eq id) ids)) (all_differ ids) differ),
)

-- a statement hints no superior twice
hints_once : (o : Option Report) → NoneTwice (option_map_or (λ (own : Claims). own.hints) (option_and_then finding_in o) [])
hints_once None = tt
hints_once (Some (Good statement origin)) = differ-once statement.hints statement.once
hints_once (Some (Useless origin)) = tt
hints_once (Some Fault) = tt
hints_once (Some Spent) = tt

pub hints-once : (pages : List PageAnswer) → HintsDiffer (findings_of pages)
unfolding findings_of
hints-once pages entity = hints_once (answer_to pages (configuration_of entity))

module _ (s : Search) where
  abbrev found : Findings
  found = findings_of s.pages

  abbrev whole : List Step
  whole = climb found s.leaf s.anchor s.bounds.depth

  -- ---- what is wanted is a function of the answers

  good_passed : (paths : ℕ) (page : Need) (later : Want) (answer : Report) → IsPageAnswer answer → at_page s paths page (Some answer) later ≡ later
  good_passed paths page later (Good statement origin) good = refl
  good_passed paths page later (Useless origin) good = refl
  good_passed paths page later Fault good = refl
  good_passed paths page later Spent good = absurd good

  page_passed : (paths : ℕ) (page : Need) (later : Want) → IsAnswered s.pages page → at_page s paths page (answer_to s.pages page) later ≡ later
  page_passed paths page later (answer, is, good) = ap (λ o. at_page s paths page o later) is ∙ good_passed paths page later answer good

  passed : (taken left : List Step) (n : ℕ) (earlier more : List Verdict) → ((page : Need) → Among page (needed taken) → IsAnswered s.pages page) → AreJudged earlier (judged taken)
      → n + length (added taken) ≤ s.bounds.paths → want_at s n (earlier ++ more) (taken ++ left) ≡ want_at s (n + length (added taken)) more left
  unfolding want_at
  passed [] left n [] more answered judged room = ap (λ m. want_at s m more left) (plus_none n)
  passed [] left n (v ∷ earlier) more answered judged room = absurd judged
  passed (need page ∷ taken) left n earlier more answered judged room =
      page_passed n page (want_at s n (earlier ++ more) (taken ++ left)) (answered page (inl refl))
      ∙ passed taken left n earlier more (λ p among. answered p (inr among)) judged room
  passed (add path ∷ taken) left n earlier more answered judged room =
      ap (λ b. cond b (want_at s (n + 1) (earlier ++ more) (taken ++ left)) (Done (Budget (calls_in s.pages) n))) (less_test n s.bounds.paths (omega (arith, room)))
      ∙ passed taken left (n + 1) earlier more answered judged (omega (arith, room))
      ∙ ap (λ m. want_at s m more left) (plus_more n (length (added taken)))
  passed (judge path ∷ taken) left n [] more answered judged room = absurd judged
  passed (judge path ∷ taken) left n (v ∷ earlier) more answered judged room =
      ap (λ b. cond b (Done (Found (with_chain path))) (want_at s n (earlier ++ more) (taken ++ left))) (not_valid v.answer judged.1)
      ∙ passed taken left n earlier more answered judged.2 room

  to_left : (taken left : List Step) (verdicts more : List Verdict) → StandsBy found s verdicts taken left → s.verdicts ≡ verdicts ++ more → next_want s ≡ want_at s (length (added taken)) more left
  unfolding next_want
  to_left taken left verdicts more stands is =
      ap (want_at s 0 s.verdicts) stands.steps
      ∙ ap (λ vs. want_at s 0 vs (taken ++ left)) is
      ∙ passed taken left 0 verdicts more stands.answered stands.invalid (let room = stands.room in omega (arith, room))
      ∙ ap (λ m. want_at s m more left) (none_plus (length (added taken)))

  end_is : (o : Option Claims) (policy : Bool) (end : End) → found (configuration_of s.leaf) ≡ o → some_policy s.verdicts ≡ policy → IsPlainEnd s end → end ≡ end_by o policy
  end_is None policy NoLeaf known some is = refl
  end_is (Some own) policy NoLeaf known some is = absurd (let e : Some own ≡ None = sym known ∙ is in cc e)
  end_is None policy PolicyOnly known some is = absurd (is.0 known)
  end_is (Some own) true PolicyOnly known some is = refl
  end_is (Some own) false PolicyOnly known some is = absurd (true≢false (sym is.1 ∙ some))
  end_is None policy NoChain known some is = absurd (is.0 known)
  end_is (Some own) true NoChain known some is = absurd (true≢false (sym some ∙ is.1))
  end_is (Some own) false NoChain known some is = refl
  end_is o policy (Found path) known some is = absurd is
  end_is o policy (Budget calls paths) known some is = absurd is

  page_is : (taken : List Step) (page : Need) (o : Option Report) (want later : Want) → WantsPage s taken page o want → want ≡ at_page s (length (added taken)) page o later
  page_is taken page None want later is = is
  page_is taken page (Some Spent) want later is = is
  page_is taken page (Some (Good statement origin)) want later is = absurd is
  page_is taken page (Some (Useless origin)) want later is = absurd is
  page_is taken page (Some Fault) want later is = absurd is

  at_left : (taken left : List Step) (verdicts : List Verdict) (want : Want) → StandsBy found s verdicts taken left → Wants s verdicts taken left want → want ≡ next_want s
  unfolding want_at
  at_left taken [] verdicts want stands wants =
      wants.1.1
      ∙ ap (λ e. Done e) (end_is (found (configuration_of s.leaf)) (some_policy s.verdicts) wants.1.0 refl refl wants.1.2)
      ∙ sym (to_left taken [] verdicts [] stands (wants.0 ∙ sym (append-nil verdicts)))
  at_left taken (need page ∷ left) verdicts want stands wants =
      page_is taken page (answer_to s.pages page) want (want_at s (length (added taken)) [] left) wants.1
      ∙ sym (to_left taken (need page ∷ left) verdicts [] stands (wants.0 ∙ sym (append-nil verdicts)))
  at_left taken (add path ∷ left) verdicts want stands wants =
      wants.2
      ∙ sym (ap (λ b. cond b (want_at s (length (added taken) + 1) [] left) (Done (Budget (calls_in s.pages) (length (added taken))))) (same_test (length (added taken)) s.bounds.paths wants.1))
      ∙ sym (to_left taken (add path ∷ left) verdicts [] stands (wants.0 ∙ sym (append-nil verdicts)))
  at_left taken (judge path ∷ left) verdicts want stands (inl (same, is)) =
      is ∙ sym (to_left taken (judge path ∷ left) verdicts [] stands (same ∙ sym (append-nil verdicts)))
  at_left taken (judge path ∷ left) verdicts want stands (inr (same, is)) =
      is ∙ sym (to_left taken (judge path ∷ left) verdicts (valid_verdict (with_chain path) ∷ []) stands same)

  pub next-is : (want : Want) → IsNext s want → want ≡ next_want s
  next-is want next = at_left next.taken next.left next.verdicts want next.stands next.wants

  -- ---- a page that is wanted is new

  new_page : (other page : Need) (o : Option Report) (taken : List Step) (want : Want) → answer_to s.pages other ≡ o → WantsPage s taken other o want → page_in want ≡ Some page → answer_to s.pages page ≡ None
  new_page other page None taken want known is same =
      let e : Some other ≡ Some page = sym (page-in other) ∙ ap page_in (sym is) ∙ same in
      let f : other ≡ page = cc e in
      ap (answer_to s.pages) (sym f) ∙ known
  new_page other page (Some Spent) taken want known is same = absurd (let e : None ≡ Some page = ap page_in (sym is) ∙ same in cc e)
  new_page other page (Some (Good statement origin)) taken want known is same = absurd is
  new_page other page (Some (Useless origin)) taken want known is same = absurd is
  new_page other page (Some Fault) taken want known is same = absurd is

  new_at : (taken left : List Step) (verdicts : List Verdict) (want : Want) → Wants s verdicts taken left want → (page : Need) → page_in want ≡ Some page → answer_to s.pages page ≡ None
  new_at taken [] verdicts want wants page same = absurd (let e : None ≡ Some page = ap page_in (sym wants.1.1) ∙ same in cc e)
  new_at taken (need other ∷ left) verdicts want wants page same = new_page other page (answer_to s.pages other) taken want refl wants.1 same
  new_at taken (add path ∷ left) verdicts want wants page same = absurd (let e : None ≡ Some page = ap page_in (sym wants.2) ∙ same in cc e)
  new_at taken (judge path ∷ left) verdicts want (inl (verdicts_are, is)) page same = absurd (let e : None ≡ Some page = ap page_in (sym is) ∙ same in cc e)
  new_at taken (judge path ∷ left) verdicts want (inr (verdicts_are, is)) page same = absurd (let e : None ≡ Some page = ap page_in (sym is) ∙ same in cc e)

  pub next-new : (want : Want) → IsNext s want → WantsNew s want
  next-new want next = new_at next.taken next.left next.verdicts want next.wants

  -- ---- later answers change nothing

  head_wants : (x : Step) (taken xs ys : List Step) (verdicts : List Verdict) (want : Want) → Wants s verdicts taken (x ∷ xs) want → Wants s verdicts taken (x ∷ ys) want
  head_wants (need page) taken xs ys verdicts want wants = wants
  head_wants (add path) taken xs ys verdicts want wants = wants
  head_wants (judge path) taken xs ys verdicts want wants = wants

  same_wants : (taken xs ys : List Step) (verdicts : List Verdict) (want : Want) → SameHead xs ys → Wants s verdicts taken xs want → Wants s verdicts taken ys want
  same_wants taken [] [] verdicts want same wants = wants
  same_wants taken [] (y ∷ ys) verdicts want same wants = absurd same
  same_wants taken (x ∷ xs) [] verdicts want same wants = absurd same
  same_wants taken (x ∷ xs) (y ∷ ys) verdicts want same wants =
      head_wants y taken xs ys verdicts want (subst (λ z. Wants s verdicts taken (z ∷ xs) want) same wants)

  pub next-stays : (want : Want) → IsNext s want → (later : Findings) → Extends later s.pages → IsNextBy later s want
  next-stays want next later extends =
      let agree : Agree found later next.taken = (λ page among. let a = next.stands.answered page among in (extends-self s.pages).agrees page a.0 a.1 a.2 ∙ sym (extends.agrees page a.0 a.1 a.2)) in
      let rest = like-climb found later s.anchor s.bounds.depth s.leaf next.taken next.left next.stands.steps agree in
      record {
        taken = next.taken;
        left = rest.0;
        verdicts = next.verdicts;
        stands = record { steps = rest.1; answered = next.stands.answered; invalid = next.stands.invalid; room = next.stands.room };
        wants = same_wants next.taken next.left rest.0 next.verdicts want rest.2 next.wants;
      }

  -- ---- an end without a valid path

  plain_budget : (end : End) (calls paths : ℕ) → IsPlain end → Done (Budget calls paths) ≡ Done end → ⊥
  plain_budget end calls paths plain same = let e : Budget calls paths ≡ end = cc same in subst IsPlain (sym e) plain

  plain_page : (end : End) (page : Need) (o : Option Report) (taken : List Step) (want : Want) → IsPlain end → want ≡ Done end → WantsPage s taken page o want → ⊥
  plain_page end page None taken want plain same is = not_done (bytes_eq page.issuer page.subject) page end (sym same ∙ is)
  plain_page end page (Some Spent) taken want plain same is = plain_budget end (calls_in s.pages) (length (added taken)) plain (sym is ∙ same)
  plain_page end page (Some (Good statement origin)) taken want plain same is = is
  plain_page end page (Some (Useless origin)) taken want plain same is = is
  plain_page end page (Some Fault) taken want plain same is = is

  none_left : (taken left : List Step) (verdicts : List Verdict) (want : Want) (end : End) → Wants s verdicts taken left want → want ≡ Done end → IsPlain end → (left ≡ []) × (s.verdicts ≡ verdicts)
  none_left taken [] verdicts want end wants same plain = (refl, wants.0)
  none_left taken (need page ∷ left) verdicts want end wants same plain = absurd (plain_page end page (answer_to s.pages page) taken want plain same wants.1)
  none_left taken (add path ∷ left) verdicts want end wants same plain = absurd (plain_budget end (calls_in s.pages) (length (added taken)) plain (sym wants.2 ∙ same))
  none_left taken (judge path ∷ left) verdicts want end (inl (verdicts_are, is)) same plain = absurd (let e : Judge (with_chain path) ≡ Done end = sym is ∙ same in cc e)
  none_left taken (judge path ∷ left) verdicts want end (inr (verdicts_are, is)) same plain =
      absurd (let e : Done (Found (with_chain path)) ≡ Done end = sym is ∙ same in let f : Found (with_chain path) ≡ end = cc e in subst IsPlain (sym f) plain)

  pub next-complete : (want : Want) → IsNext s want → LeavesNone s want
  next-complete want next end same plain path leads =
      let none = none_left next.taken next.left next.verdicts want end next.wants same plain in
      let steps : whole ≡ next.taken = next.stands.steps ∙ ap (λ l. next.taken ++ l) none.0 ∙ append-nil next.taken in
      let among : Among path (judged next.taken) = subst (λ l. Among path (judged l)) steps (path-judged found s.leaf s.anchor s.bounds.depth path leads.0 leads.1) in
      subst (λ vs. Refuses vs path) (sym none.1) (judged-refuses next.verdicts (judged next.taken) next.stands.invalid path among)

  -- ---- the path that is found

  abbrev FoundAt : List Verdict → List Step → Path → Type 0
  FoundAt verdicts left chain =
      (path : Path) × (rest : List Step) × (left ≡ judge path ∷ rest) × (chain ≡ with_chain path) × (s.verdicts ≡ verdicts ++ valid_verdict (with_chain path) ∷ [])

  found_page : (page : Need) (o : Option Report) (taken : List Step) (want : Want) (chain : Path) → want ≡ Done (Found chain) → WantsPage s taken page o want → ⊥
  found_page page None taken want chain same is = not_done (bytes_eq page.issuer page.subject) page (Found chain) (sym same ∙ is)
  found_page page (Some Spent) taken want chain same is = let e : Done (Budget (calls_in s.pages) (length (added taken))) ≡ Done (Found chain) = sym is ∙ same in cc e
  found_page page (Some (Good statement origin)) taken want chain same is = is
  found_page page (Some (Useless origin)) taken want chain same is = is
  found_page page (Some Fault) taken want chain same is = is

  found_at : (taken left : List Step) (verdicts : List Verdict) (want : Want) (chain : Path) → Wants s verdicts taken left want → want ≡ Done (Found chain) → FoundAt verdicts left chain
  found_at taken [] verdicts want chain wants same =
      absurd (let e : Done wants.1.0 ≡ Done (Found chain) = sym wants.1.1 ∙ same in let f : wants.1.0 ≡ Found chain = cc e in subst (IsPlainEnd s) f wants.1.2)
  found_at taken (need page ∷ left) verdicts want chain wants same = absurd (found_page page (answer_to s.pages page) taken want chain same wants.1)
  found_at taken (add path ∷ left) verdicts want chain wants same =
      absurd (let e : Done (Budget (calls_in s.pages) (length (added taken))) ≡ Done (Found chain) = sym wants.2 ∙ same in cc e)
  found_at taken (judge path ∷ left) verdicts want chain (inl (verdicts_are, is)) same = absurd (let e : Judge (with_chain path) ≡ Done (Found chain) = sym is ∙ same in cc e)
  found_at taken (judge path ∷ left) verdicts want chain (inr (verdicts_are, is)) same =
      (path, left, refl, (let e : Done (Found (with_chain path)) ≡ Done (Found chain) = sym is ∙ same in let f : with_chain path ≡ chain = cc e in sym f), verdicts_are)

  pub next-first : (want : Want) → IsNext s want → FindsFirst s want
  next-first want next chain same =
      let at : FoundAt next.verdicts next.left chain = found_at next.taken next.left next.verdicts want chain next.wants same in
      let path : Path = at.0 in
      let steps : judged whole ≡ judged next.taken ++ path ∷ judged at.1 =
      ap judged (next.stands.steps ∙ ap (λ l. next.taken ++ l) at.2) ∙ filter_map-append judged_by next.taken (judge path ∷ at.1) in
      let here : Among path (judged whole) = subst (Among path) (sym steps) (among-right path (judged next.taken) (path ∷ judged at.1) (inl refl)) in
      let leads : LeadsToAnchor s path = judged-path found s.leaf s.anchor s.bounds.depth path here in
      let ordered = subst (Ordered (Precedes found)) steps
      (judged-ordered found s.leaf s.anchor s.bounds.depth (hints-once s.pages)) in
      record {
        path = path;
        is_chain = at.3;
        leads = leads;
        valid = subst (λ vs. Among (valid_verdict chain) vs) (sym at.4)
            (among-right (valid_verdict chain) next.verdicts (valid_verdict (with_chain path) ∷ [])
            (inl (ap valid_verdict at.3)));
        first = λ other also.
            let among : Among other (judged next.taken ++ path ∷ judged at.1) = subst (Among other) steps (path-judged found s.leaf s.anchor s.bounds.depth other also.0 also.1) in
            ⊎_elim
            (λ (front : Among other (judged next.taken)). inl (subst (λ vs. Refuses vs other) (sym at.4)
            (refuses-more next.verdicts (valid_verdict (with_chain path) ∷ []) other (judged-refuses next.verdicts (judged next.taken) next.stands.invalid other front))))
            (λ (back : (other ≡ path) ⊎ Among other (judged at.1)). ⊎_elim (λ (one : other ≡ path). inr (inl one)) (λ (later : Among other (judged at.1)). inr (inr (ordered-later (Precedes found) (judged next.taken) path (judged at.1) ordered other later))) back)
            (among-split other (judged next.taken) (path ∷ judged at.1) among);
      }

  -- ---- no more verdicts than paths

  few_same : (taken left : List Step) (verdicts : List Verdict) → StandsBy found s verdicts taken left → s.verdicts ≡ verdicts → length s.verdicts ≤ length (added taken)
  few_same taken left verdicts stands same =
      let few = climb-few found s.anchor s.bounds.depth s.leaf taken left stands.steps in
      let v = judged-length verdicts (judged taken) stands.invalid in
      let e = ap length same in
      omega (arith, few, v, e)

  few_at : (taken left : List Step) (verdicts : List Verdict) (want : Want) → StandsBy found s verdicts taken left → Wants s verdicts taken left want → length s.verdicts ≤ length (added taken)
  few_at taken [] verdicts want stands wants = few_same taken [] verdicts stands wants.0
  few_at taken (need page ∷ left) verdicts want stands wants = few_same taken (need page ∷ left) verdicts stands wants.0
  few_at taken (add path ∷ left) verdicts want stands wants = few_same taken (add path ∷ left) verdicts stands wants.0
  few_at taken (judge path ∷ left) verdicts want stands (inl (same, is)) = few_same taken (judge path ∷ left) verdicts stands same
  few_at taken (judge path ∷ left) verdicts want stands (inr (same, is)) =
      let few = climb-few found s.anchor s.bounds.depth s.leaf (taken ++ judge path ∷ []) left (stands.steps ∙ sym (append_assoc taken (judge path ∷ []) left)) in
      let j = ap length (filter_map-append judged_by taken (judge path ∷ [])) in
      let k = length-append (judged taken) (path ∷ []) in
      let a = ap length (filter_map-append added_by taken (judge path ∷ [])) in
      let b = length-append (added taken) [] in
      let v = judged-length verdicts (judged taken) stands.invalid in
      let e = ap length same in
      let f = length-append verdicts (valid_verdict (with_chain path) ∷ []) in
      omega (arith, few, j, k, a, b, v, e, f)

  pub next-few : (want : Want) → IsNext s want → length s.verdicts ≤ s.bounds.paths
  next-few want next = let few = few_at next.taken next.left next.verdicts want next.stands next.wants in let room = next.stands.room in omega (arith, few, room)
