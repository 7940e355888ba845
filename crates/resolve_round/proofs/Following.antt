-- The first needs of the steps that are done, from one answer to the next.
use Rattle.std.proofs.Common.{◌≡◌, ◌≤◌, ◌+◌, ℕ, List, [], ◌∷◌, ◌++◌, length, map, Bool, true, false, cond, Option, Some, None, refl, sym, ap, ◌∙◌, subst, inl, inr, ⊎_elim, ◌⊎◌, length-append, arith, bytes_eq}
use Rattle.std.specs.List.{list_any}
use Rattle.std.proofs.lemmas.List.Elements.{filter_map-append}
use Rattle.chain_climb.specs.declared.path.Path.{Path}
use Rattle.chain_climb.specs.declared.answer.Report.{Report}
use Rattle.chain_climb.specs.declared.answer.Report.TheVariants.{Good, Useless, Fault, Spent}
use Rattle.chain_climb.specs.declared.answer.Answer.TheVariants.{Valid}
use Rattle.chain_climb.specs.declared.answer.Verdict.{Verdict}
use Rattle.chain_climb.specs.declared.want.Bounds.{Bounds}
use Rattle.chain_climb.specs.declared.want.End.{End}
use Rattle.chain_climb.specs.declared.want.Want.{Want}
use Rattle.chain_climb.specs.declared.want.Want.TheVariants.{Judge, Done}
use Rattle.chain_climb.specs.Climbs.{Findings, Need, Step, add, added, added_by, climb, judge, judged, judged_by, need, needed, needed_by, with_chain}
use Rattle.chain_climb.specs.Elements.{Among}
use Rattle.chain_climb.specs.Sessions.{AreJudged, IsAnswered, IsNextBy, IsNoChain, IsPageAnswer, Search, Wants, WantsPage, answer_to, want_of}
use Rattle.chain_climb.specs.Wants.{page_in}
use Rattle.chain_climb.proofs.ClimbLaws.{among-any, any-among, both_ways}
use Rattle.chain_climb.proofs.Elements.{among-right}
use Rattle.chain_climb.proofs.EndLaws.{page-in}
use Rattle.resolve_round.specs.Courses.{first_after}
use Rattle.resolve_round.specs.Rounds.{need_url}
use Rattle.resolve_round.proofs.Elements.{among-filter_map}
use Rattle.resolve_round.proofs.StopLaws.{Cuts, ahead, among-step, behind, cuts, same}

-- ---- first needs

abbrev pick : Bool → List (List ℕ) → Need → List Need → List Need
pick b earlier page pages = cond b (first_after earlier pages) (page ∷ first_after (page.url ∷ earlier) pages)

-- the URL stands in one of the two lists
abbrev Met : List (List ℕ) → List Need → Need → Type 0
Met earlier xs page = Among page.url earlier ⊎ Among page.url (map need_url xs)

met-moved : (earlier : List (List ℕ)) (x : Need) (xs : List Need) (page : Need) → Met earlier (x ∷ xs) page → Met (x.url ∷ earlier) xs page
met-moved earlier x xs page (inl before) = inl (inr before)
met-moved earlier x xs page (inr (inl eq)) = inl (inl eq)
met-moved earlier x xs page (inr (inr after)) = inr after

met-known : (earlier : List (List ℕ)) (x : Need) (xs : List Need) (page : Need) → Among x.url earlier → Met earlier (x ∷ xs) page → Met earlier xs page
met-known earlier x xs page known (inl before) = inl before
met-known earlier x xs page known (inr (inl eq)) = inl (subst (λ u. Among u earlier) (sym eq) known)
met-known earlier x xs page known (inr (inr after)) = inr after

module _ (ys : List Need) where
  settled_by : (b : Bool) (earlier : List (List ℕ)) (y : Need) (rest : List Need) → list_any (bytes_eq y.url) earlier ≡ b → Among y.url earlier → first_after earlier rest ≡ [] → pick b earlier y rest ≡ []
  settled_by true earlier y rest is there later = later
  settled_by false earlier y rest is there later = absurd (both_ways (list_any (bytes_eq y.url) earlier) (any-among y.url earlier there) is)

-- pages whose URLs were all met give no first need
first-settled : (earlier : List (List ℕ)) (ys : List Need) → ((y : Need) → Among y ys → Among y.url earlier) → first_after earlier ys ≡ []
first-settled earlier [] met = refl
first-settled earlier (y ∷ ys) met =
    settled_by ys (list_any (bytes_eq y.url) earlier) earlier y ys refl (met y (inl refl)) (first-settled earlier ys (λ z among. met z (inr among)))

none-left : (earlier : List (List ℕ)) (y : Need) → Met earlier [] y → Among y.url earlier
none-left earlier y (inl before) = before
none-left earlier y (inr none) = absurd none

same_by : (b : Bool) (earlier : List (List ℕ)) (x : Need) (xs ys : List Need) → list_any (bytes_eq x.url) earlier ≡ b
    → (Among x.url earlier → first_after earlier (xs ++ ys) ≡ first_after earlier xs) → (first_after (x.url ∷ earlier) (xs ++ ys) ≡ first_after (x.url ∷ earlier) xs)
    → pick b earlier x (xs ++ ys) ≡ pick b earlier x xs
same_by true earlier x xs ys is known new = known (among-any x.url earlier is)
same_by false earlier x xs ys is known new = ap (λ l. x ∷ l) new

-- what follows adds none, where all its URLs were met
pub first-same : (earlier : List (List ℕ)) (xs ys : List Need) → ((y : Need) → Among y ys → Met earlier xs y) → first_after earlier (xs ++ ys) ≡ first_after earlier xs
first-same earlier [] ys met = first-settled earlier ys (λ y among. none-left earlier y (met y among))
first-same earlier (x ∷ xs) ys met =
    same_by (list_any (bytes_eq x.url) earlier) earlier x xs ys refl
    (λ known. first-same earlier xs ys (λ y among. met-known earlier x xs y known (met y among)))
    (first-same (x.url ∷ earlier) xs ys (λ y among. met-moved earlier x xs y (met y among)))

new_here : (b : Bool) (earlier : List (List ℕ)) (p : Need) (ys : List Need) → list_any (bytes_eq p.url) earlier ≡ b → ¬ Among p.url earlier → first_after (p.url ∷ earlier) ys ≡ [] → pick b earlier p ys ≡ p ∷ []
new_here true earlier p ys is new rest = absurd (new (among-any p.url earlier is))
new_here false earlier p ys is new rest = ap (λ l. p ∷ l) rest

one_by : (b : Bool) (earlier : List (List ℕ)) (x p : Need) (xs ys : List Need) → list_any (bytes_eq x.url) earlier ≡ b
    → (Among x.url earlier → first_after earlier (xs ++ p ∷ ys) ≡ first_after earlier xs ++ p ∷ []) → (first_after (x.url ∷ earlier) (xs ++ p ∷ ys) ≡ first_after (x.url ∷ earlier) xs ++ p ∷ [])
    → pick b earlier x (xs ++ p ∷ ys) ≡ pick b earlier x xs ++ p ∷ []
one_by true earlier x p xs ys is known new = known (among-any x.url earlier is)
one_by false earlier x p xs ys is known new = ap (λ l. x ∷ l) new

after-or : (earlier : List (List ℕ)) (p y : Need) (xs : List Need) → (Met earlier xs y ⊎ (y.url ≡ p.url)) → (xs ≡ []) → Among y.url (p.url ∷ earlier)
after-or earlier p y xs (inl (inl before)) none = inr before
after-or earlier p y xs (inl (inr after)) none = absurd (subst (λ l. Among y.url (map need_url l)) none after)
after-or earlier p y xs (inr eq) none = inl eq

or-moved : (earlier : List (List ℕ)) (p x y : Need) (xs : List Need) → (Met earlier (x ∷ xs) y ⊎ (y.url ≡ p.url)) → Met (x.url ∷ earlier) xs y ⊎ (y.url ≡ p.url)
or-moved earlier p x y xs (inl met) = inl (met-moved earlier x xs y met)
or-moved earlier p x y xs (inr eq) = inr eq

or-known : (earlier : List (List ℕ)) (p x y : Need) (xs : List Need) → Among x.url earlier → (Met earlier (x ∷ xs) y ⊎ (y.url ≡ p.url)) → Met earlier xs y ⊎ (y.url ≡ p.url)
or-known earlier p x y xs known (inl met) = inl (met-known earlier x xs y known met)
or-known earlier p x y xs known (inr eq) = inr eq

-- a page with a new URL adds one, and what follows it none, where all its URLs were met
pub first-one : (earlier : List (List ℕ)) (xs : List Need) (p : Need) (ys : List Need) → ¬ Met earlier xs p → ((y : Need) → Among y ys → Met earlier xs y ⊎ (y.url ≡ p.url))
    → first_after earlier (xs ++ p ∷ ys) ≡ first_after earlier xs ++ p ∷ []
first-one earlier [] p ys new met =
    new_here (list_any (bytes_eq p.url) earlier) earlier p ys refl (λ before. new (inl before)) (first-settled (p.url ∷ earlier) ys (λ y among. after-or earlier p y [] (met y among) refl))
first-one earlier (x ∷ xs) p ys new met =
    one_by (list_any (bytes_eq x.url) earlier) earlier x p xs ys refl
    (λ known. first-one earlier xs p ys (λ m. new (⊎_elim (λ before. inl before) (λ after. inr (inr after)) m)) (λ y among. or-known earlier p x y xs known (met y among)))
    (first-one (x.url ∷ earlier) xs p ys (λ m. new (back m)) (λ y among. or-moved earlier p x y xs (met y among)))
  where
    back : Met (x.url ∷ earlier) xs p → Met earlier (x ∷ xs) p
    back (inl (inl eq)) = inr (inl eq)
    back (inl (inr before)) = inl before
    back (inr after) = inr (inr after)

-- ---- verdicts

judged-length : (verdicts : List Verdict) (paths : List Path) → AreJudged verdicts paths → length verdicts ≡ length paths
judged-length [] [] judged = refl
judged-length [] (p ∷ paths) judged = absurd judged
judged-length (v ∷ verdicts) [] judged = absurd judged
judged-length (v ∷ verdicts) (p ∷ paths) judged = let rest = judged-length verdicts paths judged.2 in omega (arith, rest)

-- ---- what is wanted

pub want-one : (page : Need) (end : End) → want_of page ≡ Done end → ⊥
want-one page end eq = let none : Some page ≡ None = sym (page-in page) ∙ ap page_in eq in cc none

want-judge : (page : Need) (path : Path) → want_of page ≡ Judge path → ⊥
want-judge page path eq = let none : Some page ≡ None = sym (page-in page) ∙ ap page_in eq in cc none

want-same : (page other : Need) → want_of page ≡ want_of other → page ≡ other
want-same page other eq = let one : Some page ≡ Some other = sym (page-in page) ∙ ap page_in eq ∙ page-in other in cc one

-- the step at which a page is wanted
pub record AtPage (s : Search) (verdicts : List Verdict) (page : Need) (left : List Step) : Type 0 where
  pub rest : List Step
  pub is_left : left ≡ need page ∷ rest
  pub are : s.verdicts ≡ verdicts
  pub new : answer_to s.pages page ≡ None

page_at : (s : Search) (verdicts : List Verdict) (taken rest : List Step) (page q : Need) (o : Option Report) → answer_to s.pages q ≡ o → s.verdicts ≡ verdicts → WantsPage s taken q o (want_of page) → AtPage s verdicts page (need q ∷ rest)
page_at s verdicts taken rest page q None is are wants =
    let one : page ≡ q = want-same page q wants in
    record { rest = rest; is_left = ap (λ x. need x ∷ rest) (sym one); are = are; new = subst (λ x. answer_to s.pages x ≡ None) (sym one) is }
page_at s verdicts taken rest page q (Some Spent) is are wants = absurd (want-one page _ wants)
page_at s verdicts taken rest page q (Some (Good x y)) is are wants = absurd wants
page_at s verdicts taken rest page q (Some (Useless y)) is are wants = absurd wants
page_at s verdicts taken rest page q (Some Fault) is are wants = absurd wants

pub at-page : (s : Search) (verdicts : List Verdict) (taken left : List Step) (page : Need) → Wants s verdicts taken left (want_of page) → AtPage s verdicts page left
at-page s verdicts taken [] page wants = absurd (want-one page wants.1.0 wants.1.1)
at-page s verdicts taken (need q ∷ rest) page wants = page_at s verdicts taken rest page q (answer_to s.pages q) refl wants.0 wants.1
at-page s verdicts taken (judge path ∷ rest) page (inl w) = absurd (want-judge page (with_chain path) w.1)
at-page s verdicts taken (judge path ∷ rest) page (inr w) = absurd (want-one page _ w.1)
at-page s verdicts taken (add path ∷ rest) page wants = absurd (want-one page _ wants.2)

-- the step at which a verdict is wanted
pub record AtPath (s : Search) (verdicts : List Verdict) (chain : Path) (left : List Step) : Type 0 where
  pub path : Path
  pub rest : List Step
  pub is_left : left ≡ judge path ∷ rest
  pub are : s.verdicts ≡ verdicts
  pub is : chain ≡ with_chain path

judge_page : (s : Search) (taken : List Step) (q : Need) (chain : Path) (o : Option Report) → WantsPage s taken q o (Judge chain) → ⊥
judge_page s taken q chain None wants = want-judge q chain (sym wants)
judge_page s taken q chain (Some Spent) wants = cc wants
judge_page s taken q chain (Some (Good x y)) wants = wants
judge_page s taken q chain (Some (Useless y)) wants = wants
judge_page s taken q chain (Some Fault) wants = wants

path-is : (a b : Path) → Judge a ≡ Judge b → a ≡ b
path-is a b eq = cc eq

judge-done : (a : Path) (end : End) → Judge a ≡ Done end → ⊥
judge-done a end eq = cc eq

pub at-path : (s : Search) (verdicts : List Verdict) (taken left : List Step) (chain : Path) → Wants s verdicts taken left (Judge chain) → AtPath s verdicts chain left
at-path s verdicts taken [] chain wants = absurd (judge-done chain wants.1.0 wants.1.1)
at-path s verdicts taken (need q ∷ rest) chain wants = absurd (judge_page s taken q chain (answer_to s.pages q) wants.1)
at-path s verdicts taken (judge path ∷ rest) chain (inl w) = record { path = path; rest = rest; is_left = refl; are = w.0; is = path-is chain (with_chain path) w.1 }
at-path s verdicts taken (judge path ∷ rest) chain (inr w) = absurd (judge-done chain _ w.1)
at-path s verdicts taken (add path ∷ rest) chain wants = absurd (judge-done chain _ wants.2)

-- ---- two searches, of which the second has one answer more

module _ (found : Findings) (s s2 : Search) (want later : Want) (next : IsNextBy found s want) (after : IsNextBy found s2 later)
    (leaf : s2.leaf ≡ s.leaf) (anchor : s2.anchor ≡ s.anchor) (bounds : s2.bounds ≡ s.bounds)
    (kept : (page : Need) (answer : Report) → answer_to s.pages page ≡ Some answer → answer_to s2.pages page ≡ Some answer)
    (none : (v : Verdict) → Among v s2.verdicts → IsNoChain v.answer) where
  one-climb : next.taken ++ next.left ≡ after.taken ++ after.left
  one-climb =
      sym next.stands.steps
      ∙ ap (λ e. climb found e s.anchor s.bounds.depth) (sym leaf)
      ∙ ap (λ e. climb found s2.leaf e s.bounds.depth) (sym anchor)
      ∙ ap (λ (b : Bounds). climb found s2.leaf s2.anchor b.depth) (sym bounds)
      ∙ after.stands.steps

  step_among : (step : Step) (more : List Step) → next.taken ≡ after.taken ++ step ∷ more → Among step next.taken
  step_among step more is = subst (Among step) (sym is) (among-step after.taken more step)

  page_stop : (o : Option Report) (answer : Report) (q : Need) (taken : List Step) → o ≡ Some answer → IsPageAnswer answer → WantsPage s2 taken q o later → ⊥
  page_stop None answer q taken is ok wants = let f : None ≡ Some answer = is in cc f
  page_stop (Some Spent) answer q taken is ok wants = let one : Spent ≡ answer = cc is in subst IsPageAnswer (sym one) ok
  page_stop (Some (Good x y)) answer q taken is ok wants = wants
  page_stop (Some (Useless y)) answer q taken is ok wants = wants
  page_stop (Some Fault) answer q taken is ok wants = wants

  -- a page that was answered isn't the next need
  no_page : (q : Need) (rest : List Step) → IsAnswered s.pages q → Wants s2 after.verdicts after.taken (need q ∷ rest) later → ⊥
  no_page q rest answered wants = page_stop (answer_to s2.pages q) answered.0 q after.taken (kept q answered.0 answered.1) answered.2 wants.1

  valid_end : (verdicts : List Verdict) (v : Verdict) → v.answer ≡ Valid → s2.verdicts ≡ verdicts ++ v ∷ [] → ⊥
  valid_end verdicts v is are =
      let there : Among v s2.verdicts = subst (Among v) (sym are) (among-right v verdicts (v ∷ []) (inl refl)) in
      subst IsNoChain is (none v there)

  -- with as many verdicts as these there are no fewer paths done
  judged_more : length next.verdicts ≤ length s2.verdicts → (path : Path) (more rest : List Step) → next.taken ≡ after.taken ++ judge path ∷ more → Wants s2 after.verdicts after.taken (judge path ∷ rest) later → ⊥
  judged_more few path more rest is (inl w) =
      let longer : judged next.taken ≡ judged after.taken ++ path ∷ judged more = ap judged is ∙ filter_map-append judged_by after.taken (judge path ∷ more) in
      let size = ap length longer ∙ length-append (judged after.taken) (path ∷ judged more) in
      let first = judged-length next.verdicts (judged next.taken) next.stands.invalid in
      let last = judged-length after.verdicts (judged after.taken) after.stands.invalid in
      let all = ap length w.0 in
      omega (arith, few, size, first, last, all)
  judged_more few path more rest is (inr w) = valid_end after.verdicts _ refl w.0

  added_more : (path : Path) (more rest : List Step) → next.taken ≡ after.taken ++ add path ∷ more → Wants s2 after.verdicts after.taken (add path ∷ rest) later → ⊥
  added_more path more rest is wants =
      let longer : added next.taken ≡ added after.taken ++ path ∷ added more = ap added is ∙ filter_map-append added_by after.taken (add path ∷ more) in
      let size = ap length longer ∙ length-append (added after.taken) (path ∷ added more) in
      let room = next.stands.room in
      let full : length (added after.taken) ≡ s.bounds.paths = wants.1 ∙ ap (λ (b : Bounds). b.paths) bounds in
      omega (arith, size, room, full)

  -- the second isn't behind the first
  not_behind : length next.verdicts ≤ length s2.verdicts → (step : Step) (more rest : List Step) → next.taken ≡ after.taken ++ step ∷ more → after.left ≡ step ∷ rest → ⊥
  not_behind few (need q) more rest is left =
      let there : Among q (needed next.taken) = among-filter_map needed_by (need q) q refl next.taken (step_among (need q) more is) in
      no_page q rest (next.stands.answered q there) (subst (λ l. Wants s2 after.verdicts after.taken l later) left after.wants)
  not_behind few (add path) more rest is left = added_more path more rest is (subst (λ l. Wants s2 after.verdicts after.taken l later) left after.wants)
  not_behind few (judge path) more rest is left = judged_more few path more rest is (subst (λ l. Wants s2 after.verdicts after.taken l later) left after.wants)

-- the steps behind a step of the first list are those behind the same step of the second
head-is : (step other : Step) (rest more : List Step) → step ∷ rest ≡ other ∷ more → other ≡ step
head-is step other rest more eq = cc eq

-- ---- one answer more to a page

pub needed-more : (first taken : List Step) (page : Need) (more : List Step) → taken ≡ first ++ need page ∷ more → needed taken ≡ needed first ++ page ∷ needed more
needed-more first taken page more is = ap needed is ∙ filter_map-append needed_by first (need page ∷ more)

module _ (found : Findings) (s s2 : Search) (page : Need) (later : Want) (next : IsNextBy found s (want_of page)) (after : IsNextBy found s2 later)
    (leaf : s2.leaf ≡ s.leaf) (anchor : s2.anchor ≡ s.anchor) (bounds : s2.bounds ≡ s.bounds)
    (kept : (q : Need) (answer : Report) → answer_to s.pages q ≡ Some answer → answer_to s2.pages q ≡ Some answer)
    (answer : Report) (here : answer_to s2.pages page ≡ Some answer) (ok : IsPageAnswer answer)
    (verdicts : s2.verdicts ≡ s.verdicts) (none : (v : Verdict) → Among v s2.verdicts → IsNoChain v.answer) where
  at : AtPage s next.verdicts page next.left
  at = at-page s next.verdicts next.taken next.left page next.wants

  enough : length next.verdicts ≤ length s2.verdicts
  enough = let a = ap length verdicts in let b = ap length at.are in omega (arith, a, b)

  by_cuts : Cuts next.taken next.left after.taken after.left → (more : List Step) × (after.taken ≡ next.taken ++ need page ∷ more)
  by_cuts (same taken left) =
      absurd (page_stop found s s2 (want_of page) later next after leaf anchor bounds kept none (answer_to s2.pages page) answer page after.taken here ok
      (subst (λ l. Wants s2 after.verdicts after.taken l later) (sym left ∙ at.is_left) after.wants).1)
  by_cuts (ahead (step, more, taken, left)) =
      let one : step ≡ need page = sym (head-is step (need page) (more ++ after.left) at.rest (sym left ∙ at.is_left)) in
      (more, taken ∙ ap (λ x. next.taken ++ x ∷ more) one)
  by_cuts (behind (step, more, taken, left)) = absurd (not_behind found s s2 (want_of page) later next after leaf anchor bounds kept none enough step more (more ++ next.left) taken left)

  -- the steps that are done then go on behind the need of the page
  pub page-more : (more : List Step) × (after.taken ≡ next.taken ++ need page ∷ more)
  page-more = by_cuts (cuts next.taken next.left after.taken after.left (one-climb found s s2 (want_of page) later next after leaf anchor bounds kept none))

-- ---- one verdict more

module _ (found : Findings) (s s2 : Search) (chain : Path) (later : Want) (next : IsNextBy found s (Judge chain)) (after : IsNextBy found s2 later)
    (leaf : s2.leaf ≡ s.leaf) (anchor : s2.anchor ≡ s.anchor) (bounds : s2.bounds ≡ s.bounds)
    (kept : (q : Need) (answer : Report) → answer_to s.pages q ≡ Some answer → answer_to s2.pages q ≡ Some answer)
    (v : Verdict) (verdicts : s2.verdicts ≡ s.verdicts ++ v ∷ []) (none : (w : Verdict) → Among w s2.verdicts → IsNoChain w.answer) where
  pub ruled : AtPath s next.verdicts chain next.left
  ruled = at-path s next.verdicts next.taken next.left chain next.wants

  size : length s2.verdicts ≡ length next.verdicts + 1
  size = let a = ap length verdicts ∙ length-append s.verdicts (v ∷ []) in let b = ap length ruled.are in omega (arith, a, b)

  still : (taken : List Step) (verdicts' : List Verdict) (path : Path) (rest : List Step) → length verdicts' ≡ length next.verdicts → Wants s2 verdicts' taken (judge path ∷ rest) later → ⊥
  still taken verdicts' path rest count (inl w) = let all = ap length w.0 in omega (arith, count, all, size)
  still taken verdicts' path rest count (inr w) =
      valid_end found s s2 (Judge chain) later next after leaf anchor bounds kept none verdicts' _ refl w.0

  ruled_cuts : Cuts next.taken next.left after.taken after.left → (more : List Step) × (after.taken ≡ next.taken ++ judge ruled.path ∷ more)
  ruled_cuts (same taken left) =
      let first = judged-length next.verdicts (judged next.taken) next.stands.invalid in
      let last = judged-length after.verdicts (judged after.taken) after.stands.invalid in
      let one = ap (λ t. length (judged t)) taken in
      absurd (still after.taken after.verdicts ruled.path ruled.rest (omega (arith, first, last, one)) (subst (λ l. Wants s2 after.verdicts after.taken l later) (sym left ∙ ruled.is_left) after.wants))
  ruled_cuts (ahead (step, more, taken, left)) =
      let one : step ≡ judge ruled.path = sym (head-is step (judge ruled.path) (more ++ after.left) ruled.rest (sym left ∙ ruled.is_left)) in
      (more, taken ∙ ap (λ x. next.taken ++ x ∷ more) one)
  ruled_cuts (behind (step, more, taken, left)) =
      absurd (not_behind found s s2 (Judge chain) later next after leaf anchor bounds kept none (omega (arith, size)) step more (more ++ next.left) taken left)

  -- the steps that are done then go on behind the path
  pub path-more : (more : List Step) × (after.taken ≡ next.taken ++ judge ruled.path ∷ more)
  path-more = ruled_cuts (cuts next.taken next.left after.taken after.left (one-climb found s s2 (Judge chain) later next after leaf anchor bounds kept none))
