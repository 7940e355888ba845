-- What a session is after an answer.
use Rattle.std.proofs.Common.{map, find, option_map, inl, inr, ◌⊎◌, ⊎_elim, true≢false, ◌≡◌, ◌≤◌, ◌<◌, ◌+◌, ℕ, List, [], ◌∷◌, ◌++◌, length, take, Bool, true, false, cond, not, ◌&&◌, ◌||◌, Option, Some, None, MatchOption, refl, sym, ap, ◌∙◌, subst, arith, bytes_eq, nat_le, append_assoc, length-append, count_by}
use Rattle.std.specs.List.{list_any}
use Rattle.std.specs.List.{sum_by}
use Rattle.std.proofs.lemmas.List.{take_at}
use Rattle.std.proofs.lemmas.List.Sums.{sum_by-append}
use Rattle.fed_json.proofs.Order.{bytes_eq-itself, equal-bytes_eq}
use Rattle.entity_statement.specs.Claims.{Identifier}
use Rattle.chain_climb.specs.declared.want.Bounds.{Bounds}
use Rattle.chain_climb.specs.declared.path.Path.{Path}
use Rattle.chain_climb.specs.declared.answer.PageAnswer.{PageAnswer}
use Rattle.chain_climb.specs.declared.answer.Verdict.{Verdict}
use Rattle.chain_climb.specs.declared.answer.Origin.TheVariants.{Shelf, Link}
use Rattle.chain_climb.specs.declared.answer.Report.{Report}
use Rattle.chain_climb.specs.declared.answer.Report.TheVariants.{Good, Useless, Fault, Spent}
use Rattle.chain_climb.specs.declared.answer.Answer.{Answer}
use Rattle.chain_climb.specs.declared.answer.Answer.TheVariants.{Good as GoodAnswer, Useless as UselessAnswer, Fault as FaultAnswer, Spent as SpentAnswer, Valid, PolicyFails, Invalid}
use Rattle.chain_climb.specs.declared.place.Place.{Place}
use Rattle.chain_climb.specs.declared.place.Stage.{Stage}
use Rattle.chain_climb.specs.declared.place.Stage.TheVariants.{Leaf, Hint, Judge, Found, Ended}
use Rattle.chain_climb.specs.declared.state.State.{State}
use Rattle.chain_climb.specs.Climbs.{Findings, Need, Step, climb, configuration_of, judge, with_chain}
use Rattle.chain_climb.specs.Elements.{Among, NoneTwice}
use Rattle.chain_climb.specs.Sessions.{AreJudged, FitsPage, IsNoChain, IsVerdict, answer_to, answers_page, calls_in, faults_in, first_answers_after, is_call, is_fault, is_same, is_valid_answer, page_of, was_asked}
use Rattle.chain_climb.specs.Walks.{AllKnown, AreHints, Grows, HasPath, HasTakenPage, HasTakenVerdict, IsBegun, IsReady, IsStanding, LeafReaches, Reaches, Resumes, StopsAt, WaitsForPage, Walked, from_to, hint_rest, is_leaf_stop, path_at, path_rest, rest_at, route, with_last}
use Rattle.chain_climb.proofs.NextLaws.{judge_steps}
use Rattle.chain_climb.proofs.StepLaws.{open-not_found, open_rest, open_stops}
use Rattle.chain_climb.proofs.WalkLaws.{answer-more, append-nil, known-more, walked-judge, walked-more, walked-none, walked-same, walked-then}

-- ---- a session that begins

no_answer : (leaf : Identifier) (full : Bool) → is_leaf_stop (answer_to [] (configuration_of leaf)) full ≡ true
unfolding answer_to
no_answer leaf full = refl

no_calls : 0 ≡ calls_in []
unfolding calls_in
no_calls = refl

no_faults : 0 ≡ faults_in []
unfolding faults_in
no_faults = refl

pub begun : (leaf anchor l a : Identifier) (bounds : Bounds) (pages : List PageAnswer) (verdicts : List Verdict) (queue : List Path) → l ≡ leaf → a ≡ anchor → pages ≡ [] → verdicts ≡ [] → queue ≡ []
    → IsBegun leaf anchor bounds (record { leaf = l; anchor = a; bounds = bounds; pages = pages; verdicts = verdicts; calls = 0; faults = 0; queue = queue; place = record { stage = Leaf; at = 0; hint = 0; level_end = 0; left = 0 } })
begun leaf anchor l a bounds pages verdicts queue leaf_is anchor_is no_pages no_verdicts no_queue = record {
  leaf_is = leaf_is;
  anchor_is = anchor_is;
  bounds_are = refl;
  no_pages = no_pages;
  no_verdicts = no_verdicts;
  standing = record {
    judges = [];
    earlier = [];
    judged = tt;
    verdicts = no_verdicts;
    place = record {
      is_at = record { walked = subst (λ q. Walked pages bounds.paths [] (λ found. climb found l a bounds.depth) (λ found. climb found l a bounds.depth) (from_to [] q)) (sym no_queue) (walked-none pages bounds.paths (λ found. climb found l a bounds.depth) []) };
      stops = (no_queue, subst (λ ps. is_leaf_stop (answer_to ps (configuration_of l)) (nat_le bounds.paths 0) ≡ true) (sym no_pages) (no_answer l (nat_le bounds.paths 0)));
    };
    calls = no_calls ∙ ap calls_in (sym no_pages);
    faults = no_faults ∙ ap faults_in (sym no_pages);
    few_calls = omega arith;
    few_faults = omega arith;
    once = subst (λ ps. NoneTwice (map page_of ps)) (sym no_pages) tt;
  };
}

-- ---- the first paths

pub shrink-step : {X : Type 0} (popped : Option X) (old new first : List X) (count : ℕ) → MatchOption popped ((old ≡ []) × (new ≡ [])) (λ item. old ≡ new ++ item ∷ []) → count < length old → Grows old first
    → Grows new first × (count ≤ length new)
shrink-step None old new first count pops less grows = absurd (let e = ap length pops.0 in omega (arith, e, less))
shrink-step (Some item) old new first count pops less grows = (
  (item ∷ grows.0, grows.1 ∙ ap (λ l. l ++ grows.0) pops ∙ append_assoc new (item ∷ []) grows.0),
  let e = ap length pops in let g = length-append new (item ∷ []) in omega (arith, e, g, less),
)

pub shrink-end : {X : Type 0} (now first : List X) (count : ℕ) → Grows now first → count ≤ length now → length now ≤ count → now ≡ take count first
shrink-end now first count grows more less =
    sym (ap (take count) grows.1 ∙ take_at now grows.0 count (omega (arith, more, less)))

-- ---- from one place to another

module _ (leaf anchor : Identifier) (bounds : Bounds) (pages : List PageAnswer) (before after : List Path) (place reached : Place) where
  pub resumes-leaf : place.stage ≡ Leaf → before ≡ [] → LeafReaches leaf anchor bounds pages after reached → Resumes (route leaf anchor) bounds pages (from_to before after) place reached
  resumes-leaf stage none reaches = record {
    not_found = reaches.not_found;
    walked = subst (λ g. Walked pages bounds.paths [] (rest_at g leaf anchor bounds.depth before place) (rest_at reached.stage leaf anchor bounds.depth after reached) (from_to before after)) (sym stage)
        (subst (λ q. Walked pages bounds.paths [] (λ found. climb found leaf anchor bounds.depth) (rest_at reached.stage leaf anchor bounds.depth after reached) (from_to q after)) (sym none) reaches.walked);
    stops = reaches.stops;
  }

  pub resumes-hint : place.stage ≡ Hint → Reaches anchor bounds pages (hint_rest anchor bounds.depth before (path_at before place) place.hint place.at place.level_end place.left) (from_to before after) reached
      → Resumes (route leaf anchor) bounds pages (from_to before after) place reached
  resumes-hint stage reaches = record {
    not_found = open-not_found reached.stage reaches.is_open;
    walked = subst (λ g. Walked pages bounds.paths [] (rest_at g leaf anchor bounds.depth before place) (rest_at reached.stage leaf anchor bounds.depth after reached) (from_to before after)) (sym stage)
        (open_rest leaf anchor bounds.depth reached.stage after reached pages bounds.paths (hint_rest anchor bounds.depth before (path_at before place) place.hint place.at place.level_end place.left) before reaches.is_open reaches.walked);
    stops = open_stops leaf anchor bounds reached.stage pages after reached reaches.is_open reaches.stops;
  }

-- ---- pages that grow

pub grown-known : (pages : List PageAnswer) (x : PageAnswer) (queue : List Path) → AllKnown pages queue → AllKnown (pages ++ x ∷ []) queue
grown-known pages x queue known path among = known-more pages x path (known path among)

grown-hints : (pages : List PageAnswer) (x : PageAnswer) (path : Path) (hints : List Identifier) → AreHints pages path hints → AreHints (pages ++ x ∷ []) path hints
grown-hints pages x path hints are = record {
  known = record { some = are.known.some; own = are.known.own; origin = are.known.origin; good = answer-more pages x (configuration_of (Rattle.chain_climb.specs.Climbs.last_of path)) (Good are.known.own are.known.origin) are.known.good };
  are = are.are;
}

pub grown-ready : (stage : Stage) (leaf anchor : Identifier) (bounds : Bounds) (pages : List PageAnswer) (x : PageAnswer) (queue : List Path) (place : Place) → WaitsForPage stage
    → StopsAt stage (route leaf anchor) bounds pages queue place → IsReady stage (pages ++ x ∷ []) queue place
grown-ready Leaf leaf anchor bounds pages x queue place waits stops = stops.0
grown-ready Hint leaf anchor bounds pages x queue place waits stops = (
  stops.0,
  (
    (stops.1).hints,
    grown-hints pages x (path_at queue place) (stops.1).hints (stops.1).are,
    (let less = (stops.1).within in omega (arith, less)),
  ),
)
grown-ready Judge leaf anchor bounds pages x queue place waits stops = waits
grown-ready Found leaf anchor bounds pages x queue place waits stops = waits
grown-ready Ended leaf anchor bounds pages x queue place waits stops = waits

-- ---- counts

or_false : (b : Bool) → (b || false) ≡ b
or_false true = refl
or_false false = refl

or_move : (a b c : Bool) → ((b || a) || c) ≡ (a || (b || c))
or_move true true c = refl
or_move true false c = refl
or_move false true c = refl
or_move false false c = refl

or_known : (a b c : Bool) → (b ≡ true → a ≡ true) → (a || c) ≡ (a || (b || c))
or_known true b c implies = refl
or_known false true c implies = absurd (let e : false ≡ true = implies refl in cc e)
or_known false false c implies = refl

abbrev one_more : Bool → PageAnswer → List PageAnswer
one_more known x = cond known [] (x ∷ [])

abbrev seen : List (List ℕ) → List PageAnswer → PageAnswer → Bool
seen earlier pages x = list_any (bytes_eq x.url) earlier || was_asked pages x.url

same_seen : (a x : PageAnswer) (earlier : List (List ℕ)) → list_any (bytes_eq a.url) earlier ≡ true → bytes_eq x.url a.url ≡ true → list_any (bytes_eq x.url) earlier ≡ true
same_seen a x earlier known same = ap (λ u. list_any (bytes_eq u) earlier) (equal-bytes_eq x.url a.url same) ∙ known

first_more : (pages : List PageAnswer) (x : PageAnswer) (earlier : List (List ℕ)) → first_answers_after earlier (pages ++ x ∷ []) ≡ first_answers_after earlier pages ++ one_more (seen earlier pages x) x
first_more [] x earlier = ap (λ b. one_more b x) (sym (or_false (list_any (bytes_eq x.url) earlier)))
first_more (a ∷ pages) x earlier = by_known (list_any (bytes_eq a.url) earlier) refl (first_more pages x earlier) (first_more pages x (a.url ∷ earlier))
  where
    by_known : (b : Bool) → list_any (bytes_eq a.url) earlier ≡ b
        → first_answers_after earlier (pages ++ x ∷ []) ≡ first_answers_after earlier pages ++ one_more (seen earlier pages x) x
        → first_answers_after (a.url ∷ earlier) (pages ++ x ∷ []) ≡ first_answers_after (a.url ∷ earlier) pages ++ one_more (seen (a.url ∷ earlier) pages x) x
        → cond b (first_answers_after earlier (pages ++ x ∷ [])) (a ∷ first_answers_after (a.url ∷ earlier) (pages ++ x ∷ []))
        ≡ cond b (first_answers_after earlier pages) (a ∷ first_answers_after (a.url ∷ earlier) pages) ++ one_more (seen earlier (a ∷ pages) x) x
    by_known true is here later =
        here ∙ ap (λ b. first_answers_after earlier pages ++ one_more b x) (or_known (list_any (bytes_eq x.url) earlier) (bytes_eq x.url a.url) (was_asked pages x.url) (same_seen a x earlier is))
    by_known false is here later =
        ap (λ l. a ∷ l) later ∙ ap (λ b. a ∷ (first_answers_after (a.url ∷ earlier) pages ++ one_more b x)) (or_move (list_any (bytes_eq x.url) earlier) (bytes_eq x.url a.url) (was_asked pages x.url))

add_test : (n : ℕ) (b : Bool) → n + (0 + cond b 1 0) ≡ cond b (n + 1) n
add_test n true = omega arith
add_test n false = omega arith

count_last : (p : PageAnswer → Bool) (n : ℕ) (x : PageAnswer) (known : Bool) → n + sum_by (λ y. cond (p y) 1 0) (one_more known x) ≡ cond (not known && p x) (n + 1) n
count_last p n x true = omega arith
count_last p n x false = add_test n (p x)

count_more : (p : PageAnswer → Bool) (xs : List PageAnswer) (x : PageAnswer) (known : Bool) → count_by p (xs ++ one_more known x) ≡ cond (not known && p x) (count_by p xs + 1) (count_by p xs)
count_more p xs x known = sum_by-append (λ y. cond (p y) 1 0) xs (one_more known x) ∙ count_last p (count_by p xs) x known

pub calls-more : (pages : List PageAnswer) (x : PageAnswer) → calls_in (pages ++ x ∷ []) ≡ cond (not (was_asked pages x.url) && is_call x.answer) (calls_in pages + 1) (calls_in pages)
unfolding calls_in
calls-more pages x = ap (count_by (λ a. is_call a.answer)) (first_more pages x []) ∙ count_more (λ a. is_call a.answer) (first_answers_after [] pages) x (was_asked pages x.url)

pub faults-more : (pages : List PageAnswer) (x : PageAnswer) → faults_in (pages ++ x ∷ []) ≡ cond (not (was_asked pages x.url) && is_fault x.answer) (faults_in pages + 1) (faults_in pages)
unfolding faults_in
faults-more pages x = ap (count_by (λ a. is_fault a.answer)) (first_more pages x []) ∙ count_more (λ a. is_fault a.answer) (first_answers_after [] pages) x (was_asked pages x.url)

-- a call is made only where one is left
pub fits-call : (known : Bool) (calls most : ℕ) (report : Report) → FitsPage known calls most (Some report) → (not known && is_call report) ≡ true → calls < most
fits-call true calls most report fits call = cc call
fits-call false calls most (Good own Shelf) fits call = cc call
fits-call false calls most (Good own Link) fits call = fits
fits-call false calls most (Useless Shelf) fits call = cc call
fits-call false calls most (Useless Link) fits call = fits
fits-call false calls most Fault fits call = fits
fits-call false calls most Spent fits call = cc call

pub fault-call : (known : Bool) (report : Report) → (not known && is_fault report) ≡ true → (not known && is_call report) ≡ true
fault-call true report fault = cc fault
fault-call false (Good own origin) fault = cc fault
fault-call false (Useless origin) fault = cc fault
fault-call false Fault fault = refl
fault-call false Spent fault = cc fault

-- ---- no page twice

same_itself : (page : Need) → is_same page page ≡ true
same_itself page = rw (bytes_eq-itself page.issuer, bytes_eq-itself page.subject, bytes_eq-itself page.url) refl

not_first : (b : Bool) (a : PageAnswer) (o : Option PageAnswer) → option_map (λ (x : PageAnswer). x.answer) (cond b (Some a) o) ≡ None → (b ≡ false) × (option_map (λ (x : PageAnswer). x.answer) o ≡ None)
not_first true a o none = absurd (cc none)
not_first false a o none = (refl, none)

not_later : (a : PageAnswer) (pages : List PageAnswer) (page : Need) → answer_to (a ∷ pages) page ≡ None → (answers_page page a ≡ false) × (answer_to pages page ≡ None)
unfolding answer_to
not_later a pages page none = not_first (answers_page page a) a (find (answers_page page) pages) none

among_more : (page : Need) (pages : List PageAnswer) (x : PageAnswer) → Among page (map page_of (pages ++ x ∷ [])) → Among page (map page_of pages) ⊎ (page ≡ page_of x)
among_more page [] x (inl same) = inr same
among_more page [] x (inr none) = absurd none
among_more page (a ∷ pages) x (inl same) = inl (inl same)
among_more page (a ∷ pages) x (inr among) = ⊎_elim (λ (here : Among page (map page_of pages)). inl (inr here)) (λ (last : page ≡ page_of x). inr last) (among_more page pages x among)

once-more : (pages : List PageAnswer) (x : PageAnswer) → NoneTwice (map page_of pages) → answer_to pages (page_of x) ≡ None → NoneTwice (map page_of (pages ++ x ∷ []))
once-more [] x once new = (λ none. none, tt)
once-more (a ∷ pages) x once new =
    let later = not_later a pages (page_of x) new in (
      λ among. ⊎_elim
          (λ (here : Among (page_of a) (map page_of pages)). once.0 here)
          (λ (same : page_of a ≡ page_of x). true≢false (sym (same_itself (page_of x)) ∙ ap (is_same (page_of x)) (sym same) ∙ later.0))
          (among_more (page_of a) pages x among),
      once-more pages x once.1 later.1,
    )

-- ---- a page that was taken

waits_last : (stage : Stage) (verdicts : List Verdict) (path : Path) → WaitsForPage stage → with_last stage verdicts path ≡ verdicts
waits_last Leaf verdicts path waits = refl
waits_last Hint verdicts path waits = refl
waits_last Judge verdicts path waits = absurd waits
waits_last Found verdicts path waits = absurd waits
waits_last Ended verdicts path waits = absurd waits

other_last : (stage : Stage) (verdicts : List Verdict) (path : Path) → (stage ≡ Found → ⊥) → with_last stage verdicts path ≡ verdicts
other_last Leaf verdicts path other = refl
other_last Hint verdicts path other = refl
other_last Judge verdicts path other = refl
other_last Found verdicts path other = absurd (other refl)
other_last Ended verdicts path other = refl

counted_most : (call : Bool) (calls now most : ℕ) → now ≡ cond call (calls + 1) calls → calls ≤ most → (call ≡ true → calls < most) → now ≤ most
counted_most true calls now most is few less = let e = less refl in omega (arith, is, e)
counted_most false calls now most is few less = omega (arith, is, few)

counted_least : (call fault : Bool) (calls faults c f : ℕ) → c ≡ cond call (calls + 1) calls → f ≡ cond fault (faults + 1) faults → faults ≤ calls → (fault ≡ true → call ≡ true) → f ≤ c
counted_least true true calls faults c f ci fi few implies = omega (arith, ci, fi, few)
counted_least true false calls faults c f ci fi few implies = omega (arith, ci, fi, few)
counted_least false true calls faults c f ci fi few implies = absurd (let e : false ≡ true = implies refl in cc e)
counted_least false false calls faults c f ci fi few implies = omega (arith, ci, fi, few)

module _ (s : State) (st : IsStanding s) (page : PageAnswer) (waits : WaitsForPage s.place.stage) (fits : FitsPage (was_asked s.pages page.url) (calls_in s.pages) s.bounds.calls (Some page.answer)) where
  abbrev call : Bool
  call = not (was_asked s.pages page.url) && is_call page.answer

  abbrev fault : Bool
  fault = not (was_asked s.pages page.url) && is_fault page.answer

  pub call-left : call ≡ true → s.calls < s.bounds.calls
  call-left is = let e = fits-call (was_asked s.pages page.url) (calls_in s.pages) s.bounds.calls page.answer fits is in omega (arith, e, st.calls)

  pub fault-left : fault ≡ true → s.faults < s.bounds.calls
  fault-left is = let e = call-left (fault-call (was_asked s.pages page.url) page.answer is) in omega (arith, e, st.few_faults)

  pub page-taken : (pages : List PageAnswer) (queue : List Path) (place : Place) (calls faults : ℕ) → pages ≡ s.pages ++ page ∷ [] → answer_to s.pages (page_of page) ≡ None → Resumes (route s.leaf s.anchor) s.bounds pages (from_to s.queue queue) s.place place
      → calls ≡ cond call (s.calls + 1) s.calls → faults ≡ cond fault (s.faults + 1) s.faults
      → HasTakenPage s (record { leaf = s.leaf; anchor = s.anchor; bounds = s.bounds; pages = pages; verdicts = s.verdicts; calls = calls; faults = faults; queue = queue; place = place }) page
  page-taken pages queue place calls faults pages_are new resumes calls_are faults_are = record {
    standing = record {
      judges = st.judges;
      earlier = st.earlier;
      judged = st.judged;
      verdicts = st.verdicts ∙ waits_last s.place.stage st.earlier (path_at s.queue s.place) waits ∙ sym (other_last place.stage st.earlier (path_at queue place) resumes.not_found);
      place = record {
        is_at = record {
          walked =
              let whole : Findings → List Step = λ found. climb found s.leaf s.anchor s.bounds.depth in
              let first : Walked pages s.bounds.paths st.judges whole (rest_at s.place.stage s.leaf s.anchor s.bounds.depth s.queue s.place) (from_to [] s.queue) =
              subst (λ ps. Walked ps s.bounds.paths st.judges whole (rest_at s.place.stage s.leaf s.anchor s.bounds.depth s.queue s.place) (from_to [] s.queue)) (sym pages_are)
              (walked-more s.pages page s.bounds.paths st.judges whole (rest_at s.place.stage s.leaf s.anchor s.bounds.depth s.queue s.place) s.queue (st.place.is_at).walked) in
              subst (λ j. Walked pages s.bounds.paths j whole (rest_at place.stage s.leaf s.anchor s.bounds.depth queue place) (from_to [] queue)) (append-nil st.judges)
              (walked-then pages s.bounds.paths st.judges [] whole (rest_at s.place.stage s.leaf s.anchor s.bounds.depth s.queue s.place) (rest_at place.stage s.leaf s.anchor s.bounds.depth queue place) [] s.queue queue first resumes.walked);
        };
        stops = resumes.stops;
      };
      calls = calls_are ∙ ap (λ n. cond call (n + 1) n) st.calls ∙ sym (calls-more s.pages page) ∙ ap calls_in (sym pages_are);
      faults = faults_are ∙ ap (λ n. cond fault (n + 1) n) st.faults ∙ sym (faults-more s.pages page) ∙ ap faults_in (sym pages_are);
      few_calls = counted_most call s.calls calls s.bounds.calls calls_are st.few_calls call-left;
      few_faults = counted_least call fault s.calls s.faults calls faults calls_are faults_are st.few_faults (fault-call (was_asked s.pages page.url) page.answer);
      once = subst (λ ps. NoneTwice (map page_of ps)) (sym pages_are) (once-more s.pages page st.once new);
    };
    pages = pages_are;
    verdicts = refl;
    same = record { leaf = refl; anchor = refl; bounds = refl };
  }

-- what was appended is taken away again
pub shrunk : {X : Type 0} (first grown now : List X) (count : ℕ) → Grows first grown → count ≡ length first → now ≡ take count grown → now ≡ first
shrunk first grown now count grows is taken = taken ∙ ap (take count) grows.1 ∙ take_at first grows.0 count (sym is)

-- ---- the code's part of it

module _ (s : State) (st : IsStanding s) (page : PageAnswer) (pages now : List PageAnswer) (pushed : pages ≡ s.pages ++ page ∷ []) (read : now ≡ pages) where
  pub page_arm-known : AllKnown now s.queue
  page_arm-known = subst (λ ps. AllKnown ps s.queue) (sym (read ∙ pushed)) (grown-known s.pages page s.queue (λ path among. ((st.place.is_at).walked).known (λ p none. absurd none) path among))

  pub page_arm-ready : WaitsForPage s.place.stage → IsReady s.place.stage now s.queue s.place
  page_arm-ready waits =
      subst (λ ps. IsReady s.place.stage ps s.queue s.place) (sym (read ∙ pushed)) (grown-ready s.place.stage s.leaf s.anchor s.bounds s.pages page s.queue s.place waits st.place.stops)

pub same-session : (s : State) (pages : List PageAnswer) (verdicts : List Verdict) (queue : List Path) → pages ≡ s.pages → verdicts ≡ s.verdicts → queue ≡ s.queue
    → record { leaf = s.leaf; anchor = s.anchor; bounds = s.bounds; pages = pages; verdicts = verdicts; calls = s.calls; faults = s.faults; queue = queue; place = s.place } ≡ s
same-session s pages verdicts queue same also too =
    let e : record { leaf = s.leaf; anchor = s.anchor; bounds = s.bounds; pages = pages; verdicts = verdicts; calls = s.calls; faults = s.faults; queue = queue; place = s.place }
    ≡ record { leaf = s.leaf; anchor = s.anchor; bounds = s.bounds; pages = s.pages; verdicts = s.verdicts; calls = s.calls; faults = s.faults; queue = s.queue; place = s.place } = cc in e

pub new-flag : (pages slice : List PageAnswer) (url text : List ℕ) (known holds h result : Bool) → known ≡ was_asked slice text → slice ≡ pages → text ≡ url → holds ≡ h → result ≡ (not known && holds) → result ≡ (not (was_asked pages url) && h)
new-flag pages slice url text known holds h result asked is at same flag =
    flag ∙ ap (λ b. not known && b) same ∙ ap (λ b. not b && h) (asked ∙ ap (λ ps. was_asked ps text) is ∙ ap (was_asked pages) at)

pub counted-if : (flag more : Bool) (count now : ℕ) → flag ≡ more → now ≡ cond flag (count + 1) count → now ≡ cond more (count + 1) count
counted-if flag more count now is counted = counted ∙ ap (λ b. cond b (count + 1) count) is

-- ---- a verdict that was taken

judged_more : (verdicts : List Verdict) (paths : List Path) (verdict : Verdict) (path : Path) → AreJudged verdicts paths → verdict.path ≡ with_chain path → IsNoChain verdict.answer
    → AreJudged (verdicts ++ verdict ∷ []) (paths ++ path ∷ [])
judged_more [] [] verdict path judged is no_chain = (is, no_chain, tt)
judged_more [] (p ∷ paths) verdict path judged is no_chain = absurd judged
judged_more (v ∷ verdicts) [] verdict path judged is no_chain = absurd judged
judged_more (v ∷ verdicts) (p ∷ paths) verdict path judged is no_chain = (judged.0, judged.1, judged_more verdicts paths verdict path judged.2 is no_chain)

no_chain_in : (answer : Answer) → IsVerdict answer → is_valid_answer answer ≡ false → IsNoChain answer
no_chain_in Valid is valid = cc valid
no_chain_in PolicyFails is valid = tt
no_chain_in Invalid is valid = tt
no_chain_in (GoodAnswer own origin) is valid = absurd is
no_chain_in (UselessAnswer origin) is valid = absurd is
no_chain_in FaultAnswer is valid = absurd is
no_chain_in SpentAnswer is valid = absurd is

valid_in : (answer : Answer) → is_valid_answer answer ≡ true → answer ≡ Valid
valid_in Valid valid = refl
valid_in PolicyFails valid = cc valid
valid_in Invalid valid = cc valid
valid_in (GoodAnswer own origin) valid = cc valid
valid_in (UselessAnswer origin) valid = cc valid
valid_in FaultAnswer valid = cc valid
valid_in SpentAnswer valid = cc valid

verdict_is : (verdict : Verdict) (path : Path) → verdict.path ≡ path → verdict.answer ≡ Valid → verdict ≡ record { path = path; answer = Valid }
verdict_is verdict path is valid = let e : record { path = verdict.path; answer = verdict.answer } ≡ record { path = path; answer = Valid } = cc in e

module _ (s : State) (st : IsStanding s) (stage : s.place.stage ≡ Judge) (verdict : Verdict) (path_is : verdict.path ≡ with_chain (path_at s.queue s.place)) (fits : IsVerdict verdict.answer) where
  verdict_stops : HasPath s.queue s.place × (bytes_eq (Rattle.chain_climb.specs.Climbs.last_of (path_at s.queue s.place)) s.anchor ≡ true)
  verdict_stops = subst (λ g. StopsAt g (route s.leaf s.anchor) s.bounds s.pages s.queue s.place) stage st.place.stops

  pub verdict-has : HasPath s.queue s.place
  verdict-has = verdict_stops.0

  pub verdict-known : (pages : List PageAnswer) → pages ≡ s.pages → AllKnown pages s.queue
  verdict-known pages is = subst (λ ps. AllKnown ps s.queue) (sym is) (λ path among. ((st.place.is_at).walked).known (λ p none. absurd none) path among)

  earlier_is : s.verdicts ≡ st.earlier
  earlier_is = st.verdicts ∙ ap (λ g. with_last g st.earlier (path_at s.queue s.place)) stage

  abbrev whole : Findings → List Step
  whole found = climb found s.leaf s.anchor s.bounds.depth

  abbrev here : Findings → List Step
  here = path_rest s.anchor s.bounds.depth s.queue s.place.at s.place.level_end s.place.left

  at_path : Walked s.pages s.bounds.paths st.judges whole here (from_to [] s.queue)
  at_path = subst (λ g. Walked s.pages s.bounds.paths st.judges whole (rest_at g s.leaf s.anchor s.bounds.depth s.queue s.place) (from_to [] s.queue)) stage (st.place.is_at).walked

  pub verdict-found : (verdicts : List Verdict) (valid : Bool) → valid ≡ is_valid_answer verdict.answer → valid ≡ true → verdicts ≡ s.verdicts ++ verdict ∷ []
      → HasTakenVerdict s
      (record {
        leaf = s.leaf;
        anchor = s.anchor;
        bounds = s.bounds;
        pages = s.pages;
        verdicts = verdicts;
        calls = s.calls;
        faults = s.faults;
        queue = s.queue;
        place = record { stage = Found; at = s.place.at; hint = s.place.hint; level_end = s.place.level_end; left = s.place.left };
      })
      verdict
  verdict-found verdicts valid tested is pushed = record {
    standing = record {
      judges = st.judges;
      earlier = st.earlier;
      judged = st.judged;
      verdicts = pushed ∙ ap (λ vs. vs ++ verdict ∷ []) earlier_is
          ∙ ap (λ v. st.earlier ++ v ∷ []) (verdict_is verdict (with_chain (path_at s.queue s.place)) path_is (valid_in verdict.answer (sym tested ∙ is)));
      place = record { is_at = record { walked = at_path }; stops = verdict_stops };
      calls = st.calls;
      faults = st.faults;
      few_calls = st.few_calls;
      few_faults = st.few_faults;
      once = st.once;
    };
    pages = refl;
    verdicts = pushed;
    same = record { leaf = refl; anchor = refl; bounds = refl };
  }

  abbrev behind : Findings → List Step
  behind = path_rest s.anchor s.bounds.depth s.queue (s.place.at + 1) s.place.level_end s.place.left

  pub verdict-passed : (verdicts : List Verdict) (queue : List Path) (place : Place) (valid : Bool) → valid ≡ is_valid_answer verdict.answer → valid ≡ false → verdicts ≡ s.verdicts ++ verdict ∷ []
      → Reaches s.anchor s.bounds s.pages behind (from_to s.queue queue) place
      → HasTakenVerdict s (record { leaf = s.leaf; anchor = s.anchor; bounds = s.bounds; pages = s.pages; verdicts = verdicts; calls = s.calls; faults = s.faults; queue = queue; place = place }) verdict
  verdict-passed verdicts queue place valid tested is pushed reaches =
      let judged_path : Walked s.pages s.bounds.paths (path_at s.queue s.place ∷ []) here behind (from_to s.queue s.queue) =
      walked-same s.pages s.bounds.paths (path_at s.queue s.place ∷ []) (λ found. judge (path_at s.queue s.place) ∷ behind found) behind here s.queue s.queue
      (λ found extends. judge_steps s verdict_stops.0 verdict_stops.1 found) (walked-judge s.pages s.bounds.paths (path_at s.queue s.place) behind s.queue) in
      let passed : Walked s.pages s.bounds.paths (st.judges ++ path_at s.queue s.place ∷ []) whole behind (from_to [] s.queue) =
      walked-then s.pages s.bounds.paths st.judges (path_at s.queue s.place ∷ []) whole here behind [] s.queue s.queue at_path judged_path in
      let reached : Walked s.pages s.bounds.paths [] behind (rest_at place.stage s.leaf s.anchor s.bounds.depth queue place) (from_to s.queue queue) =
      open_rest s.leaf s.anchor s.bounds.depth place.stage queue place s.pages s.bounds.paths behind s.queue reaches.is_open reaches.walked in
      let all : Walked s.pages s.bounds.paths ((st.judges ++ path_at s.queue s.place ∷ []) ++ []) whole (rest_at place.stage s.leaf s.anchor s.bounds.depth queue place) (from_to [] queue) =
      walked-then s.pages s.bounds.paths (st.judges ++ path_at s.queue s.place ∷ []) [] whole behind (rest_at place.stage s.leaf s.anchor s.bounds.depth queue place) [] s.queue queue passed reached in
      record {
        standing = record {
          judges = st.judges ++ path_at s.queue s.place ∷ [];
          earlier = st.earlier ++ verdict ∷ [];
          judged = judged_more st.earlier st.judges verdict (path_at s.queue s.place) st.judged path_is (no_chain_in verdict.answer fits (sym tested ∙ is));
          verdicts = pushed ∙ ap (λ vs. vs ++ verdict ∷ []) earlier_is ∙ sym (other_last place.stage (st.earlier ++ verdict ∷ []) (path_at queue place) (open-not_found place.stage reaches.is_open));
          place = record {
            is_at = record {
              walked = subst (λ j. Walked s.pages s.bounds.paths j whole (rest_at place.stage s.leaf s.anchor s.bounds.depth queue place) (from_to [] queue)) (append-nil (st.judges ++ path_at s.queue s.place ∷ [])) all;
            };
            stops = open_stops s.leaf s.anchor s.bounds place.stage s.pages queue place reaches.is_open reaches.stops;
          };
          calls = st.calls;
          faults = st.faults;
          few_calls = st.few_calls;
          few_faults = st.few_faults;
          once = st.once;
        };
        pages = refl;
        verdicts = pushed;
        same = record { leaf = refl; anchor = refl; bounds = refl };
      }
