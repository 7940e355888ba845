-- How a round goes on from one turn of its session to the next, and how it ends.
use Rattle.std.proofs.Common.{◌≡◌, ◌<◌, ◌+◌, ◌⊎◌, ℕ, List, [], ◌∷◌, ◌++◌, length, map, take, filter_map, Bool, true, false, cond, Option, Some, None, Result, Ok, Err, refl, sym, ap, ◌∙◌, subst, inl, inr, ⊎_elim, append-nil, append_assoc, arith, bytes_eq, true≢false}
use Rattle.std.proofs.lemmas.List.Elements.{filter_map-append}
use Rattle.std.specs.Prelude.{◌-◌, OnOk}
use Rattle.std.specs.List.{list_any}
use Rattle.std.proofs.lemmas.List.{length_push}
use Rattle.fed_json.proofs.Order.{bytes_eq-itself, equal-bytes_eq}
use Rattle.jwk_set.specs.declared.jwk.Jwk.{Jwk}
use Rattle.jwk_set.specs.declared.set.JwkSet.{JwkSet}
use Rattle.chain_check.specs.Chains.{Texts}
use Rattle.chain_check.specs.Validity.{Case, IsValid, case_of}
use Rattle.chain_check.specs.declared.tried.Tried.{Tried}
use Rattle.chain_check.specs.declared.verdict.Resolved.{Resolved}
use Rattle.chain_climb.specs.declared.answer.Answer.{Answer}
use Rattle.chain_climb.specs.declared.answer.PageAnswer.{PageAnswer}
use Rattle.chain_climb.specs.declared.answer.Report.{Report}
use Rattle.chain_climb.specs.declared.answer.Report.TheVariants.{Good, Useless, Fault, Spent}
use Rattle.chain_climb.specs.declared.answer.Verdict.{Verdict}
use Rattle.chain_climb.specs.declared.path.Path.{Path}
use Rattle.chain_climb.specs.declared.want.Bounds.{Bounds}
use Rattle.chain_climb.specs.declared.want.End.{End}
use Rattle.chain_climb.specs.declared.want.End.TheVariants as Ended
use Rattle.chain_climb.specs.declared.want.Want.{Want}
use Rattle.chain_climb.specs.declared.want.Want.TheVariants.{Config, Done, Judge, Superior}
use Rattle.chain_climb.specs.Climbs.{Findings, Need, Step, add, added, climb, judge, judged, judged_by, need, page_named, with_chain}
use Rattle.chain_climb.specs.Elements.{Among}
use Rattle.chain_climb.specs.Sessions.{Extends, Fits, FitsPage, IsNext, IsNextBy, IsNoChain, IsPageAnswer, IsPlainEnd, Search as Searched, Wants, WantsPage, answer_to, begun, calls_in, findings_of, page_of, report_in, want_of, was_asked}
use Rattle.chain_climb.specs.Wants.{HasMade, WantsNew, given, given_to, next_want, with_page}
use Rattle.chain_climb.proofs.ClimbLaws.{among-any, any-among}
use Rattle.chain_climb.proofs.Elements.{among-right, among-split}
use Rattle.chain_climb.proofs.LevelLaws.{judged-path}
use Rattle.chain_climb.proofs.WalkLaws.{extends-self}
use Rattle.resolve_round.specs.declared.aim.Aim.{Aim}
use Rattle.resolve_search.specs.declared.round.FoundChain.{FoundChain}
use Rattle.resolve_search.specs.declared.round.RoundEnd.{RoundEnd}
use Rattle.resolve_round.specs.declared.trace.Check.{Check}
use Rattle.resolve_round.specs.declared.trace.Got.TheVariants.{Hit}
use Rattle.resolve_round.specs.declared.trace.Search.{Search}
use Rattle.resolve_round.specs.declared.trace.Trace.{Trace}
use Rattle.resolve_search.specs.Answering.{AsksAgain, AsksNow, Reports, SameCall}
use Rattle.resolve_round.specs.Answers.{AnswersTell, IsRuling}
use Rattle.resolve_round.specs.Asking.{one_if}
use Rattle.resolve_round.specs.Courses.{Counts, Course, Stop, finished, found, is_budget, out_of_calls, out_of_paths, pages_of, url_of}
use Rattle.resolve_search.specs.Driving.{Rules, looks_for}
use Rattle.resolve_round.specs.Getting.{IsSpentAt, Point, point}
use Rattle.resolve_search.specs.Judging.{IsFound, case_at, texts_at}
use Rattle.resolve_round.specs.Knowing.{HoldsSoFar, with_search}
use Rattle.resolve_round.specs.Linking.{LinkSeen, TriesLink, UsesLink}
use Rattle.resolve_round.specs.Pages.{HasValidChain, Query, ToMerge, chain_of}
use Rattle.resolve_round.specs.Rounds.{EndsAs, FoundPath, Round, StopsAt, need_url, pages_in}
use Rattle.resolve_round.specs.Testing.{OnlyTests}
use Rattle.resolve_round.specs.Told.{FetchedText, IsCheck, IsTrueSoFar, NamedByStatement, Obtained, ProvesGood, ShownSealed}
use Rattle.resolve_round.specs.Traces.{ShelfEvent, asks_in, look_at_end, look_for, looks_in, puts_in}
use Rattle.resolve_search.specs.Turning.{IsChain, IsRoundEnd, IsUnderWay, UsesLinkOnce, WantsPageNow, WantsVerdictNow, blank, ended_as, query_at}
use Rattle.resolve_search.proofs.ChainLaws.{case-same}
use Rattle.resolve_search.proofs.DrivingLaws.{drives-page, drives-tests, drives-verdict}
use Rattle.resolve_search.proofs.EndingLaws.{Ending, ending, no_path, nothing, round-at, tells}
use Rattle.resolve_round.proofs.FollowLaws.{follows-begun}
use Rattle.resolve_round.proofs.Following.{AtPage, AtPath, at-page, at-path}
use Rattle.resolve_round.proofs.GettingLaws.{earlier, holds-counts}
use Rattle.resolve_round.proofs.Lasts.{front-taken}
use Rattle.resolve_round.proofs.LinkLaws.{uses-none}
use Rattle.resolve_search.proofs.PathUrls.{chain-asked, found-answered}
use Rattle.resolve_round.proofs.RoundEnds.{plain-end}
use Rattle.resolve_round.proofs.TraceLaws.{ask-good, ask-more}

-- ---- an answer to a page

pub call-then : (start mid now : Trace) → SameCall start mid → SameCall mid now → SameCall start now
call-then start mid now one two = record { moment = two.moment ∙ one.moment; epoch = two.epoch ∙ one.epoch; keys = two.keys ∙ one.keys; bounds = two.bounds ∙ one.bounds; searches = two.searches ∙ one.searches }

unhit_more : (b : Bool) (n : ℕ) → b ≡ false → n ≡ 0 → one_if b n ≡ 0
unhit_more true n nay none = absurd (true≢false nay)
unhit_more false n nay none = none

module _ (aim : Aim) (start : Trace) (p p2 : Point) (s : Searched) (under : IsUnderWay aim start p s) (x : PageAnswer) (reports : Reports aim (page_of x) p p2 x.answer) (same : SameCall p.trace p2.trace) where
  leaf_now : p2.search.leaf ≡ aim.leaf
  leaf_now =
      ⊎_elim (λ (again : AsksAgain (page_of x) p p2). ap (λ (q : Search). q.leaf) again.is ∙ under.of)
      (λ (now : AsksNow aim (page_of x) p p2 x.answer). ap (λ (q : Search). q.leaf) now.is ∙ under.of) reports.source

  unhit_now : aim.looks ≡ false → p2.search.hits ≡ 0
  unhit_now nay =
      ⊎_elim (λ (again : AsksAgain (page_of x) p p2). ap (λ (q : Search). q.hits) again.is ∙ under.unhit nay)
      (λ (now : AsksNow aim (page_of x) p p2 x.answer). ap (λ (q : Search). q.hits) now.is ∙ unhit_more _ p.search.hits (now.unhit nay) (under.unhit nay)) reports.source

  going_now : p2.search.ended ≡ false
  going_now =
      ⊎_elim (λ (again : AsksAgain (page_of x) p p2). ap (λ (q : Search). q.ended) again.is ∙ under.going)
      (λ (now : AsksNow aim (page_of x) p p2 x.answer). ap (λ (q : Search). q.ended) now.is ∙ under.going) reports.source

  -- the round goes on with the answer
  pub page-step : ((found : Findings) → Extends found s.pages → IsNextBy found s (want_of (page_of x))) → answer_to s.pages (page_of x) ≡ None
      → IsUnderWay aim start p2 (record s { pages = s.pages ++ x ∷ [] })
  page-step stays new =
      let driven = drives-page aim (query_at aim start) start s under.needs p p2 under.drives x stays new reports (same.moment ∙ under.drives.moment) in
      record {
        needs = driven.0;
        drives = driven.1;
        call = call-then start p.trace p2.trace under.call same;
        leaf = under.leaf;
        anchor = under.anchor;
        bounds = under.bounds;
        of = leaf_now;
        unhit = unhit_now;
        going = going_now;
      }

-- ---- a verdict on a path

module _ (aim : Aim) (start : Trace) (p : Point) (s : Searched) (under : IsUnderWay aim start p s) (now : Trace) (tests : OnlyTests p.trace now) where
  pub tests-step : IsUnderWay aim start (point now p.search) s
  tests-step = record {
    needs = under.needs;
    drives = drives-tests aim (query_at aim start) start s under.needs p under.drives now tests;
    call = call-then start p.trace now under.call (record { moment = tests.moment; epoch = tests.epoch; keys = tests.keys; bounds = tests.bounds; searches = tests.searches });
    leaf = under.leaf;
    anchor = under.anchor;
    bounds = under.bounds;
    of = under.of;
    unhit = under.unhit;
    going = under.going;
  }

  -- the round goes on with the verdict
  pub verdict-step : (v : Verdict) → IsNoChain v.answer → ((found : Findings) → Extends found s.pages → IsNextBy found s (Judge v.path)) → Rules (query_at aim start) p.search.asks v
      → IsUnderWay aim start (point now p.search) (record s { verdicts = s.verdicts ++ v ∷ [] })
  verdict-step v none stays rules = record {
    needs = under.needs;
    drives =
        drives-verdict aim (query_at aim start) start s under.needs (point now p.search) (drives-tests aim (query_at aim start) start s under.needs p under.drives now tests) v none stays rules;
    call = tests-step.call;
    leaf = under.leaf;
    anchor = under.anchor;
    bounds = under.bounds;
    of = under.of;
    unhit = under.unhit;
    going = under.going;
  }

-- ---- what a verdict says

module _ (aim : Aim) (start : Trace) (p : Point) (s : Searched) (under : IsUnderWay aim start p s) (path : Path) (next : IsNext s (Judge path)) where
  -- it is the chain of this path
  chain_is : (q : Path) → path ≡ with_chain q → chain_of (pages_of p.search.asks) q ≡ texts_at p.search.asks path.urls
  unfolding chain_of
  chain_is q is = ap (λ (x : Path). filter_map (pages_of p.search.asks) x.urls) (sym is)

  case_is : (q : Path) → path ≡ with_chain q
      → case_of (chain_of (pages_of p.search.asks) q) aim.anchor start.keys.keys start.moment ≡ case_at p.trace aim.anchor (texts_at p.search.asks path.urls)
  case_is q is =
      ap (λ (t : Texts). case_of t aim.anchor start.keys.keys start.moment) (chain_is q is)
      ∙ ap (λ (k : JwkSet). case_of (texts_at p.search.asks path.urls) aim.anchor k.keys start.moment) (sym under.call.keys)
      ∙ ap (case_of (texts_at p.search.asks path.urls) aim.anchor p.trace.keys.keys) (sym under.call.moment)

  -- each page of the path was found, so that its URL was asked
  asked_page : (page : Need) → (answer : Report) × (answer_to s.pages page ≡ Some answer) → Among page.url (map url_of p.search.asks)
  asked_page page (answer, gives) = subst (Among page.url) (sym under.drives.asks) (under.drives.follows.asked page answer gives)

  all_asked : (url : List ℕ) → Among url path.urls → Among url (map url_of p.search.asks)
  all_asked url among =
      let at = at-path s next.verdicts next.taken next.left path next.wants in
      let stands : Among at.path (judged (climb (findings_of s.pages) s.leaf s.anchor s.bounds.depth)) =
      subst (Among at.path)
      (sym (ap judged (next.stands.steps ∙ ap (λ l. next.taken ++ l) at.is_left) ∙ filter_map-append judged_by next.taken (judge at.path ∷ at.rest)))
      (among-right at.path (judged next.taken) (at.path ∷ judged at.rest) (inl refl)) in
      let good = judged-path (findings_of s.pages) s.leaf s.anchor s.bounds.depth at.path stands in
      chain-asked (findings_of s.pages) s.leaf s.anchor s.bounds.depth (λ u. Among u (map url_of p.search.asks))
      (λ page claims found. asked_page page (found-answered s.pages page claims found)) at.path good.0 url (subst (λ (x : Path). Among url x.urls) at.is among)

  pub path-rules : (answer : Answer) → IsRuling answer (ToMerge (case_at p.trace aim.anchor (texts_at p.search.asks path.urls))) (IsValid (case_at p.trace aim.anchor (texts_at p.search.asks path.urls)))
      → Rules (query_at aim start) p.search.asks (record { path = path; answer = answer })
  path-rules answer ruled = record {
    ruling = λ q is. subst (λ (case : Case). IsRuling answer (ToMerge case) (IsValid case)) (sym (case_is q is)) ruled;
    asked = all_asked;
  }

-- ---- the end

looks_split : {X : Type 0} (looks : Bool) (xs more : List X) → cond looks (xs ++ more) [] ≡ cond looks xs [] ++ cond looks more []
looks_split true xs more = refl
looks_split false xs more = refl

module _ (aim : Aim) (start : Trace) (p : Point) (s : Searched) (under : IsUnderWay aim start p s) (counts : Counts p.search) (want : Want) (next : IsNext s want) (made : ℕ) (paths : made ≡ length (added next.taken))
    (stop : Stop) where
  abbrev ended : Search
  ended = record p.search { paths = made; ended = is_budget stop }

  abbrev pub ended_course : Course
  ended_course = record { search = ended; looks = aim.looks; needs = under.needs; stop = stop }

  round_is : StopsAt (query_at aim start) (HasValidChain (query_at aim start) (pages_in ended_course)) ended_course next.left stop → Round (query_at aim start) ended_course
  round_is stops =
      round-at aim (query_at aim start) start s under.needs p under.drives under.leaf under.anchor under.bounds refl ended refl refl under.of
      (record { hits = counts.hits; faults = counts.faults; calls = counts.calls }) stop want next paths refl stops

  -- the round ends so, where its last Look is one that the stop calls for
  pub round-end : (trace : Trace) (end : End) (chain : Option FoundChain) → StopsAt (query_at aim start) (HasValidChain (query_at aim start) (pages_in ended_course)) ended_course next.left stop
      → EndsAs (query_at aim start) ended_course end → looks_in trace.events ≡ looks_in p.trace.events ++ cond aim.looks (look_at_end start.moment stop) [] → puts_in trace.events ≡ puts_in p.trace.events
      → IsChain (query_at aim start) trace ended_course chain → IsRoundEnd aim start (point trace ended) (record { end = end; chain = chain })
  round-end trace end chain stops ends looks puts told = record {
    course = ended_course;
    is = refl;
    looked = refl;
    round = round_is stops;
    ends = ends;
    unhit = under.unhit;
    looks =
        looks ∙ ap (λ l. l ++ cond aim.looks (look_at_end start.moment stop) []) under.drives.looks
        ∙ append_assoc (looks_in start.events) (looks_for aim.looks start.moment p.search.asks) (cond aim.looks (look_at_end start.moment stop) [])
        ∙ ap (λ l. looks_in start.events ++ l) (sym (looks_split aim.looks (map (look_for start.moment) p.search.asks) (look_at_end start.moment stop)));
    puts = puts ∙ under.drives.puts;
    chain = told;
  }

cond_none : (b : Bool) → ◌≡◌ {A = List ShelfEvent} (cond b [] []) []
cond_none true = refl
cond_none false = refl

-- no Look was made at the end
no_look-more : (looks : Bool) (all : List ShelfEvent) → all ≡ all ++ cond looks [] []
no_look-more looks all = sym (append-nil all) ∙ ap (λ l. all ++ l) (sym (cond_none looks))

-- ---- the end at a valid path

module _ (aim : Aim) (start : Trace) (p : Point) (s : Searched) (under : IsUnderWay aim start p s) (counts : Counts p.search) (path : Path) (next : IsNext s (Judge path)) (made : ℕ) (paths : made ≡ length (added next.taken))
    (texts : List Tried) (resolved : Resolved) (is_found : IsFound p.trace (case_at p.trace aim.anchor (texts_at p.search.asks path.urls)) texts resolved) where
  at : AtPath s next.verdicts path next.left
  at = at-path s next.verdicts next.taken next.left path next.wants

  found_here : IsFound p.trace (case_of (chain_of (pages_of p.search.asks) at.path) aim.anchor start.keys.keys start.moment) texts resolved
  found_here = subst (λ case. IsFound p.trace case texts resolved) (sym (case_is aim start p s under path next at.path at.is)) is_found

  abbrev course : Course
  course = ended_course aim start p s under counts (Judge path) next made paths (found at.path)

  found_stops : StopsAt (query_at aim start) (HasValidChain (query_at aim start) (pages_in course)) course next.left (found at.path)
  found_stops = subst (λ l. StopsAt (query_at aim start) (HasValidChain (query_at aim start) (pages_in course)) course l (found at.path)) (sym at.is_left) (refl, found_here.verdict.0)

  pub found-end : IsRoundEnd aim start (point p.trace (record p.search { paths = made; ended = false })) (record { end = Ended.Found path; chain = Some (record { texts = texts; resolved = resolved }) })
  found-end =
      round-end aim start p s under counts (Judge path) next made paths (found at.path) p.trace (Ended.Found path) (Some (record { texts = texts; resolved = resolved })) found_stops (at.path, refl, at.is)
      (no_look-more aim.looks (looks_in p.trace.events)) refl (at.path, refl, found_here)

-- ---- the end where all calls were made

module _ (aim : Aim) (start : Trace) (p p2 : Point) (s : Searched) (under : IsUnderWay aim start p s) (counts : Counts p.search) (page : Need) (next : IsNext s (want_of page)) (made : ℕ) (paths : made ≡ length (added next.taken))
    (is : IsSpentAt aim.looks aim.bounds.calls page.url p p2) where
  at_need : AtPage s next.verdicts page next.left
  at_need = at-page s next.verdicts next.taken next.left page next.wants

  abbrev spent_course : Course
  spent_course = ended_course aim start p s under counts (want_of page) next made paths (out_of_calls page)

  all_calls : p.search.calls ≡ aim.bounds.calls
  all_calls = let few = under.drives.few in let all = is.all in omega (arith, few, all)

  unasked : ¬ Among page.url (map need_url under.needs)
  unasked among = is.fresh (subst (Among page.url) (sym under.drives.asks) among)

  spent_stops : StopsAt (query_at aim start) (HasValidChain (query_at aim start) (pages_in spent_course)) spent_course next.left (out_of_calls page)
  spent_stops =
      subst (λ l. StopsAt (query_at aim start) (HasValidChain (query_at aim start) (pages_in spent_course)) spent_course l (out_of_calls page)) (sym at_need.is_left) (refl, unasked, all_calls)

  not_found : ¬ FoundPath spent_course
  not_found (path, stop) = cc stop

  looked : looks_in p2.trace.events ≡ looks_in p.trace.events ++ cond aim.looks (look_at_end start.moment (out_of_calls page)) []
  looked = is.added.looks ∙ ap (λ t. looks_in p.trace.events ++ cond aim.looks (look_at_end t (out_of_calls page)) []) under.call.moment

  pub spent-end : IsRoundEnd aim start (point p2.trace (record p2.search { paths = made; ended = true })) (record { end = Ended.Budget p2.search.calls made; chain = None })
  spent-end =
      subst (λ (q : Search). IsRoundEnd aim start (point p2.trace (record q { paths = made; ended = true })) (record { end = Ended.Budget q.calls made; chain = None })) (sym is.is)
      (round-end aim start p s under counts (want_of page) next made paths (out_of_calls page) p2.trace (Ended.Budget p.search.calls made) None spent_stops (refl, refl, refl) looked is.added.puts not_found)

-- ---- the end of the session

done_is : (a b : End) → Done a ≡ Done b → a ≡ b
done_is a b same = cc same

plain_open : (s : Searched) (end : End) → IsPlainEnd s end → ended_as end false ≡ false
plain_open s Ended.NoLeaf plain = refl
plain_open s Ended.PolicyOnly plain = refl
plain_open s Ended.NoChain plain = refl
plain_open s (Ended.Found path) plain = absurd plain
plain_open s (Ended.Budget calls paths) plain = absurd plain

module _ (aim : Aim) (start : Trace) (p : Point) (s : Searched) (under : IsUnderWay aim start p s) (counts : Counts p.search) (last : End) (next : IsNext s (Done last)) (made : ℕ) (paths : made ≡ length (added next.taken)) where
  abbrev DoneAs : Type 0
  DoneAs = IsRoundEnd aim start (point p.trace (record p.search { paths = made; ended = ended_as last p.search.ended })) (record { end = last; chain = None })

  abbrev done_course : Stop → Course
  done_course stop = ended_course aim start p s under counts (Done last) next made paths stop

  told : (stop : Stop) → AnswersTell (query_at aim start) (done_course stop) s
  told stop =
      tells aim (query_at aim start) start s under.needs p under.drives under.leaf under.anchor under.bounds refl (done_course stop).search refl refl under.of
      (record { hits = counts.hits; faults = counts.faults; calls = counts.calls }) stop

  no_chain : (stop : Stop) → ((path : Path) → stop ≡ found path → ⊥) → ¬ FoundPath (done_course stop)
  no_chain stop apart (path, is) = apart path is

  -- nothing is left
  by_nothing : next.left ≡ [] → Wants s next.verdicts next.taken [] (Done last) → DoneAs
  by_nothing none (same, (end, is, plain)) =
      let one : last ≡ end = done_is last end is in
      let here : IsPlainEnd s last = subst (IsPlainEnd s) (sym one) plain in
      let ends = plain-end (query_at aim start) (done_course finished) s (Done last) next (told finished) none same refl last here in
      let opened : ended_as last p.search.ended ≡ false = ap (ended_as last) under.going ∙ plain_open s last here in
      subst (λ b. IsRoundEnd aim start (point p.trace (record p.search { paths = made; ended = b })) (record { end = last; chain = None })) (sym opened)
      (round-end aim start p s under counts (Done last) next made paths finished p.trace last None
      (subst (λ l. StopsAt (query_at aim start) (HasValidChain (query_at aim start) (pages_in (done_course finished))) (done_course finished) l finished) (sym none) tt)
      ends (no_look-more aim.looks (looks_in p.trace.events)) refl (no_chain finished (λ path is. cc is)))

  -- a path may not be added
  by_path : (path : Path) (rest : List Step) → next.left ≡ add path ∷ rest → Wants s next.verdicts next.taken (add path ∷ rest) (Done last) → DoneAs
  by_path path rest is (same, most, budget) =
      let one : last ≡ Ended.Budget (calls_in s.pages) (length (added next.taken)) = done_is last _ budget in
      let bound : length (added next.taken) ≡ aim.bounds.paths = most ∙ ap (λ (b : Bounds). b.paths) under.bounds in
      let ends : EndsAs (query_at aim start) (done_course (out_of_paths path)) (Ended.Budget (calls_in s.pages) (length (added next.taken))) = (refl, under.drives.calls, sym paths) in
      let closed : ended_as last p.search.ended ≡ true = ap (λ e. ended_as e p.search.ended) one in
      subst (λ b. IsRoundEnd aim start (point p.trace (record p.search { paths = made; ended = b })) (record { end = last; chain = None })) (sym closed)
      (round-end aim start p s under counts (Done last) next made paths (out_of_paths path) p.trace last None
      (subst (λ l. StopsAt (query_at aim start) (HasValidChain (query_at aim start) (pages_in (done_course (out_of_paths path)))) (done_course (out_of_paths path)) l (out_of_paths path)) (sym is)
      (refl, paths ∙ bound))
      (subst (EndsAs (query_at aim start) (done_course (out_of_paths path))) (sym one) ends)
      (no_look-more aim.looks (looks_in p.trace.events)) refl (no_chain (out_of_paths path) (λ q is. cc is)))

  by_ending : Ending s next.taken next.left → DoneAs
  by_ending (nothing none) = by_nothing none (subst (λ l. Wants s next.verdicts next.taken l (Done last)) none next.wants)
  by_ending (no_path path rest is most) = by_path path rest is (subst (λ l. Wants s next.verdicts next.taken l (Done last)) is next.wants)

  pub done-end : DoneAs
  done-end = by_ending (ending s under.drives.answered under.drives.follows.none next.verdicts next.taken next.left last next.wants)

-- ---- the beginning

asks_blank : (searches : List Search) (leaf : List ℕ) → asks_in (searches ++ blank leaf ∷ []) ≡ asks_in searches
asks_blank [] leaf = refl
asks_blank (search ∷ searches) leaf = ap (λ l. search.asks ++ l) (asks_blank searches leaf)

module _ (searches : List Search) (leaf : List ℕ) where
  obtained_blank : (url text : List ℕ) → Obtained searches url text → Obtained (searches ++ blank leaf ∷ []) url text
  obtained_blank url text (ask, among, at, got) = (ask, subst (Among ask) (sym (asks_blank searches leaf)) among, at, got)

  fetched_blank : (url text : List ℕ) → FetchedText searches url text → FetchedText (searches ++ blank leaf ∷ []) url text
  fetched_blank url text (ask, among, at, got) = (ask, subst (Among ask) (sym (asks_blank searches leaf)) among, at, got)

  check_blank : (keys : List Jwk) (check : Check) → IsCheck searches keys check → IsCheck (searches ++ blank leaf ∷ []) keys check
  check_blank keys check is = record {
    url = is.url;
    obtained = obtained_blank is.url check.text is.obtained;
    named =
        ⊎_elim
        (λ (own : NamedByStatement searches check.text check.public). inl (own.0, own.1, own.2, obtained_blank own.0 own.1 own.3, own.4, own.5))
        (λ anchor. inr anchor) is.named;
    answer = is.answer;
  }

-- a round that has asked nothing leaves what is told, and what is proved
pub told-blank : (age : ℕ) (t : Trace) (leaf : List ℕ) → IsTrueSoFar age t → IsTrueSoFar age (record t { searches = t.searches ++ blank leaf ∷ [] })
told-blank age t leaf told = record {
  looks = told.looks;
  hits = λ url proven among. told.hits url proven (subst (Among (record { url = url; got = Hit proven })) (asks_blank t.searches leaf) among);
  puts = λ kept among. let put = told.puts kept among in (fetched_blank t.searches leaf kept.url kept.text put.0, put.1);
  proves = told.proves;
  checks = record { each = λ check among. check_blank t.searches leaf t.keys.keys check (told.checks.each check among); once = told.checks.once };
  counts = λ search among.
      ⊎_elim (λ old. told.counts search old)
      (λ last. ⊎_elim (λ same. subst Counts (sym same) (record { hits = refl; faults = refl; calls = refl })) (λ none. absurd none) last)
      (among-split search t.searches (blank leaf ∷ []) among);
  untested = told.untested;
}

pub good-blank : (t : Trace) (leaf : List ℕ) → ProvesGood t → ProvesGood (record t { searches = t.searches ++ blank leaf ∷ [] })
good-blank t leaf good check among aye =
    let is = good check among aye in
    record {
      url = is.url;
      obtained = obtained_blank t.searches leaf is.url check.text is.obtained;
      before = is.before;
      answer = is.answer;
      after = is.after;
      stands = is.stands;
      placed = is.placed;
    }

-- the rounds before the stand-in of the one that is under way
pub earlier-is : (old : List Search) (x : Search) → take (length (old ++ x ∷ []) - 1) (old ++ x ∷ []) ≡ old
earlier-is old x = front-taken old (old ++ x ∷ []) x (length (old ++ x ∷ []) - 1) (let n = length_push old x in omega (arith, n)) refl

-- the trace with the round in the place of its stand-in
pub with-search_is : (t : Trace) (old : List Search) (x search : Search) → t.searches ≡ old ++ x ∷ [] → with_search t search ≡ record t { searches = old ++ search ∷ [] }
with-search_is t old x search is = ap (λ l. record t { searches = l ++ search ∷ [] }) (ap (λ l. take (length l - 1) l) is ∙ earlier-is old x)

calls_none : calls_in [] ≡ 0
unfolding calls_in
calls_none = refl

answers_none : (page : Need) (answer : Report) → answer_to [] page ≡ Some answer → ⊥
unfolding answer_to
answers_none page answer is = cc is

pub begin-under : (aim : Aim) (start : Trace) → IsUnderWay aim start (point start (blank aim.leaf)) (begun aim.leaf aim.anchor aim.bounds)
begin-under aim start = record {
  needs = [];
  drives = record {
    moment = refl;
    follows = follows-begun aim.leaf aim.anchor aim.bounds;
    asks = refl;
    pages = λ page answer gives ok. absurd (answers_none page answer gives);
    answered = λ a none. absurd none;
    verdicts = λ v none. absurd none;
    flags = λ url. refl;
    calls = calls_none;
    few = omega arith;
    looks = no_look-more aim.looks (looks_in start.events);
    puts = sym (append-nil (puts_in start.events));
  };
  call = record { moment = refl; epoch = refl; keys = refl; bounds = refl; searches = refl };
  leaf = refl;
  anchor = refl;
  bounds = refl;
  of = refl;
  unhit = λ nay. refl;
  going = refl;
}

-- ---- an answer that is given

-- the answer to a page, with its report
abbrev pub answer_of : Need → Report → PageAnswer
answer_of page report = record { issuer = page.issuer; subject = page.subject; url = page.url; answer = report }

with_report : (s : Searched) (page : Need) (o : Option Report) (report : Report) → o ≡ Some report → with_page s page o ≡ record s { pages = s.pages ++ answer_of page report ∷ [] }
with_report s page o report is = ap (with_page s page) is

given_by : (b : Bool) (s : Searched) (page : Need) (answer : Answer) → bytes_eq page.issuer page.subject ≡ b
    → given_to s (cond b (Config page.issuer page.url) (Superior page.issuer page.subject page.url)) answer ≡ with_page s page (report_in answer)
given_by true s page answer is = ap (λ subject. with_page s (page_named page.issuer subject page.url) (report_in answer)) (equal-bytes_eq page.issuer page.subject is)
given_by false s page answer is = refl

pub given-page : (s : Searched) (page : Need) (answer : Answer) (report : Report) → next_want s ≡ want_of page → report_in answer ≡ Some report
    → given s answer ≡ record s { pages = s.pages ++ answer_of page report ∷ [] }
given-page s page answer report want is =
    ap (λ w. given_to s w answer) want ∙ given_by (bytes_eq page.issuer page.subject) s page answer refl ∙ with_report s page (report_in answer) report is

pub given-verdict : (s : Searched) (path : Path) (answer : Answer) → next_want s ≡ Judge path → given s answer ≡ record s { verdicts = s.verdicts ++ record { path = path; answer = answer } ∷ [] }
given-verdict s path answer want = ap (λ w. given_to s w answer) want

fits_by : (b : Bool) (s : Searched) (page : Need) (answer : Answer) → bytes_eq page.issuer page.subject ≡ b → FitsPage (was_asked s.pages page.url) (calls_in s.pages) s.bounds.calls (report_in answer)
    → Fits s (cond b (Config page.issuer page.url) (Superior page.issuer page.subject page.url)) answer
fits_by true s page answer is fits = fits
fits_by false s page answer is fits = fits

not_any : (b : Bool) (url : List ℕ) (urls : List (List ℕ)) → ¬ Among url urls → list_any (bytes_eq url) urls ≡ b → list_any (bytes_eq url) urls ≡ false
not_any true url urls fresh is = absurd (fresh (among-any url urls is))
not_any false url urls fresh is = is

again_fits : (calls most : ℕ) (report : Report) → IsPageAnswer report → FitsPage true calls most (Some report)
again_fits calls most (Good statement origin) ok = tt
again_fits calls most (Useless origin) ok = tt
again_fits calls most Fault ok = tt
again_fits calls most Spent ok = absurd ok

-- the report on a page fits its want
pub fits-page : (aim : Aim) (start : Trace) (p p2 : Point) (s : Searched) (under : IsUnderWay aim start p s) (page : Need) (answer : Answer) (report : Report) → next_want s ≡ want_of page → report_in answer ≡ Some report
    → Reports aim page p p2 report → Fits s (next_want s) answer
fits-page aim start p p2 s under page answer report want is reports =
    subst (λ w. Fits s w answer) (sym want)
    (fits_by (bytes_eq page.issuer page.subject) s page answer refl
    (subst (FitsPage (was_asked s.pages page.url) (calls_in s.pages) s.bounds.calls) (sym is)
    (⊎_elim
    (λ (again : AsksAgain page p p2).
    subst (λ b. FitsPage b (calls_in s.pages) s.bounds.calls (Some report)) (sym (under.drives.flags page.url ∙ any-among page.url (map url_of p.search.asks) again.asked))
    (again_fits (calls_in s.pages) s.bounds.calls report reports.ok))
    (λ (now : AsksNow aim page p p2 report).
    subst (λ b. FitsPage b (calls_in s.pages) s.bounds.calls (Some report)) (sym (under.drives.flags page.url ∙ not_any (list_any (bytes_eq page.url) (map url_of p.search.asks)) page.url (map url_of p.search.asks) now.fresh refl))
    (subst (λ n. FitsPage false n s.bounds.calls (Some report)) (sym under.drives.calls) (subst (λ (b : Bounds). FitsPage false p.search.calls b.calls (Some report)) (sym under.bounds) now.fits)))
    reports.source)))

-- ---- what is wanted

pub wants-configuration : (s : Searched) (entity url : List ℕ) → next_want s ≡ Config entity url → ((found : Findings) → Extends found s.pages → IsNextBy found s (Config entity url)) → WantsNew s (Config entity url)
    → WantsPageNow s (page_named entity entity url)
wants-configuration s entity url want stays new =
    let same : want_of (page_named entity entity url) ≡ Config entity url = ap (λ b. cond b (Config entity url) (Superior entity entity url)) (bytes_eq-itself entity) in
    record {
      want = want ∙ sym same;
      stays = λ found extends. subst (IsNextBy found s) (sym same) (stays found extends);
      new = new (page_named entity entity url) refl;
    }

-- a superior's statement is wanted about another entity
other_by : (b : Bool) (issuer subject at a c url : List ℕ) → bytes_eq issuer subject ≡ b → Superior a c url ≡ cond b (Config issuer at) (Superior issuer subject at) → bytes_eq a c ≡ false
other_by true issuer subject at a c url is same = cc same
other_by false issuer subject at a c url is same =
    let one : a ≡ issuer = cc same in
    let two : c ≡ subject = cc same in
    ap (λ x. bytes_eq x c) one ∙ ap (bytes_eq issuer) two ∙ is

other_page : (s : Searched) (taken : List Step) (page : Need) (o : Option Report) (a c url : List ℕ) → WantsPage s taken page o (Superior a c url) → bytes_eq a c ≡ false
other_page s taken page None a c url wants = other_by (bytes_eq page.issuer page.subject) page.issuer page.subject page.url a c url refl wants
other_page s taken page (Some Spent) a c url wants = cc wants
other_page s taken page (Some (Good x y)) a c url wants = absurd wants
other_page s taken page (Some (Useless y)) a c url wants = absurd wants
other_page s taken page (Some Fault) a c url wants = absurd wants

no_done : (a c url : List ℕ) (end : End) → Superior a c url ≡ Done end → ⊥
no_done a c url end same = cc same

no_judge : (a c url : List ℕ) (path : Path) → Superior a c url ≡ Judge path → ⊥
no_judge a c url path same = cc same

other_names : (s : Searched) (verdicts : List Verdict) (taken left : List Step) (a c url : List ℕ) → Wants s verdicts taken left (Superior a c url) → bytes_eq a c ≡ false
other_names s verdicts taken [] a c url wants = absurd (no_done a c url wants.1.0 wants.1.1)
other_names s verdicts taken (need page ∷ left) a c url wants = other_page s taken page (answer_to s.pages page) a c url wants.1
other_names s verdicts taken (judge path ∷ left) a c url (inl w) = absurd (no_judge a c url (with_chain path) w.1)
other_names s verdicts taken (judge path ∷ left) a c url (inr w) = absurd (no_done a c url _ w.1)
other_names s verdicts taken (add path ∷ left) a c url wants = absurd (no_done a c url _ wants.2)

pub wants-statement : (s : Searched) (superior subject url : List ℕ) → next_want s ≡ Superior superior subject url → (next : IsNext s (Superior superior subject url))
    → ((found : Findings) → Extends found s.pages → IsNextBy found s (Superior superior subject url)) → WantsNew s (Superior superior subject url) → WantsPageNow s (page_named superior subject url)
wants-statement s superior subject url want next stays new =
    let same : want_of (page_named superior subject url) ≡ Superior superior subject url =
    ap (λ b. cond b (Config superior url) (Superior superior subject url)) (other_names s next.verdicts next.taken next.left superior subject url next.wants) in
    record {
      want = want ∙ sym same;
      stays = λ found extends. subst (IsNextBy found s) (sym same) (stays found extends);
      new = new (page_named superior subject url) refl;
    }

-- ---- the counts of a round that has ended

-- the number of its paths and whether it ended at a bound say nothing of its asks
module _ (age : ℕ) (t : Trace) (search : Search) (n : ℕ) (e : Bool) where
  abbrev pub at_end : Search
  at_end = record search { paths = n; ended = e }

  holds-end : HoldsSoFar age search t → HoldsSoFar age at_end t
  holds-end holds =
      ask-more age (with_search t search) (earlier t) search at_end refl (λ ask among. among) holds (λ url proven among. inl among)
      (let counts = holds-counts age search t holds in record { hits = counts.hits; faults = counts.faults; calls = counts.calls })

  good-end : ProvesGood (with_search t search) → ProvesGood (with_search t at_end)
  good-end good = ask-good age (with_search t search) (earlier t) search at_end refl (λ ask among. among) good

uses-end : (extra : ℕ) (a b : LinkSeen) (before mid : Search) (n : ℕ) (e : Bool) → UsesLink extra a b before mid → UsesLink extra a b before (record mid { paths = n; ended = e })
uses-end extra a b before mid n e u = record {
  calls = u.calls;
  calls_are = u.calls_are;
  called = u.called;
  faults = u.faults;
  faults_are = u.faults_are;
  later = u.later;
  failed = u.failed;
  shown = u.shown;
  web = u.web;
  fetched = u.fetched;
}

-- the same of a round that is so
module _ (age : ℕ) (t : Trace) (search now : Search) (e : Bool) (is : now ≡ record search { paths = now.paths; ended = e }) where
  pub holds-ended : HoldsSoFar age search t → HoldsSoFar age now t
  holds-ended holds = subst (λ s. HoldsSoFar age s t) (sym is) (holds-end age t search now.paths e holds)

  pub good-ended : ProvesGood (with_search t search) → ProvesGood (with_search t now)
  good-ended good = subst (λ s. ProvesGood (with_search t s)) (sym is) (good-end age t search now.paths e good)

pub uses-ended : (extra : ℕ) (a b : LinkSeen) (before mid now : Search) (e : Bool) → now ≡ record mid { paths = now.paths; ended = e } → UsesLink extra a b before mid → UsesLink extra a b before now
uses-ended extra a b before mid now e is u = subst (UsesLink extra a b before) (sym is) (uses-end extra a b before mid now.paths e u)

-- the number of its paths and whether it ended say nothing of what it asked
pub asks-ended : (mid now : Search) (e : Bool) → now ≡ record mid { paths = now.paths; ended = e } → now.asks ≡ mid.asks
asks-ended mid now e is = ap (λ (s : Search). s.asks) is

-- ---- the session grows

pub grows-page : (s now : Searched) (x : PageAnswer) → now ≡ record s { pages = s.pages ++ x ∷ [] } → length s.pages + length s.verdicts < length now.pages + length now.verdicts
grows-page s now x is =
    let pages = ap (λ (q : Searched). length q.pages) is ∙ length_push s.pages x in
    let verdicts = ap (λ (q : Searched). length q.verdicts) is in
    omega (arith, pages, verdicts)

pub grows-verdict : (s now : Searched) (v : Verdict) → now ≡ record s { verdicts = s.verdicts ++ v ∷ [] } → length s.pages + length s.verdicts < length now.pages + length now.verdicts
grows-verdict s now v is =
    let pages = ap (λ (q : Searched). length q.pages) is in
    let verdicts = ap (λ (q : Searched). length q.verdicts) is ∙ length_push s.verdicts v in
    omega (arith, pages, verdicts)

-- ---- a turn

-- the answer to a page was given
pub page-turn : (aim : Aim) (start : Trace) (p p2 : Point) (s now : Searched) (under : IsUnderWay aim start p s) (page : Need) (wants : WantsPageNow s page) (answer : Answer) (report : Report) → report_in answer ≡ Some report
    → Reports aim page p p2 report → SameCall p.trace p2.trace → now ≡ given s answer → IsUnderWay aim start p2 now
page-turn aim start p p2 s now under page wants answer report is reports same gives =
    subst (IsUnderWay aim start p2) (sym (gives ∙ given-page s page answer report wants.want is))
    (page-step aim start p p2 s under (answer_of page report) reports same wants.stays wants.new)

-- all calls were made
pub spent-turn : (aim : Aim) (start : Trace) (p p2 : Point) (s : Searched) (under : IsUnderWay aim start p s) (counts : Counts p.search) (page : Need) → next_want s ≡ want_of page → IsSpentAt aim.looks aim.bounds.calls page.url p p2
    → (search : Search) → HasMade s (next_want s) search.paths → search ≡ record p2.search { paths = search.paths; ended = true } → (end : RoundEnd)
    → end ≡ record { end = Ended.Budget p2.search.calls search.paths; chain = None } → IsRoundEnd aim start (point p2.trace search) end
spent-turn aim start p p2 s under counts page want spent search made is end ends =
    let at : HasMade s (want_of page) search.paths = subst (λ w. HasMade s w search.paths) want made in
    subst (λ q. IsRoundEnd aim start (point p2.trace q) end) (sym is)
    (subst (IsRoundEnd aim start (point p2.trace (record p2.search { paths = search.paths; ended = true }))) (sym ends) (spent-end aim start p p2 s under counts page at.0 search.paths at.1 spent))

-- a verdict was given on a chain that isn't valid
pub verdict-turn : (aim : Aim) (start : Trace) (p : Point) (s now : Searched) (under : IsUnderWay aim start p s) (trace : Trace) (tests : OnlyTests p.trace trace) (path : Path) (wants : WantsVerdictNow s path) (answer : Answer) → IsNoChain answer
    → IsRuling answer (ToMerge (case_at p.trace aim.anchor (texts_at p.search.asks path.urls))) (IsValid (case_at p.trace aim.anchor (texts_at p.search.asks path.urls))) → now ≡ given s answer
    → IsUnderWay aim start (point trace p.search) now
verdict-turn aim start p s now under trace tests path wants answer none ruled gives =
    subst (IsUnderWay aim start (point trace p.search)) (sym (gives ∙ given-verdict s path answer wants.want))
    (verdict-step aim start p s under trace tests (record { path = path; answer = answer }) none wants.stays
    (path-rules aim start p s under path (wants.stays (findings_of s.pages) (extends-self s.pages)) answer ruled))

-- a valid chain was found
pub found-turn : (aim : Aim) (start : Trace) (p : Point) (s : Searched) (under : IsUnderWay aim start p s) (counts : Counts p.search) (trace : Trace) (tests : OnlyTests p.trace trace) (path : Path) → next_want s ≡ Judge path
    → (texts : List Tried) (resolved : Resolved) → IsFound trace (case_at p.trace aim.anchor (texts_at p.search.asks path.urls)) texts resolved
    → (search : Search) → HasMade s (next_want s) search.paths → search ≡ record p.search { paths = search.paths } → (end : RoundEnd)
    → end ≡ record { end = Ended.Found path; chain = Some (record { texts = texts; resolved = resolved }) } → IsRoundEnd aim start (point trace search) end
found-turn aim start p s under counts trace tests path want texts resolved is_found search made is end ends =
    let at : HasMade s (Judge path) search.paths = subst (λ w. HasMade s w search.paths) want made in
    let later = tests-step aim start p s under trace tests in
    let here = subst (λ case. IsFound trace case texts resolved) (sym (case-same p.trace trace aim.anchor (texts_at p.search.asks path.urls) (texts_at p.search.asks path.urls) tests refl)) is_found in
    let opened : record p.search { paths = search.paths; ended = false } ≡ record p.search { paths = search.paths } = ap (λ b. record p.search { paths = search.paths; ended = b }) (sym under.going) in
    subst (λ q. IsRoundEnd aim start (point trace q) end) (opened ∙ sym is)
    (subst (IsRoundEnd aim start (point trace (record p.search { paths = search.paths; ended = false }))) (sym ends)
    (found-end aim start (point trace p.search) s later counts path at.0 search.paths at.1 texts resolved here))

-- the session wants nothing more
pub done-turn : (aim : Aim) (start : Trace) (p : Point) (s : Searched) (under : IsUnderWay aim start p s) (counts : Counts p.search) (last : End) → next_want s ≡ Done last
    → (search : Search) → HasMade s (next_want s) search.paths → search ≡ record p.search { paths = search.paths; ended = ended_as last p.search.ended } → (end : RoundEnd) → end ≡ record { end = last; chain = None }
    → IsRoundEnd aim start (point p.trace search) end
done-turn aim start p s under counts last want search made is end ends =
    let at : HasMade s (Done last) search.paths = subst (λ w. HasMade s w search.paths) want made in
    subst (λ q. IsRoundEnd aim start (point p.trace q) end) (sym is)
    (subst (IsRoundEnd aim start (point p.trace (record p.search { paths = search.paths; ended = ended_as last p.search.ended }))) (sym ends) (done-end aim start p s under counts last at.0 search.paths at.1))

-- ---- what holds whatever the result

pub ok-always : {X E P : Type 0} (r : Result X E) → P → OnOk r P
ok-always (Ok x) p = p
ok-always (Err e) p = tt

-- ---- the whole round

-- as it begins, with a stand-in at its place in the trace
module _ (age : ℕ) (t : Trace) (leaf : List ℕ) (stand search : Search) (pushed : List Search) (is : pushed ≡ t.searches ++ stand ∷ []) (fresh : search ≡ blank leaf) where
  pub round-begins : IsTrueSoFar age t → HoldsSoFar age search (record t { searches = pushed })
  round-begins told =
      subst (λ s. HoldsSoFar age s (record t { searches = pushed })) (sym fresh)
      (subst (IsTrueSoFar age) (sym (with-search_is (record t { searches = pushed }) t.searches stand (blank leaf) is)) (told-blank age t leaf told))

  pub round-good : ProvesGood t → ProvesGood (with_search (record t { searches = pushed }) search)
  round-good good =
      subst (λ s. ProvesGood (with_search (record t { searches = pushed }) s)) (sym fresh)
      (subst ProvesGood (sym (with-search_is (record t { searches = pushed }) t.searches stand (blank leaf) is)) (good-blank t leaf good))

-- as it stands in the trace at its end
module _ (age : ℕ) (t : Trace) (old : List Search) (stand search : Search) (searches : List Search) (is : t.searches ≡ old ++ stand ∷ []) (new : searches ≡ old ++ search ∷ []) where
  pub round-told : HoldsSoFar age search t → IsTrueSoFar age (record t { searches = searches })
  round-told holds = subst (λ l. IsTrueSoFar age (record t { searches = l })) (sym new) (subst (IsTrueSoFar age) (with-search_is t old stand search is) holds)

  pub round-proved : ProvesGood (with_search t search) → ProvesGood (record t { searches = searches })
  round-proved good = subst (λ l. ProvesGood (record t { searches = l })) (sym new) (subst ProvesGood (with-search_is t old stand search is) good)

-- what is told of a chain says nothing of the rounds
shown_by : (t : Trace) (searches : List Search) (keys : List Jwk) (text : List ℕ) → ShownSealed t keys text → ShownSealed (record t { searches = searches }) keys text
shown_by t searches keys text is = record { public = is.public; named = is.named; known = is.known }

found_by : (t : Trace) (searches : List Search) (case : Case) (chain : List Tried) (resolved : Resolved) → IsFound t case chain resolved → IsFound (record t { searches = searches }) case chain resolved
found_by t searches case chain resolved is = record {
  verdict = is.verdict;
  written = is.written;
  are = is.are;
  shown = λ i less. shown_by t searches _ _ (is.shown i less);
}

chain_by : (query : Query) (t : Trace) (searches : List Search) (course : Course) (chain : Option FoundChain) → IsChain query t course chain → IsChain query (record t { searches = searches }) course chain
chain_by query t searches c None none = none
chain_by query t searches c (Some chain) (path, stop, is) = (path, stop, found_by t searches _ chain.texts chain.resolved is)

-- nor does the end of a round
pub round-ends : (aim : Aim) (t u : Trace) (before after : List Search) (search : Search) (end : RoundEnd) → IsRoundEnd aim (record t { searches = before }) (point u search) end
    → IsRoundEnd aim t (point (record u { searches = after }) search) end
round-ends aim t u before after search end is = record {
  course = is.course;
  is = is.is;
  looked = is.looked;
  round = is.round;
  ends = is.ends;
  unhit = is.unhit;
  looks = is.looks;
  puts = is.puts;
  chain = chain_by (query_at aim t) u after is.course end.chain is.chain;
}

-- no round was added, and the link wasn't called
pub link-unused : (seen : LinkSeen) (old new : Trace) → new.searches ≡ old.searches → UsesLinkOnce 0 seen seen old new
link-unused seen old new same = record { search = blank []; added = inl same; used = uses-none seen (blank []) (blank []) refl; none = λ _. refl }

no_more : (old : List Search) (search : Search) → old ++ search ∷ [] ≡ old → ⊥
no_more old search same = let n = ap length same in let m = length_push old search in absurd (omega (arith, n, m))

-- whose the round is says nothing of the link
uses_blank : (extra : ℕ) (seen now : LinkSeen) (leaf : List ℕ) (search : Search) → UsesLink extra seen now (blank leaf) search → UsesLink extra seen now (blank []) search
uses_blank extra seen now leaf search u = record {
  calls = u.calls;
  calls_are = u.calls_are;
  called = u.called;
  faults = u.faults;
  faults_are = u.faults_are;
  later = u.later;
  failed = u.failed;
  shown = u.shown;
  web = u.web;
  fetched = u.fetched;
}

-- one was
pub link-used : (extra : ℕ) (seen now : LinkSeen) (leaf : List ℕ) (old new : Trace) (before search : Search) → before ≡ blank leaf → new.searches ≡ old.searches ++ search ∷ [] → UsesLink extra seen now before search
    → UsesLinkOnce extra seen now old new
link-used extra seen now leaf old new before search fresh added uses = record {
  search = search;
  added = inr added;
  used = uses_blank extra seen now leaf search (subst (λ b. UsesLink extra seen now b search) fresh uses);
  none = λ same. absurd (no_more old.searches search (sym added ∙ same));
}

pub link-tried : (seen now : LinkSeen) (leaf : List ℕ) (old new : Trace) (before search : Search) → before ≡ blank leaf → new.searches ≡ old.searches ++ search ∷ [] → TriesLink seen now before search
    → UsesLinkOnce 0 seen now old new ⊎ UsesLinkOnce 1 seen now old new
link-tried seen now leaf old new before search fresh added (inl uses) = inl (link-used 0 seen now leaf old new before search fresh added uses)
link-tried seen now leaf old new before search fresh added (inr uses) = inr (link-used 1 seen now leaf old new before search fresh added uses)
