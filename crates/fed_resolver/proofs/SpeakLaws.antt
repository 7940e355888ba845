-- What a call answers speaks of the web that its link tells.
use Rattle.std.proofs.Common.{◌≡◌, ◌≢◌, ◌≤◌, ◌<◌, ◌+◌, ℕ, zero, suc, List, [], ◌∷◌, ◌++◌, length, map, Bool, true, false, cond, Option, Some, None, Result, Ok, Err, IfSome, refl, sym, ap, ◌∙◌, subst, inl, inr, ⊎_elim, length-append, bytes_eq, true≢false, arith}
use Rattle.std.specs.List.{list_any}
use Rattle.std.proofs.lemmas.List.{length-map}
use Rattle.std.proofs.lemmas.List.Elements.{filter_map-append}
use Rattle.std.proofs.lemmas.List.Sums.{count_by-le-length, sum_by-cons}
use Rattle.fed_base.specs.Counts.{counted, last_count}
use Rattle.jwk_set.specs.declared.set.JwkSet.{JwkSet}
use Rattle.jwk_set.specs.declared.jwk.Jwk.{Jwk}
use Rattle.chain_climb.specs.Elements.{Among}
use Rattle.fed_ports.specs.Webs.{Web}
use Rattle.chain_climb.proofs.Elements.{among-left}
use Rattle.resolve_round.proofs.Elements.{among-filter_map, among-map}
use Rattle.statement_shelf.specs.declared.calls.BookReply.{BookReply}
use Rattle.statement_shelf.specs.declared.calls.BookReply.TheVariants.{Keys}
use Rattle.chain_climb.specs.declared.path.Path.{Path}
use Rattle.resolve_round.specs.Courses.{first_after, first_needs}
use Rattle.chain_climb.specs.Climbs.{Need, Step, add, added, added_by, climb, judge, judged, judged_by, need, needed, needed_by}
use Rattle.chain_climb.proofs.ClimbLaws.{false-from}
use Rattle.chain_climb.proofs.LevelLaws.{judged-path}
use Rattle.chain_climb.proofs.PrefixLaws.{SameHead}
use Rattle.fed_resolver.specs.declared.outcome.Outcome.{Outcome}
use Rattle.fed_resolver.specs.declared.outcome.Refusal.{Refusal}
use Rattle.fed_resolver.specs.declared.outcome.Refusal.TheVariants.{NoAnchor, NotFound, PolicyOnly, NoChain, Unavailable, Budget, Worn, Memory}
use Rattle.resolve_reply.specs.declared.reply.Reply.{Reply}
use Rattle.resolve_round.specs.declared.trace.Search.{Search}
use Rattle.resolve_reply.specs.declared.signer.Signer.{Signer}
use Rattle.resolve_round.specs.declared.trace.Trace.{Trace}
use Rattle.fed_resolver.specs.Completeness.{EndsAtBest, FetchedFrom, FitsBounds, HitsAgree, InBounds, NoHits, SpeaksOf, documents_in}
use Rattle.resolve_round.specs.Courses.{Course, Stop, finished, found, is_budget, is_call, out_of_calls, out_of_paths, search_of, url_of}
use Rattle.fed_resolver.specs.Uses.{CountsFaults, FetchesFrom, IsComplete, SpeaksFor, faults_met, faults_of}
use Rattle.fed_resolver.specs.Outcomes.{IsAnswered, IsRefused, IsReplied, IsResult, IsWhole, Tells, asked_query}
use Rattle.resolve_round.specs.Pages.{HasChain, HasValidChain, Query}
use Rattle.resolve_round.specs.Rounds.{AreRounds, FoundPath, IsLast, Round, StopsAt, WasAsked, need_url, pages_in}
use Rattle.fed_resolver.specs.Told.{AreSearches, GaveKeys, SearchesAfter, Situation, ToldWhole, query_of}
use Rattle.chain_climb.proofs.ClimbLaws.{among-any}
use Rattle.resolve_round.proofs.StopLaws.{Cuts, ahead, among-step, behind, cuts, same}
use Rattle.fed_resolver.proofs.WebLaws.{AsksAgree, asks-agree, finished-web, found-web, no-hits, valid-back, web-steps}

-- ---- one URL more

abbrev step_with : Bool → List (List ℕ) → Need → List Need → List Need
step_with b earlier page pages = cond b (first_after earlier pages) (page ∷ first_after (page.url ∷ earlier) pages)

more-here : (b : Bool) (earlier : List (List ℕ)) (x : Need) (xs : List Need) (page : Need) (ys : List Need)
    → (¬ Among page.url (map need_url (first_after earlier xs)) → length (first_after earlier xs) < length (first_after earlier (xs ++ page ∷ ys)))
    → (¬ Among page.url (x.url ∷ earlier) → ¬ Among page.url (map need_url (first_after (x.url ∷ earlier) xs)) → length (first_after (x.url ∷ earlier) xs) < length (first_after (x.url ∷ earlier) (xs ++ page ∷ ys)))
    → ¬ Among page.url earlier → ¬ Among page.url (map need_url (step_with b earlier x xs)) → length (step_with b earlier x xs) < length (step_with b earlier x (xs ++ page ∷ ys))
more-here true earlier x xs page ys old new before none = old none
more-here false earlier x xs page ys old new before none =
    let less = new (λ among. ⊎_elim (λ one. none (inl one)) before among) (λ among. none (inr among)) in omega (arith, less)

first-more : (earlier : List (List ℕ)) (xs : List Need) (page : Need) (ys : List Need) → ¬ Among page.url earlier → ¬ Among page.url (map need_url (first_after earlier xs))
    → length (first_after earlier xs) < length (first_after earlier (xs ++ page ∷ ys))
first-more earlier [] page ys before none =
    rw (false-from (list_any (bytes_eq page.url) earlier) (λ any. before (among-any page.url earlier any))) (omega arith)
first-more earlier (x ∷ xs) page ys before none =
    more-here (list_any (bytes_eq x.url) earlier) earlier x xs page ys (first-more earlier xs page ys before) (first-more (x.url ∷ earlier) xs page ys) before none

-- ---- bounds

-- what a bound stops
abbrev AtLimit : Query → Course → Step → Type 0
AtLimit query course (need page) = (¬ WasAsked course page) × (course.search.calls ≡ query.bounds.calls)
AtLimit query course (add path) = course.search.paths ≡ query.bounds.paths
AtLimit query course (judge path) = ⊥

at-limit : (query : Query) (Valid : Path → Type 0) (course : Course) (left : List Step) (stop : Stop) → StopsAt query Valid course left stop → is_budget stop ≡ true
    → (step : Step) × (more : List Step) × (left ≡ step ∷ more) × AtLimit query course step
at-limit query Valid course [] finished stops budget = absurd (true≢false (sym budget))
at-limit query Valid course (judge path ∷ left) (found p) stops budget = absurd (true≢false (sym budget))
at-limit query Valid course (need page ∷ left) (out_of_calls p) stops budget = (need page, left, refl, (stops.1, stops.2))
at-limit query Valid course (add path ∷ left) (out_of_paths p) stops budget = (add path, left, refl, stops.1)
at-limit query Valid course left stop stops budget = absurd stops

ends-judged : (query : Query) (web : Web) (step : Step) (more : List Step) → EndsAtBest query (documents_in web) (step ∷ more) → (path : Path) × (step ≡ judge path) × HasValidChain query (documents_in web) path
ends-judged query web (judge path) more ends = (path, refl, ends)
ends-judged query web (need page) more ends = absurd ends
ends-judged query web (add path) more ends = absurd ends

no-limit : (query : Query) (course : Course) (step : Step) (path : Path) → step ≡ judge path → ¬ AtLimit query course step
no-limit query course step path is limit = subst (AtLimit query course) is limit

module _ (query : Query) (web : Web) (course : Course) (round : Round query course) (agree : AsksAgree web course.search.asks) (fits : FitsBounds query web) where
  calls-few : course.search.calls ≤ length (first_needs (needed round.taken))
  calls-few =
      let few = count_by-le-length is_call course.search.asks in
      let counts = round.counts.calls in
      let urls : length (map url_of course.search.asks) ≡ length (map need_url (first_needs (needed round.taken))) = ap length (round.asks ∙ ap (map need_url) round.needs) in
      let asks = length-map course.search.asks url_of in
      let needs = length-map (first_needs (needed round.taken)) need_url in
      omega (arith, few, counts, urls, asks, needs)

  over : (step : Step) (more : List Step) → fits.taken ≡ round.taken ++ step ∷ more → AtLimit query course step → ⊥
  over (need page) more is limit =
      let longer : needed fits.taken ≡ needed round.taken ++ page ∷ needed more = ap needed is ∙ filter_map-append needed_by round.taken (need page ∷ more) in
      let less : length (first_needs (needed round.taken)) < length (first_needs (needed fits.taken)) =
      subst (λ pages. length (first_needs (needed round.taken)) < length (first_needs pages)) (sym longer)
      (first-more [] (needed round.taken) page (needed more) (λ none. none) (λ met. limit.0 (subst (λ pages. Among page.url (map need_url pages)) (sym round.needs) met))) in
      let few = calls-few in
      let urls = fits.urls in
      let calls = limit.1 in
      omega (arith, less, few, urls, calls)
  over (add path) more is limit =
      let longer : added fits.taken ≡ added round.taken ++ path ∷ added more = ap added is ∙ filter_map-append added_by round.taken (add path ∷ more) in
      let count : length (added fits.taken) ≡ length (added round.taken) + length (path ∷ added more) = ap length longer ∙ length-append (added round.taken) (path ∷ added more) in
      let paths = fits.paths in
      let ours = round.paths in
      omega (arith, count, paths, ours, limit)
  over (judge path) more is limit = limit

  missed : (step : Step) (more rest : List Step) → round.taken ≡ fits.taken ++ step ∷ more → fits.left ≡ step ∷ rest → ⊥
  missed step more rest is left =
      let best = ends-judged query web step rest (subst (EndsAtBest query (documents_in web)) left fits.ends) in
      let stands : Among (judge best.0) round.taken = subst (Among (judge best.0)) (sym is) (subst (λ s. Among (judge best.0) (fits.taken ++ s ∷ more)) (sym best.1) (among-step fits.taken more (judge best.0))) in
      let among : Among best.0 (judged round.taken) = among-filter_map judged_by (judge best.0) best.0 refl round.taken stands in
      let whole : Among best.0 (judged (climb (Rattle.resolve_round.specs.Rounds.good_in query course) query.entity query.anchor query.bounds.depth)) =
      subst (λ l. Among best.0 (judged l)) (sym round.steps)
      (subst (Among best.0) (sym (filter_map-append judged_by round.taken round.left)) (among-left best.0 (judged round.taken) (judged round.left) among)) in
      let path = judged-path (Rattle.resolve_round.specs.Rounds.good_in query course) query.entity query.anchor query.bounds.depth best.0 whole in
      round.invalid best.0 among (valid-back query web course round agree best.0 path.0 best.2)

  by_cuts : (step : Step) (more rest : List Step) → round.left ≡ step ∷ more → AtLimit query course step → SameHead (step ∷ more) rest → Cuts round.taken rest fits.taken fits.left → ⊥
  by_cuts step more [] left limit head cut = head
  by_cuts step more (s ∷ rest) left limit head (same taken tail) =
      let best = ends-judged query web s rest (subst (EndsAtBest query (documents_in web)) (sym tail) fits.ends) in
      no-limit query course step best.0 (head ∙ best.1) limit
  by_cuts step more (s ∷ rest) left limit head (ahead (next, others, taken, tail)) =
      let one : s ≡ next = cc tail in over next others taken (subst (AtLimit query course) (head ∙ one) limit)
  by_cuts step more (s ∷ rest) left limit head (behind (next, others, taken, tail)) = missed next others (others ++ s ∷ rest) taken tail

  -- where the bounds suffice for the web, a round that agrees with it ends at none
  pub in-bounds : InBounds course
  in-bounds = false-from (is_budget course.stop) (λ budget.
      let limit = at-limit query (HasValidChain query (pages_in course)) course round.left course.stop round.stops budget in
      let steps = web-steps query web course round agree in
      by_cuts limit.0 limit.1 steps.0 limit.2 limit.3 (subst (λ l. SameHead l steps.0) limit.2 steps.2) (cuts round.taken steps.0 fits.taken fits.left (sym steps.1 ∙ fits.steps)))

-- ---- the rounds of a leaf

round-of : (query : Query) (leaf : List Course) → AreRounds query leaf → (course : Course) → Among course leaf → Round query course × (course.looks ≡ false → course.search.hits ≡ 0)
round-of query [] rounds course among = absurd rounds
round-of query (only ∷ []) rounds course (inl one) = (subst (Round query) (sym one) rounds.0, λ plain. absurd (true≢false (sym rounds.1 ∙ ap (λ (c : Course). c.looks) (sym one) ∙ plain)))
round-of query (only ∷ []) rounds course (inr none) = absurd none
round-of query (first ∷ second ∷ []) rounds course (inl one) = (subst (Round query) (sym one) rounds.0, λ plain. absurd (true≢false (sym rounds.1 ∙ ap (λ (c : Course). c.looks) (sym one) ∙ plain)))
round-of query (first ∷ second ∷ []) rounds course (inr (inl one)) = (subst (Round query) (sym one) rounds.3, λ plain. ap (λ (c : Course). c.search.hits) one ∙ rounds.5)
round-of query (first ∷ second ∷ []) rounds course (inr (inr none)) = absurd none
round-of query (first ∷ second ∷ third ∷ rest) rounds course among = absurd rounds

last-of : (query : Query) (leaf : List Course) → AreRounds query leaf → (last : Course) → IsLast leaf last → Among last leaf × (¬ FoundPath last → last.search.hits ≡ 0)
last-of query [] rounds last is = absurd rounds
last-of query (only ∷ []) rounds last is =
    let one : only ≡ last = cc is in
    (inl (sym one), λ none. ⊎_elim (λ there. absurd (none (subst FoundPath one there))) (λ plain. ap (λ (c : Course). c.search.hits) (sym one) ∙ plain) rounds.2)
last-of query (first ∷ second ∷ []) rounds last is =
    let one : second ≡ last = cc is in
    (inr (inl (sym one)), λ none. ap (λ (c : Course). c.search.hits) (sym one) ∙ rounds.5)
last-of query (first ∷ second ∷ third ∷ rest) rounds last is = absurd rounds

-- a refusal of the last round's end comes where the round finished
refused-last : (here : Situation) (signer : Signer) (trace : Trace) (told : ToldWhole here trace) (result : Result Reply Refusal) → IsRefused result → IsResult here signer trace told result
    → (last : Course) × IsLast told.base.leaf last × (last.stop ≡ finished)
refused-last here signer trace told (Err NotFound) refused ends = (ends.last, ends.is_last, ends.ends.0)
refused-last here signer trace told (Err PolicyOnly) refused ends = (ends.last, ends.is_last, ends.ends.0)
refused-last here signer trace told (Err NoChain) refused ends = (ends.last, ends.is_last, ends.ends.0)
refused-last here signer trace told result refused ends = absurd refused

replied-last : (here : Situation) (signer : Signer) (trace : Trace) (told : ToldWhole here trace) (result : Result Reply Refusal) → IsReplied result → IsResult here signer trace told result
    → (last : Course) × IsLast told.base.leaf last × FoundPath last
replied-last here signer trace told (Ok reply) replied ends = (ends.last, ends.is_last, (ends.is_reply.path, ends.is_reply.is_path))
replied-last here signer trace told (Err refusal) replied ends = absurd replied

rounds-after : (here : Situation) (answer : BookReply) (epoch : ℕ) (set : JwkSet) (n : ℕ) (keys : List Jwk) (leaf others : List Course) → answer ≡ Keys epoch set → GaveKeys answer n keys → SearchesAfter here answer leaf others
    → AreRounds (query_of here keys) leaf
rounds-after here answer epoch set n keys leaf others is gave searches =
    let given : GaveKeys (Keys epoch set) n keys = subst (λ a. GaveKeys a n keys) is gave in
    let after : AreSearches (query_of here set.keys) leaf others = subst (λ a. SearchesAfter here a leaf others) is searches in
    subst (λ ks. AreRounds (query_of here ks) leaf) (sym given.1) after.rounds

-- ---- the result

module _ (here : Situation) (signer : Signer) (web : Web) (outcome : Outcome) (whole : IsWhole here signer outcome)
    (fetched : (search : Search) → Among search outcome.trace.searches → FetchedFrom web search)
    (faultless : (search : Search) → Among search outcome.trace.searches → search.faults ≡ 0)
    (epoch : ℕ) (set : JwkSet) (listed : whole.told.base.answer ≡ Keys epoch set) where
  abbrev query : Query
  query = asked_query here outcome.trace

  abbrev leaf : List Course
  leaf = whole.told.base.leaf

  rounds : AreRounds query leaf
  rounds = rounds-after here whole.told.base.answer epoch set outcome.trace.epoch outcome.trace.keys.keys leaf whole.told.base.others listed whole.told.base.keys whole.told.base.rounds

  traced : (course : Course) → Among course leaf → Among course.search outcome.trace.searches
  traced course among =
      subst (Among course.search) (sym whole.told.base.searches)
      (among-map search_of course (leaf ++ whole.told.base.others) (among-left course leaf whole.told.base.others among))

  agreed : (course : Course) → Among course leaf → HitsAgree web course.search → AsksAgree web course.search.asks
  agreed course among hits =
      let round = (round-of query leaf rounds course among).0 in
      asks-agree web course.search round.counts (faultless course.search (traced course among)) (fetched course.search (traced course among)) hits

  plain : (course : Course) → Among course leaf → course.search.hits ≡ 0 → AsksAgree web course.search.asks
  plain course among none = agreed course among (no-hits web course.search (round-of query leaf rounds course among).0.counts none)

  finds-none : (last : Course) → IsLast leaf last → last.stop ≡ finished → ¬ HasChain query (documents_in web)
  finds-none last is stop =
      let at = last-of query leaf rounds last is in
      let unfound : ¬ FoundPath last = λ there. no-found there.0 (sym stop ∙ there.1) in
      finished-web query web last (round-of query leaf rounds last at.0).0 (plain last at.0 (at.1 unfound)) stop
    where
      no-found : (path : Path) → finished ≡ found path → ⊥
      no-found path is = cc is

  finds-chain : NoHits leaf → (last : Course) → IsLast leaf last → FoundPath last → HasChain query (documents_in web)
  finds-chain none last is there =
      let at = last-of query leaf rounds last is in
      found-web query web last (round-of query leaf rounds last at.0).0 (plain last at.0 (none last at.0)) there.0 there.1

  no-fault : outcome.result ≢ Err Unavailable
  no-fault is =
      let fails = subst (IsResult here signer outcome.trace whole.told) is whole.result in
      fails.fault (faultless fails.last.search (traced fails.last (last-of query leaf rounds fails.last fails.is_last).0))

  -- the result speaks of the web
  pub speaks : SpeaksOf query web leaf outcome.result
  speaks = record {
    available = no-fault;
    found = λ refused. let last = refused-last here signer outcome.trace whole.told outcome.result refused whole.result in finds-none last.0 last.1 last.2;
    true_chain = λ none replied. let last = replied-last here signer outcome.trace whole.told outcome.result replied whole.result in finds-chain none last.0 last.1 last.2;
    second_round = λ fits course among looks.
        let round = round-of query leaf rounds course among in
        in-bounds query web course round.0 (plain course among (round.1 looks)) fits;
    first_round = λ fits course among hits. in-bounds query web course (round-of query leaf rounds course among).0 (agreed course among hits) fits;
  }

-- ---- the clause on completeness

counted-least : (n b : ℕ) → b < last_count → b ≤ counted n b
counted-least zero b small = omega arith
counted-least (suc n) b small = let before = counted-least n b small in omega (arith, before, small)

counted-grows : (n b : ℕ) → b < last_count → b < counted (suc n) b
counted-grows n b small = let before = counted-least n b small in omega (arith, before, small)

counted-none : (n b now : ℕ) → b < last_count → counted n b ≤ now → now ≡ b → n ≡ 0
counted-none zero b now small most still = refl
counted-none (suc n) b now small most still = let grows = counted-grows n b small in absurd (omega (arith, grows, most, still))

each-zero : (searches : List Search) → faults_met searches ≡ 0 → (search : Search) → Among search searches → search.faults ≡ 0
each-zero [] none search among = absurd among
each-zero (x ∷ searches) none search (inl one) =
    let total = sum_by-cons faults_of x searches in
    let own : search.faults ≡ x.faults = ap faults_of one in
    omega (arith, total, none, own)
each-zero (x ∷ searches) none search (inr among) =
    let total = sum_by-cons faults_of x searches in
    each-zero searches (omega (arith, total, none)) search among

answered-whole : (here : Situation) (signer : Signer) (outcome : Outcome) (result : Result Reply Refusal) → Tells here signer outcome result → IsAnswered result → IsWhole here signer outcome
answered-whole here signer outcome (Ok reply) tells answered = tells
answered-whole here signer outcome (Err NoAnchor) tells answered = tells
answered-whole here signer outcome (Err NotFound) tells answered = tells
answered-whole here signer outcome (Err PolicyOnly) tells answered = tells
answered-whole here signer outcome (Err NoChain) tells answered = tells
answered-whole here signer outcome (Err Unavailable) tells answered = tells
answered-whole here signer outcome (Err (Budget calls paths)) tells answered = tells
answered-whole here signer outcome (Err (Worn count)) tells answered = absurd answered
answered-whole here signer outcome (Err Memory) tells answered = absurd answered

by_web : (here : Situation) (signer : Signer) (web : Option Web) (outcome : Outcome) → IsWhole here signer outcome → FetchesFrom web outcome.trace.searches
    → ((search : Search) → Among search outcome.trace.searches → search.faults ≡ 0) → IfSome web (λ w. SpeaksFor here signer w outcome)
by_web here signer None outcome whole fetched faultless = tt
by_web here signer (Some web) outcome whole fetched faultless = record {
  whole = whole;
  speaks = λ epoch keys listed. speaks here signer web outcome whole fetched faultless epoch keys listed;
}

-- the clause on completeness follows from those on the trace and on the link
pub complete-from : (here : Situation) (signer : Signer) (web : Option Web) (before now : ℕ) (outcome : Outcome) → Tells here signer outcome outcome.result
    → FetchesFrom web outcome.trace.searches → CountsFaults outcome.trace.searches before now → IsComplete here signer web before now outcome
complete-from here signer web before now outcome tells fetched faults still small answered =
    let none = counted-none (faults_met outcome.trace.searches) before now small faults.at_least still in
    by_web here signer web outcome (answered-whole here signer outcome outcome.result tells answered) fetched (each-zero outcome.trace.searches none)
