-- What getting a page leaves of a trace.
use Rattle.std.proofs.Common.{◌≡◌, ◌<◌, ℕ, zero, suc, List, [], ◌∷◌, ◌++◌, length, get_or, take, map, filter_map, Bool, true, false, Some, refl, sym, ap, ◌∙◌, subst, inl, inr, ⊎_elim, append-nil, arith, bytes_eq, true≢false}
use Rattle.std.specs.List.{position}
use Rattle.std.specs.Prelude.{◌-◌, find, slice_get}
use Rattle.std.proofs.lemmas.List.Quantifiers.{position-Some}
use Rattle.std.proofs.lemmas.List.Elements.{filter_map-append}
use Rattle.fed_json.proofs.Order.{bytes_eq-itself, equal-bytes_eq}
use Rattle.chain_climb.specs.Elements.{Among}
use Rattle.chain_climb.proofs.Elements.{among-flat_map, among-left, among-right, among-split}
use Rattle.statement_shelf.specs.declared.calls.Proven.{Proven}
use Rattle.statement_shelf.specs.declared.calls.ShelfCall.TheVariants.{Look}
use Rattle.statement_shelf.specs.declared.calls.ShelfReply.{ShelfReply}
use Rattle.statement_shelf.specs.declared.calls.ShelfReply.TheVariants.{Hit, Miss, Done, Gone, Dropped, Memory}
use Rattle.resolve_round.specs.declared.trace.Ask.{Ask}
use Rattle.resolve_round.specs.declared.trace.Check.{Check}
use Rattle.resolve_round.specs.declared.trace.Event.{Event}
use Rattle.resolve_round.specs.declared.trace.Event.TheVariants.{Shelf}
use Rattle.resolve_round.specs.declared.trace.Got.{Got}
use Rattle.resolve_round.specs.declared.trace.Got.TheVariants as got
use Rattle.resolve_round.specs.declared.trace.Search.{Search}
use Rattle.resolve_round.specs.declared.trace.Trace.{Trace}
use Rattle.resolve_round.specs.Asking.{with_ask}
use Rattle.resolve_round.specs.Courses.{Counts, url_of}
use Rattle.resolve_round.specs.Getting.{AddsLooks, NotAsked, Point, TakesHit, TakesMiss, if_looks}
use Rattle.resolve_round.specs.Knowing.{AnswersStand, HoldsSoFar, with_search}
use Rattle.resolve_round.specs.Looking.{HasTriedLook}
use Rattle.resolve_round.specs.Proving.{AddsProves, IsGoodProve, IsProvedThere, ProvesEach}
use Rattle.resolve_round.specs.Told.{IsTrueSoFar, Obtained, ProvesGood, SomePlaces}
use Rattle.resolve_round.specs.Traces.{look_in, looks_in, pair_in, put_in, puts_in}
use Rattle.resolve_round.proofs.AskingLaws.{counts-ask}
use Rattle.resolve_round.proofs.Elements.{among-map}
use Rattle.resolve_round.proofs.ProvingLaws.{PlacesOne, adds-none, placed-again, placed-anew, proves-true}
use Rattle.resolve_round.proofs.TraceLaws.{ask-good, ask-more, hit-shown, miss-more, still-proved, with_event}

-- ---- URLs that weren't asked

pub not-asked : (url : List ℕ) (asks : List Ask) → ((k : ℕ) (d : Ask) → k < length asks → bytes_eq (get_or asks k d).url url ≡ false) → ¬ Among url (map url_of asks)
not-asked url [] others among = among
not-asked url (ask ∷ asks) others (inl same) = true≢false (sym (ap (bytes_eq ask.url) same ∙ bytes_eq-itself ask.url) ∙ others 0 ask (omega arith))
not-asked url (ask ∷ asks) others (inr among) = not-asked url asks (λ k d less. others (suc k) d (omega (arith, less))) among

-- the first item that passes, at its place
pub record First {X : Type 0} (p : X → Bool) (xs : List X) (at : ℕ) : Type 0 where
  pub item : X
  pub there : slice_get xs at ≡ Some item
  pub found : find p xs ≡ Some item
  pub passes : p item ≡ true
  pub among : Among item xs

module _ {X : Type 0} (p : X → Bool) where
  first_at : (xs : List X) (at : ℕ) (d : X) → at < length xs → p (get_or xs at d) ≡ true → ((k : ℕ) → k < at → p (get_or xs k d) ≡ false) → First p xs at
  first_at [] at d less here before = absurd (omega (arith, less))
  first_at (x ∷ xs) zero d less here before = record { item = x; there = refl; found = rw here refl; passes = here; among = inl refl }
  first_at (x ∷ xs) (suc at) d less here before =
      let first = before 0 (omega arith) in
      let rest = first_at xs at d (omega (arith, less)) here (λ k l. before (suc k) (omega (arith, l))) in
      record { item = rest.item; there = rest.there; found = rw first rest.found; passes = rest.passes; among = inr rest.among }

  pub position-first : (xs : List X) (at : ℕ) → position p xs ≡ Some at → First p xs at
  position-first [] at is = cc is
  position-first (x ∷ xs) at is = let facts = position-Some p (x ∷ xs) at x is in first_at (x ∷ xs) at x facts.0 facts.1 facts.2

  -- behind items that don't pass, one that does is the first
  pub last-first : (xs : List X) (x : X) → ((y : X) → Among y xs → p y ≡ false) → p x ≡ true → find p (xs ++ x ∷ []) ≡ Some x
  last-first [] x none passes = rw passes refl
  last-first (y ∷ xs) x none passes = rw (none y (inl refl)) (last-first xs x (λ z among. none z (inr among)) passes)

-- an ask of the URL is one of those that were made
pub place-asked : (url : List ℕ) (asks : List Ask) (at : ℕ) → First (λ (ask : Ask). bytes_eq ask.url url) asks at → Among url (map url_of asks)
place-asked url asks at first = subst (λ u. Among u (map url_of asks)) (equal-bytes_eq (first.item).url url first.passes) (among-map url_of first.item asks first.among)

fresh_by : (b : Bool) (url : List ℕ) (search : Search) (ask : Ask) → NotAsked url search → Among ask search.asks → bytes_eq ask.url url ≡ b → bytes_eq ask.url url ≡ false
fresh_by true url search ask fresh among is = absurd (fresh (subst (λ u. Among u (map url_of search.asks)) (equal-bytes_eq ask.url url is) (among-map url_of ask search.asks among)))
fresh_by false url search ask fresh among is = is

-- a new ask is the first of its URL
pub new-first : (search : Search) (ask : Ask) → NotAsked ask.url search → find (λ (a : Ask). bytes_eq a.url ask.url) (search.asks ++ ask ∷ []) ≡ Some ask
new-first search ask fresh =
    last-first (λ (a : Ask). bytes_eq a.url ask.url) search.asks ask (λ a among. fresh_by (bytes_eq a.url ask.url) ask.url search a fresh among refl) (bytes_eq-itself ask.url)

-- ---- an ask more

-- an ask of this
abbrev pub ask_of : List ℕ → Got → Ask
ask_of url g = record { url = url; got = g }

-- the rounds before the one that is under way
abbrev pub earlier : Trace → List Search
earlier t = take (length t.searches - 1) t.searches

module _ (age : ℕ) (t : Trace) (search : Search) (ask : Ask) where
  more_asks : (a : Ask) → Among a search.asks → Among a (search.asks ++ ask ∷ [])
  more_asks a among = among-left a search.asks (ask ∷ []) among

  same_got : (url : List ℕ) (proven : Proven) → ask_of url (got.Hit proven) ≡ ask → (ask.url ≡ url) × (ask.got ≡ got.Hit proven)
  same_got url proven same = (ap url_of (sym same), ap (λ (a : Ask). a.got) (sym same))

  -- the round with an ask more, whose hit is a Look's
  pub holds-asked : ((proven : Proven) → ask.got ≡ got.Hit proven → (moment : ℕ) × Among (Shelf (Look ask.url moment) (Hit proven)) t.events)
      → HoldsSoFar age search t → HoldsSoFar age (with_ask search ask) t
  holds-asked looked holds =
      ask-more age (with_search t search) (earlier t) search (with_ask search ask) refl more_asks holds
      (λ url proven among.
      ⊎_elim (λ old. inl old)
      (λ last. inr (⊎_elim
      (λ same. let parts = same_got url proven same in
      let look = looked proven parts.1 in
      (look.0, subst (λ u. Among (Shelf (Look u look.0) (Hit proven)) t.events) parts.0 look.1))
      (λ none. absurd none) last))
      (among-split (ask_of url (got.Hit proven)) search.asks (ask ∷ []) among))
      (counts-ask search ask (holds.counts search (among-right search (earlier t) (search ∷ []) (inl refl))))

  pub good-asked : ProvesGood (with_search t search) → ProvesGood (with_search t (with_ask search ask))
  good-asked good = ask-good age (with_search t search) (earlier t) search (with_ask search ask) refl more_asks good

-- what a trace tells has the answers of its checks
pub holds-answers : (age : ℕ) (search : Search) (t : Trace) → HoldsSoFar age search t → AnswersStand t.checks
holds-answers age search t holds check among = (holds.checks.each check among).answer

-- and counts the asks of the round that is under way
pub holds-counts : (age : ℕ) (search : Search) (t : Trace) → HoldsSoFar age search t → Counts search
holds-counts age search t holds = holds.counts search (among-right search (earlier t) (search ∷ []) (inl refl))

-- ---- a Look more

looked_by : (age : ℕ) (t : Trace) (url : List ℕ) (r : ShelfReply) → IsTrueSoFar age t → ProvesGood t → IsTrueSoFar age (with_event t (Shelf (Look url t.moment) r))
looked_by age t url (Hit proven) told good = hit-shown age t url (Hit proven) proven refl told good
looked_by age t url Miss told good = miss-more age t url Miss (λ proven same. cc same) told
looked_by age t url Done told good = miss-more age t url Done (λ proven same. cc same) told
looked_by age t url Gone told good = miss-more age t url Gone (λ proven same. cc same) told
looked_by age t url (Dropped n) told good = miss-more age t url (Dropped n) (λ proven same. cc same) told
looked_by age t url Memory told good = miss-more age t url Memory (λ proven same. cc same) told

module _ (age : ℕ) (old : Trace) (search : Search) where
  abbrev pub with_these : List Event → Trace
  with_these events = record old { events = events }

  pub holds-looked : (url : List ℕ) (r : ShelfReply) (events : List Event) → events ≡ old.events ++ Shelf (Look url old.moment) r ∷ [] → HoldsSoFar age search old → ProvesGood (with_search old search)
      → HoldsSoFar age search (with_these events)
  holds-looked url r events is holds good = subst (λ es. HoldsSoFar age search (with_these es)) (sym is) (looked_by age (with_search old search) url r holds good)

  pub holds-tried : (url : List ℕ) (events : List Event) → HasTriedLook old.events url old.moment events → HoldsSoFar age search old → ProvesGood (with_search old search)
      → HoldsSoFar age search (with_these events)
  holds-tried url events (inl same) holds good = subst (λ es. HoldsSoFar age search (with_these es)) (sym same) holds
  holds-tried url events (inr (r, is)) holds good = holds-looked url r events is holds good

  pub holds-proves : (mid events : List Event) → AddsProves old.checks mid events → HoldsSoFar age search (with_these mid) → HoldsSoFar age search (with_these events)
  holds-proves mid events adds holds =
      subst (λ es. HoldsSoFar age search (with_these es)) (sym adds.are) (proves-true age (with_search (with_these mid) search) adds.more adds.proves holds)

-- ---- the Looks and Puts that were added

no_looks : (checks : List Check) (more : List Event) → ((event : Event) → Among event more → IsGoodProve checks event) → filter_map look_in more ≡ []
no_looks checks [] proves = refl
no_looks checks (e ∷ more) proves =
    let p = proves e (inl refl) in
    ap (λ x. filter_map look_in (x ∷ more)) (p.5) ∙ no_looks checks more (λ event among. proves event (inr among))

no_puts : (checks : List Check) (more : List Event) → ((event : Event) → Among event more → IsGoodProve checks event) → filter_map put_in more ≡ []
no_puts checks [] proves = refl
no_puts checks (e ∷ more) proves =
    let p = proves e (inl refl) in
    ap (λ x. filter_map put_in (x ∷ more)) (p.5) ∙ no_puts checks more (λ event among. proves event (inr among))

pub proves-looks : (checks : List Check) (old new : List Event) → AddsProves checks old new → looks_in new ≡ looks_in old
proves-looks checks old new adds =
    ap looks_in adds.are ∙ filter_map-append look_in old adds.more ∙ ap (λ l. looks_in old ++ l) (no_looks checks adds.more adds.proves) ∙ append-nil (looks_in old)

pub proves-puts : (checks : List Check) (old new : List Event) → AddsProves checks old new → puts_in new ≡ puts_in old
proves-puts checks old new adds =
    ap puts_in adds.are ∙ filter_map-append put_in old adds.more ∙ ap (λ l. puts_in old ++ l) (no_puts checks adds.more adds.proves) ∙ append-nil (puts_in old)

-- a Look, and then Proves
pub look-added : (checks : List Check) (old mid new : List Event) (url : List ℕ) (t : ℕ) (r : ShelfReply) → mid ≡ old ++ Shelf (Look url t) r ∷ [] → AddsProves checks mid new → AddsLooks ((Look url t, r) ∷ []) old new
look-added checks old mid new url t r is adds = record {
  looks = proves-looks checks mid new adds ∙ ap looks_in is ∙ filter_map-append look_in old (Shelf (Look url t) r ∷ []);
  puts = proves-puts checks mid new adds ∙ ap puts_in is ∙ filter_map-append put_in old (Shelf (Look url t) r ∷ []) ∙ append-nil (puts_in old);
}

-- ---- a text that was hit

hit-places : (url : List ℕ) (t : ℕ) (proven : Proven) → PlacesOne url proven.text (Shelf (Look url t) (Hit proven))
hit-places url t proven = record { here = (refl, refl); only = λ at y places. (sym places.0, sym places.1) }

module _ (age : ℕ) (t : Trace) (search : Search) (url : List ℕ) (proven : Proven) (mid : List Event) (is : mid ≡ t.events ++ Shelf (Look url t.moment) (Hit proven) ∷ []) where
  abbrev ask : Ask
  ask = ask_of url (got.Hit proven)

  obtained : Obtained (with_search t (with_ask search ask)).searches url proven.text
  obtained = (
    ask,
    among-flat_map (λ (s : Search). s.asks) (with_ask search ask) ask (with_search t (with_ask search ask)).searches
        (among-right (with_ask search ask) (earlier t) (with_ask search ask ∷ []) (inl refl)) (among-right ask search.asks (ask ∷ []) (inl refl)),
    refl,
    refl,
  )

  -- it was placed there before
  pub hit-again : SomePlaces url proven.text t.events → ProvesGood (with_search t search) → ProvesGood (with_search (record t { events = mid }) (with_ask search ask))
  hit-again before good =
      subst (λ es. ProvesGood (with_search (record t { events = es }) (with_ask search ask))) (sym is)
      (placed-again (with_search t (with_ask search ask)) (Shelf (Look url t.moment) (Hit proven)) url proven.text (hit-places url t.moment proven) before (good-asked age t search ask good))

  -- it is placed anew
  pub hit-anew : (events : List Event) (adds : AddsProves t.checks mid events) → ProvesEach t.checks url proven.text mid events → ProvesGood (with_search t search)
      → ProvesGood (with_search (record t { events = events }) (with_ask search ask))
  hit-anew events adds each good =
      let all : events ≡ (t.events ++ Shelf (Look url t.moment) (Hit proven) ∷ []) ++ adds.more = adds.are ∙ ap (λ es. es ++ adds.more) is in
      subst (λ es. ProvesGood (with_search (record t { events = es }) (with_ask search ask))) (sym all)
      (placed-anew (with_search t (with_ask search ask)) (Shelf (Look url t.moment) (Hit proven)) adds.more url proven.text (hit-places url t.moment proven) obtained adds.proves
      (subst (λ es. ProvesEach t.checks url proven.text (t.events ++ Shelf (Look url t.moment) (Hit proven) ∷ []) es) all (subst (λ m. ProvesEach t.checks url proven.text m events) is each))
      (good-asked age t search ask good))

  -- the Look is among the events
  pub hit-looked : (events : List Event) (checks : List Check) → AddsProves checks mid events → Among (Shelf (Look url t.moment) (Hit proven)) events
  hit-looked events checks adds =
      subst (Among (Shelf (Look url t.moment) (Hit proven))) (sym adds.are)
      (among-left _ mid adds.more (subst (Among (Shelf (Look url t.moment) (Hit proven))) (sym is) (among-right _ t.events (Shelf (Look url t.moment) (Hit proven) ∷ []) (inl refl))))

  -- either way each good check is proved
  pub hit-good : (events : List Event) → AddsProves t.checks mid events → IsProvedThere t.checks url proven.text t.events mid events → ProvesGood (with_search t search)
      → ProvesGood (with_search (record t { events = events }) (with_ask search ask))
  hit-good events adds (inl placed) good = subst (λ es. ProvesGood (with_search (record t { events = es }) (with_ask search ask))) (sym placed.1) (hit-again placed.0 good)
  hit-good events adds (inr each) good = hit-anew events adds each good

-- a Look that was told nothing leaves what is proved
pub good-missed : (t : Trace) (search : Search) (url : List ℕ) (events : List Event) → events ≡ t.events ++ Shelf (Look url t.moment) Miss ∷ [] → ProvesGood (with_search t search)
    → ProvesGood (with_search (record t { events = events }) search)
good-missed t search url events is good =
    subst (λ es. ProvesGood (with_search (record t { events = es }) search)) (sym is)
    (λ c among aye. still-proved (with_search t search) (Shelf (Look url t.moment) Miss) (pair_in c) (good c among aye) (λ places. absurd places))

-- ---- what a Look told

-- there was none, in a round that doesn't look
pub no-look : (looks : Bool) (url : List ℕ) (p : Point) → looks ≡ false → TakesMiss looks url p p
no-look looks url p nay = record {
  is = refl;
  added = record {
    looks = sym (append-nil (looks_in p.trace.events)) ∙ ap (λ b. looks_in p.trace.events ++ if_looks b (Look url p.trace.moment, Miss)) (sym nay);
    puts = refl;
  };
}

-- it was told nothing
pub look-missed : (looks : Bool) (url : List ℕ) (old new : Point) → looks ≡ true → new.search ≡ old.search → new.trace.events ≡ old.trace.events ++ Shelf (Look url old.trace.moment) Miss ∷ []
    → TakesMiss looks url old new
look-missed looks url old new aye same is = record {
  is = same;
  added = subst (λ b. AddsLooks (if_looks b (Look url old.trace.moment, Miss)) old.trace.events new.trace.events) (sym aye)
      (look-added [] old.trace.events new.trace.events new.trace.events url old.trace.moment Miss is (adds-none [] new.trace.events new.trace.events refl));
}

-- it was told a text
pub look-told : (url : List ℕ) (old new : Point) (proven : Proven) (checks : List Check) (mid : List Event) → mid ≡ old.trace.events ++ Shelf (Look url old.trace.moment) (Hit proven) ∷ []
    → AddsProves checks mid new.trace.events → new.search ≡ with_ask old.search (ask_of url (got.Hit proven)) → TakesHit url old new
look-told url old new proven checks mid is adds ask = record {
  proven = proven;
  is = ask;
  added = look-added checks old.trace.events mid new.trace.events url old.trace.moment (Hit proven) is adds;
}
