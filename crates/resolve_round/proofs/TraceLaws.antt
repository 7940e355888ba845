-- What a trace tells stays true while it grows.
use Rattle.std.proofs.Common.{◌≡◌, ℕ, List, [], ◌∷◌, ◌++◌, map, Bool, true, false, Some, refl, sym, ap, ◌∙◌, subst, inl, inr, ⊎_elim, ◌⊎◌, append-nil, append_assoc, true≢false}
use Rattle.std.proofs.lemmas.List.{map-append}
use Rattle.std.proofs.lemmas.List.Elements.{filter_map-append}
use Rattle.jwk_set.specs.declared.jwk.Jwk.{Jwk}
use Rattle.std.specs.List.{list_all}
use Rattle.sealed.specs.Deciding.{is_sealed}
use Rattle.sealed.specs.Seals.{IsUnsealed, Pair, pair_of}
use Rattle.sealed.proofs.DecidingLaws.{is_sealed-from_IsUnsealed}
use Rattle.chain_climb.specs.Climbs.{Need}
use Rattle.chain_climb.specs.Elements.{Among, NoneTwice}
use Rattle.chain_climb.proofs.Elements.{among-flat_map, among-left, among-right, among-split, flat_map-among}
use Rattle.statement_shelf.specs.declared.calls.Proven.{Proven}
use Rattle.statement_shelf.specs.declared.calls.ShelfCall.{ShelfCall}
use Rattle.statement_shelf.specs.declared.calls.ShelfCall.TheVariants.{Look, Put, Prove}
use Rattle.statement_shelf.specs.declared.calls.ShelfReply.{ShelfReply}
use Rattle.statement_shelf.specs.declared.calls.ShelfReply.TheVariants.{Hit}
use Rattle.resolve_round.specs.declared.trace.Ask.{Ask}
use Rattle.resolve_round.specs.declared.trace.Check.{Check}
use Rattle.resolve_round.specs.declared.trace.Event.{Event}
use Rattle.resolve_round.specs.declared.trace.Event.TheVariants.{Shelf}
use Rattle.resolve_round.specs.declared.trace.Got.TheVariants as got
use Rattle.resolve_round.specs.declared.trace.Search.{Search}
use Rattle.resolve_round.specs.declared.trace.Trace.{Trace}
use Rattle.resolve_round.specs.Courses.{Counts}
use Rattle.resolve_round.specs.Knowing.{IsAnswer, IsKnownGood}
use Rattle.resolve_round.specs.Told.{FetchedText, IsCheck, IsProved, IsTrueSoFar, Obtained, Places, ProvesGood, ShownByHit, ShownUnproved, SomePlaces, TestedGood}
use Rattle.resolve_round.specs.Traces.{Kept, asks_in, kept_text, pair_in, put_in, puts_in}
use Rattle.resolve_round.proofs.HintLaws.{and-left, and-right}

-- ---- lists

none-snoc : {X : Type 0} (xs : List X) (x : X) → NoneTwice xs → ¬ Among x xs → NoneTwice (xs ++ x ∷ [])
none-snoc [] x once fresh = (λ none. none, tt)
none-snoc (y ∷ xs) x once fresh = (
  λ among. ⊎_elim (λ old. once.0 old) (λ last. ⊎_elim (λ same. fresh (inl (sym same))) (λ none. none) last) (among-split y xs (x ∷ []) among),
  none-snoc xs x once.1 (λ among. fresh (inr among)),
)

-- a list with one more behind it, cut elsewhere
abbrev pub CutBefore : {X : Type 0} → List X → X → List X → X → List X → Type 0
CutBefore {X} xs last front x back = (rest : List X) × (back ≡ rest ++ last ∷ []) × (xs ≡ front ++ x ∷ rest)

cons-one : {X : Type 0} (x y : X) (xs ys : List X) → x ∷ xs ≡ y ∷ ys → (x ≡ y) × (xs ≡ ys)
cons-one x y xs ys same = (cc same, cc same)

pub cut-last : {X : Type 0} (xs : List X) (last : X) (front : List X) (x : X) (back : List X) → xs ++ last ∷ [] ≡ front ++ x ∷ back
    → ((last ≡ x) × (xs ≡ front)) ⊎ CutBefore xs last front x back
cut-last [] last [] x back same = inl ((cons-one last x [] back same).0, refl)
cut-last [] last (f ∷ front) x back same = absurd (none-empty front x back (cons-one last f [] (front ++ x ∷ back) same).1)
  where
    none-empty : {X : Type 0} (front : List X) (x : X) (back : List X) → [] ≡ front ++ x ∷ back → ⊥
    none-empty [] x back same = cc same
    none-empty (f ∷ front) x back same = cc same
cut-last (y ∷ xs) last [] x back same =
    let parts = cons-one y x (xs ++ last ∷ []) back same in
    inr (xs, sym parts.1, ap (λ z. z ∷ xs) parts.0)
cut-last (y ∷ xs) last (f ∷ front) x back same =
    let parts = cons-one y f (xs ++ last ∷ []) (front ++ x ∷ back) same in
    ⊎_elim
    (λ here. inl (here.0, ap (λ z. z ∷ xs) parts.0 ∙ ap (λ l. f ∷ l) here.1))
    (λ before. inr (before.0, before.1, ap (λ z. z ∷ xs) parts.0 ∙ ap (λ l. f ∷ l) before.2))
    (cut-last xs last front x back parts.1)

among-front : {X : Type 0} (x : X) (before after whole : List X) → whole ≡ before ++ x ∷ after → Among x whole
among-front x before after whole is = subst (Among x) (sym is) (among-right x before (x ∷ after) (inl refl))

-- ---- pairs that a hit shows

all-among : {X : Type 0} (p : X → Bool) (xs : List X) (x : X) → list_all p xs ≡ true → Among x xs → p x ≡ true
all-among p [] x all among = absurd among
all-among p (y ∷ xs) x all (inl same) = ap p same ∙ and-left (p y) (list_all p xs) all
all-among p (y ∷ xs) x all (inr among) = all-among p xs x (and-right (p y) (list_all p xs) all) among

-- a key that a hit shows is one under which the text verifies
pub shown-test : (proven : Proven) (pair : Pair) → proven.text ≡ pair.text → Among pair.public proven.keys → is_sealed pair ≡ true
shown-test proven pair text key =
    subst (λ x. is_sealed (pair_of x pair.public) ≡ true) text (all-among (λ public. is_sealed (pair_of proven.text public)) proven.keys pair.public proven.proved key)

pub unsealed-shown : (proven : Proven) (pair : Pair) → proven.text ≡ pair.text → Among pair.public proven.keys → IsUnsealed pair → ⊥
unsealed-shown proven pair text key nay = true≢false (sym (shown-test proven pair text key) ∙ is_sealed-from_IsUnsealed pair nay)

-- ---- the last event

one-shelf : (a b : ShelfCall) (r s : ShelfReply) → Shelf a r ≡ Shelf b s → (a ≡ b) × (r ≡ s)
one-shelf a b r s same = (cc same, cc same)

module _ (events : List Event) (e : Event) where
  last-or : (x : Event) → Among x (events ++ e ∷ []) → Among x events ⊎ (x ≡ e)
  last-or x among = ⊎_elim (λ old. inl old) (λ last. ⊎_elim (λ same. inr same) (λ none. absurd none) last) (among-split x events (e ∷ []) among)

  hit-more : (pair : Pair) → ShownByHit events pair → ShownByHit (events ++ e ∷ []) pair
  hit-more pair (url, moment, proven, there, text, key) = (url, moment, proven, among-left _ events (e ∷ []) there, text, key)

  -- an event that is no Hit shows nothing more
  unshown-more : (pair : Pair) → ((url : List ℕ) (moment : ℕ) (proven : Proven) → e ≡ Shelf (Look url moment) (Hit proven) → ⊥) → ShownUnproved (events ++ e ∷ []) pair → ShownUnproved events pair
  unshown-more pair no_hit shown =
      ⊎_elim
      (λ here. absurd (no_hit shown.url shown.moment shown.proven here.0))
      (λ before. record {
        url = shown.url;
        moment = shown.moment;
        proven = shown.proven;
        before = shown.before;
        after = before.0;
        stands = before.2;
        shows = shown.shows;
        unproved = shown.unproved;
      })
      (cut-last events e shown.before (Shelf (Look shown.url shown.moment) (Hit shown.proven)) shown.after shown.stands)

pub shown-hit : (events : List Event) (pair : Pair) → ShownUnproved events pair → ShownByHit events pair
shown-hit events pair shown = (shown.url, shown.moment, shown.proven, among-front _ shown.before shown.after events shown.stands, shown.shows.0, shown.shows.1)

no_put : (url : List ℕ) (moment : ℕ) (r : ShelfReply) (events : List Event) → puts_in (events ++ Shelf (Look url moment) r ∷ []) ≡ puts_in events
no_put url moment r events = filter_map-append put_in events (Shelf (Look url moment) r ∷ []) ∙ append-nil (puts_in events)

no_put-prove : (url : List ℕ) (pair : Pair) (r : ShelfReply) (events : List Event) → puts_in (events ++ Shelf (Prove url pair) r ∷ []) ≡ puts_in events
no_put-prove url pair r events = filter_map-append put_in events (Shelf (Prove url pair) r ∷ []) ∙ append-nil (puts_in events)

look-not_prove : (url at : List ℕ) (moment : ℕ) (pair : Pair) (r s : ShelfReply) → Shelf (Look url moment) r ≡ Shelf (Prove at pair) s → ⊥
look-not_prove url at moment pair r s same = cc same

look-not_put : (url at text : List ℕ) (moment until : ℕ) (r s : ShelfReply) → Shelf (Look url moment) r ≡ Shelf (Put at text until) s → ⊥
look-not_put url at text moment until r s same = cc same

put-not_prove : (url at text : List ℕ) (until : ℕ) (pair : Pair) (r s : ShelfReply) → Shelf (Put url text until) r ≡ Shelf (Prove at pair) s → ⊥
put-not_prove url at text until pair r s same = cc same

-- ---- one check more

abbrev pub with_check : Trace → Check → Trace
with_check t check = record t { checks = t.checks ++ check ∷ [] }

abbrev pub with_event : Trace → Event → Trace
with_event t e = record t { events = t.events ++ e ∷ [] }

abbrev pub with_prove : Trace → List ℕ → Pair → ShelfReply → Trace
with_prove t url pair r = with_event t (Shelf (Prove url pair) r)

abbrev pub with_look : Trace → List ℕ → ShelfReply → Trace
with_look t url r = with_event t (Shelf (Look url t.moment) r)

abbrev pub with_put : Trace → List ℕ → List ℕ → ℕ → ShelfReply → Trace
with_put t url text until r = with_event t (Shelf (Put url text until) r)

module _ (age : ℕ) (t : Trace) (check : Check) where
  abbrev checked : Trace
  checked = with_check t check

  tested-more : (pair : Pair) → TestedGood t.checks pair → TestedGood checked.checks pair
  tested-more pair (c, there, is, good) = (c, among-left c t.checks (check ∷ []) there, is, good)

  check-or : (c : Check) → Among c checked.checks → Among c t.checks ⊎ (c ≡ check)
  check-or c among = ⊎_elim (λ old. inl old) (λ last. ⊎_elim (λ same. inr same) (λ none. absurd none) last) (among-split c t.checks (check ∷ []) among)

  pub check-more : IsTrueSoFar age t → IsCheck t.searches t.keys.keys check → ¬ Among (pair_in check) (map pair_in t.checks) → ¬ ShownByHit t.events (pair_in check) → IsTrueSoFar age checked
  check-more told is fresh unshown = record {
    looks = told.looks;
    hits = told.hits;
    puts = told.puts;
    proves = λ url seal r among. ⊎_elim (λ tested. inl (tested-more seal tested)) (λ shown. inr shown) (told.proves url seal r among);
    checks = record {
      each = λ c among. ⊎_elim (λ old. told.checks.each c old) (λ same. subst (IsCheck t.searches t.keys.keys) (sym same) is) (check-or c among);
      once = subst NoneTwice (sym (map-append pair_in t.checks (check ∷ []))) (none-snoc (map pair_in t.checks) (pair_in check) told.checks.once fresh);
    };
    counts = told.counts;
    untested = λ c among shown.
        ⊎_elim (λ old. told.untested c old shown) (λ same. unshown (shown-hit t.events (pair_in check) (subst (λ x. ShownUnproved t.events (pair_in x)) same shown))) (check-or c among);
  }

-- ---- one Prove more

module _ (age : ℕ) (t : Trace) (url : List ℕ) (pair : Pair) (r : ShelfReply) where
  abbrev now_proved : Trace
  now_proved = with_prove t url pair r

  abbrev proved : Event
  proved = Shelf (Prove url pair) r

  prove-is : (at : List ℕ) (seal : Pair) (s : ShelfReply) → Shelf (Prove at seal) s ≡ proved → seal ≡ pair
  prove-is at seal s same = cc same

  no_hit : (at : List ℕ) (moment : ℕ) (proven : Proven) → proved ≡ Shelf (Look at moment) (Hit proven) → ⊥
  no_hit at moment proven same = look-not_prove at url moment pair (Hit proven) r (sym same)

  pub prove-more : IsTrueSoFar age t → IsKnownGood t pair → IsTrueSoFar age now_proved
  prove-more told known = record {
    looks = λ at moment s among. ⊎_elim (λ old. told.looks at moment s old) (λ last. absurd (look-not_prove at url moment pair s r last)) (last-or t.events proved _ among);
    hits = λ at proven among. let look = told.hits at proven among in (look.0, among-left _ t.events (proved ∷ []) look.1);
    puts = λ kept among. told.puts kept (subst (Among kept) (no_put-prove url pair r t.events) among);
    proves = λ at seal s among.
        ⊎_elim
        (λ old. ⊎_elim (λ tested. inl tested) (λ shown. inr (hit-more t.events proved seal shown)) (told.proves at seal s old))
        (λ last. subst (λ p. TestedGood t.checks p ⊎ ShownByHit now_proved.events p) (sym (prove-is at seal s last)) (⊎_elim (λ tested. inl tested) (λ shown. inr (hit-more t.events proved pair shown)) known))
        (last-or t.events proved _ among);
    checks = record { each = told.checks.each; once = told.checks.once };
    counts = told.counts;
    untested = λ c among shown. told.untested c among (unshown-more t.events proved (pair_in c) no_hit shown);
  }

  -- it places no text
  places-less : (at text : List ℕ) → SomePlaces at text now_proved.events → SomePlaces at text t.events
  places-less at text (e, among, places) = ⊎_elim (λ old. (e, old, places)) (λ last. absurd (subst (Places at text) last places)) (last-or t.events proved e among)

  proved-more : (p : Pair) → IsProved t p → IsProved now_proved p
  proved-more p is = record {
    url = is.url;
    obtained = is.obtained;
    before = is.before;
    answer = is.answer;
    after = is.after ++ proved ∷ [];
    stands = ap (λ es. es ++ proved ∷ []) is.stands ∙ append_assoc is.before (Shelf (Prove is.url p) is.answer ∷ is.after) (proved ∷ []);
    placed = λ some. is.placed (places-less is.url p.text some);
  }

  -- the pair is proved now
  pub prove-proved : Obtained t.searches url pair.text → IsProved now_proved pair
  prove-proved obtained = record {
    url = url;
    obtained = obtained;
    before = t.events;
    answer = r;
    after = [];
    stands = refl;
    placed = λ some. places-less url pair.text some;
  }

  pub prove-good : ProvesGood t → ProvesGood now_proved
  prove-good good c among is = proved-more (pair_in c) (good c among is)

-- a check proves nothing, and a bad one asks for no proof
pub check-proved : (t : Trace) (check : Check) (p : Pair) → IsProved t p → IsProved (with_check t check) p
check-proved t check p is = record {
  url = is.url;
  obtained = is.obtained;
  before = is.before;
  answer = is.answer;
  after = is.after;
  stands = is.stands;
  placed = is.placed;
}

pub bad-good : (t : Trace) (check : Check) → check.good ≡ false → ProvesGood t → ProvesGood (with_check t check)
bad-good t check bad good c among is =
    ⊎_elim
    (λ old. check-proved t check (pair_in c) (good c old is))
    (λ same. absurd (true≢false (sym is ∙ ap (λ (x : Check). x.good) same ∙ bad)))
    (check-or 0 t check c among)

-- a good check that is proved
pub tested-good : (t : Trace) (check : Check) (url : List ℕ) (r : ShelfReply) → Obtained t.searches url check.text → ProvesGood t → ProvesGood (with_prove (with_check t check) url (pair_in check) r)
tested-good t check url r obtained good c among is =
    ⊎_elim
    (λ old. proved-more 0 (with_check t check) url (pair_in check) r (pair_in c) (check-proved t check (pair_in c) (good c old is)))
    (λ same. subst (λ (x : Check). IsProved (with_prove (with_check t check) url (pair_in check) r) (pair_in x)) (sym same) (prove-proved 0 (with_check t check) url (pair_in check) r obtained))
    (check-or 0 t check c among)

-- ---- one Look more

module _ (age : ℕ) (t : Trace) (url : List ℕ) (r : ShelfReply) where
  abbrev after_look : Trace
  after_look = with_look t url r

  abbrev looked : Event
  looked = Shelf (Look url t.moment) r

  look-moment : (at : List ℕ) (moment : ℕ) (s : ShelfReply) → Shelf (Look at moment) s ≡ looked → moment ≡ t.moment
  look-moment at moment s same = cc same

  pub look-more : IsTrueSoFar age t → ((c : Check) → Among c t.checks → ¬ ShownUnproved after_look.events (pair_in c)) → IsTrueSoFar age after_look
  look-more told untested = record {
    looks = λ at moment s among. ⊎_elim (λ old. told.looks at moment s old) (λ last. look-moment at moment s last) (last-or t.events looked _ among);
    hits = λ at proven among. let look = told.hits at proven among in (look.0, among-left _ t.events (looked ∷ []) look.1);
    puts = λ kept among. told.puts kept (subst (Among kept) (no_put url t.moment r t.events) among);
    proves = λ at seal s among.
        ⊎_elim
        (λ old. ⊎_elim (λ tested. inl tested) (λ shown. inr (hit-more t.events looked seal shown)) (told.proves at seal s old))
        (λ last. absurd (look-not_prove url at t.moment seal r s (sym last)))
        (last-or t.events looked _ among);
    checks = record { each = told.checks.each; once = told.checks.once };
    counts = told.counts;
    untested = untested;
  }

  -- a Look that isn't a Hit shows nothing
  pub miss-more : ((proven : Proven) → r ≡ Hit proven → ⊥) → IsTrueSoFar age t → IsTrueSoFar age after_look
  miss-more miss told =
      look-more told
      (λ c among shown. told.untested c among (unshown-more t.events looked (pair_in c) (λ at moment proven same. miss proven (one-shelf (Look url t.moment) (Look at moment) r (Hit proven) same).1) shown))

  -- each pair that a Hit shows and that was tested before was proved before
  pub hit-shown : (proven : Proven) → r ≡ Hit proven → IsTrueSoFar age t → ProvesGood t → IsTrueSoFar age after_look
  hit-shown proven is told good =
      look-more told
      (λ c among shown.
      ⊎_elim
      (λ here.
      by_answer c c.good refl (told.checks.each c among).answer
      (λ nay. unsealed-shown shown.proven (pair_in c) shown.shows.0 shown.shows.1 nay)
      (λ aye. unproved-none c among aye shown here.1))
      (λ before. told.untested c among (record {
        url = shown.url;
        moment = shown.moment;
        proven = shown.proven;
        before = shown.before;
        after = before.0;
        stands = before.2;
        shows = shown.shows;
        unproved = shown.unproved;
      }))
      (cut-last t.events looked shown.before (Shelf (Look shown.url shown.moment) (Hit shown.proven)) shown.after shown.stands))
    where
      by_answer : (c : Check) (b : Bool) → c.good ≡ b → IsAnswer (pair_in c) c.good → (IsUnsealed (pair_in c) → ⊥) → (c.good ≡ true → ⊥) → ⊥
      by_answer c true aye answer sealed none = none aye
      by_answer c false nay answer sealed none = sealed (subst (IsAnswer (pair_in c)) nay answer)

      unproved-none : (c : Check) → Among c t.checks → c.good ≡ true → (shown : ShownUnproved after_look.events (pair_in c)) → t.events ≡ shown.before → ⊥
      unproved-none c among aye shown same =
          let is = good c among aye in
          shown.unproved is.url is.answer (subst (Among (Shelf (Prove is.url (pair_in c)) is.answer)) same (among-front _ is.before is.after t.events is.stands))

-- ---- one Put more

put-one : (url at text put : List ℕ) (until end : ℕ) (r s : ShelfReply) → Shelf (Put at put end) s ≡ Shelf (Put url text until) r → (at ≡ url) × (put ≡ text) × (end ≡ until)
put-one url at text put until end r s same = (cc same, cc same, cc same)

module _ (age : ℕ) (t : Trace) (url text : List ℕ) (until : ℕ) (r : ShelfReply) where
  abbrev after_put : Trace
  after_put = with_put t url text until r

  abbrev was_put : Event
  was_put = Shelf (Put url text until) r

  abbrev kept_here : Kept
  kept_here = record { url = url; text = text; until = until }

  some_puts : puts_in after_put.events ≡ puts_in t.events ++ kept_here ∷ []
  some_puts = filter_map-append put_in t.events (was_put ∷ [])

  not_hit : (at : List ℕ) (moment : ℕ) (proven : Proven) → was_put ≡ Shelf (Look at moment) (Hit proven) → ⊥
  not_hit at moment proven same = look-not_put at url text moment until (Hit proven) r (sym same)

  pub put-more : IsTrueSoFar age t → FetchedText t.searches url text → (page : Need) → kept_text t.moment age page text ≡ Some kept_here → IsTrueSoFar age after_put
  put-more told fetched page is = record {
    looks = λ at moment s among. ⊎_elim (λ old. told.looks at moment s old) (λ last. absurd (look-not_put at url text moment until s r last)) (last-or t.events was_put _ among);
    hits = λ at proven among. let look = told.hits at proven among in (look.0, among-left _ t.events (was_put ∷ []) look.1);
    puts = λ kept among.
        ⊎_elim (λ old. told.puts kept old)
        (λ last. ⊎_elim (λ same. subst (λ (k : Kept). FetchedText t.searches k.url k.text × ((p : Need) × (kept_text t.moment age p k.text ≡ Some k))) (sym same) (fetched, (page, is))) (λ none. absurd none) last)
        (among-split kept (puts_in t.events) (kept_here ∷ []) (subst (Among kept) some_puts among));
    proves = λ at seal s among.
        ⊎_elim
        (λ old. ⊎_elim (λ tested. inl tested) (λ shown. inr (hit-more t.events was_put seal shown)) (told.proves at seal s old))
        (λ last. absurd (put-not_prove url at text until seal r s (sym last)))
        (last-or t.events was_put _ among);
    checks = record { each = told.checks.each; once = told.checks.once };
    counts = told.counts;
    untested = λ c among shown. told.untested c among (unshown-more t.events was_put (pair_in c) not_hit shown);
  }

-- ---- one event more, and what is proved

module _ (t : Trace) (e : Event) where
  abbrev after_event : Trace
  after_event = with_event t e

  -- an event that doesn't place the text of a pair anew leaves it proved
  pub still-proved : (p : Pair) (is : IsProved t p) → (Places is.url p.text e → SomePlaces is.url p.text t.events) → IsProved after_event p
  still-proved p is old = record {
    url = is.url;
    obtained = is.obtained;
    before = is.before;
    answer = is.answer;
    after = is.after ++ e ∷ [];
    stands = ap (λ es. es ++ e ∷ []) is.stands ∙ append_assoc is.before (Shelf (Prove is.url p) is.answer ∷ is.after) (e ∷ []);
    placed = λ some. is.placed (earlier some);
  }
    where
      earlier : SomePlaces is.url p.text after_event.events → SomePlaces is.url p.text t.events
      earlier (x, among, places) = ⊎_elim (λ before. (x, before, places)) (λ last. old (subst (Places is.url p.text) last places)) (last-or t.events e x among)

-- ---- one ask more

module _ (earlier : List Search) (a b : Search) (more : (ask : Ask) → Among ask a.asks → Among ask b.asks) where
  asks-more : (ask : Ask) → Among ask (asks_in (earlier ++ a ∷ [])) → Among ask (asks_in (earlier ++ b ∷ []))
  asks-more ask among =
      let from = flat_map-among (λ (s : Search). s.asks) ask (earlier ++ a ∷ []) among in
      ⊎_elim
      (λ old. among-flat_map (λ (s : Search). s.asks) from.0 ask (earlier ++ b ∷ []) (among-left from.0 earlier (b ∷ []) old) from.2)
      (λ last. ⊎_elim
      (λ same. among-flat_map (λ (s : Search). s.asks) b ask (earlier ++ b ∷ []) (among-right b earlier (b ∷ []) (inl refl)) (more ask (subst (λ (s : Search). Among ask s.asks) same from.2)))
      (λ none. absurd none) last)
      (among-split from.0 earlier (a ∷ []) from.1)

  pub obtained-more : (url text : List ℕ) → Obtained (earlier ++ a ∷ []) url text → Obtained (earlier ++ b ∷ []) url text
  obtained-more url text (ask, there, at, is) = (ask, asks-more ask there, at, is)

  pub fetched-more : (url text : List ℕ) → FetchedText (earlier ++ a ∷ []) url text → FetchedText (earlier ++ b ∷ []) url text
  fetched-more url text (ask, there, at, is) = (ask, asks-more ask there, at, is)

  pub check-kept : (keys : List Jwk) (check : Check) → IsCheck (earlier ++ a ∷ []) keys check → IsCheck (earlier ++ b ∷ []) keys check
  check-kept keys check is = record {
    url = is.url;
    obtained = obtained-more is.url check.text is.obtained;
    named = ⊎_elim (λ by. inl (by.0, by.1, by.2, obtained-more by.0 by.1 by.3, by.4, by.5)) (λ own. inr own) is.named;
    answer = is.answer;
  }

module _ (age : ℕ) (t : Trace) (earlier : List Search) (a b : Search) (is : t.searches ≡ earlier ++ a ∷ []) (more : (ask : Ask) → Among ask a.asks → Among ask b.asks) where
  abbrev after_ask : Trace
  after_ask = record t { searches = earlier ++ b ∷ [] }

  -- the round that is under way has more asks, whose hits are Looks
  pub ask-more : IsTrueSoFar age t → ((url : List ℕ) (proven : Proven) → Among (record { url = url; got = got.Hit proven }) b.asks → Among (record { url = url; got = got.Hit proven }) a.asks ⊎ ((moment : ℕ) × Among (Shelf (Look url moment) (Hit proven)) t.events))
      → Counts b → IsTrueSoFar age after_ask
  ask-more told hits counts = record {
    looks = told.looks;
    hits = λ url proven among.
        let from = flat_map-among (λ (s : Search). s.asks) (record { url = url; got = got.Hit proven }) (earlier ++ b ∷ []) among in
        let old : Among (record { url = url; got = got.Hit proven }) (asks_in (earlier ++ a ∷ [])) → (moment : ℕ) × Among (Shelf (Look url moment) (Hit proven)) t.events =
        λ there. told.hits url proven (subst (λ ss. Among (record { url = url; got = got.Hit proven }) (asks_in ss)) (sym is) there) in
        ⊎_elim
        (λ front. old (among-flat_map (λ (s : Search). s.asks) from.0 _ (earlier ++ a ∷ []) (among-left from.0 earlier (a ∷ []) front) from.2))
        (λ last. ⊎_elim
        (λ same. ⊎_elim
        (λ before. old (among-flat_map (λ (s : Search). s.asks) a _ (earlier ++ a ∷ []) (among-right a earlier (a ∷ []) (inl refl)) before))
        (λ look. look)
        (hits url proven (subst (λ (s : Search). Among (record { url = url; got = got.Hit proven }) s.asks) same from.2)))
        (λ none. absurd none) last)
        (among-split from.0 earlier (b ∷ []) from.1);
    puts = λ kept among.
        let old = told.puts kept among in
        (fetched-more earlier a b more kept.url kept.text (subst (λ ss. FetchedText ss kept.url kept.text) is old.0), old.1);
    proves = told.proves;
    checks = record {
      each = λ c among. check-kept earlier a b more t.keys.keys c (subst (λ ss. IsCheck ss t.keys.keys c) is (told.checks.each c among));
      once = told.checks.once;
    };
    counts = λ search among.
        ⊎_elim
        (λ front. told.counts search (subst (Among search) (sym is) (among-left search earlier (a ∷ []) front)))
        (λ last. ⊎_elim (λ same. subst Counts (sym same) counts) (λ none. absurd none) last)
        (among-split search earlier (b ∷ []) among);
    untested = told.untested;
  }

  pub ask-good : ProvesGood t → ProvesGood after_ask
  ask-good good c among aye =
      let p = good c among aye in
      record {
        url = p.url;
        obtained = obtained-more earlier a b more p.url c.text (subst (λ ss. Obtained ss p.url c.text) is p.obtained);
        before = p.before;
        answer = p.answer;
        after = p.after;
        stands = p.stands;
        placed = p.placed;
      }
