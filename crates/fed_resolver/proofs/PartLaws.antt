-- A trace that is told whole is told in part.
use Rattle.std.proofs.Common.{◌≡◌, ◌⊎◌, ℕ, List, [], ◌∷◌, ◌++◌, map, Bool, true, false, cond, Some, None, refl, sym, ap, ◌∙◌, subst, inl, inr, ⊎_elim, zip}
use Rattle.std.specs.Option.{option_and_then}
use Rattle.jwk_set.specs.declared.jwk.Jwk.{Jwk}
use Rattle.entity_statement.specs.Claims.{Claims, Identifier}
use Rattle.entity_statement.specs.Use.{current_at}
use Rattle.chain_climb.specs.Elements.{Among}
use Rattle.chain_climb.proofs.Elements.{among-flat_map, among-split, flat_map-among}
use Rattle.resolve_round.proofs.Elements.{among-filter_map, among-map, filter-among, map-among}
use Rattle.statement_shelf.specs.declared.calls.ShelfCall.{ShelfCall}
use Rattle.statement_shelf.specs.declared.calls.ShelfCall.TheVariants.{Look}
use Rattle.statement_shelf.specs.declared.calls.ShelfReply.{ShelfReply}
use Rattle.statement_shelf.specs.declared.calls.BookCall.{BookCall}
use Rattle.statement_shelf.specs.declared.calls.BookCall.TheVariants.{Read}
use Rattle.statement_shelf.specs.declared.calls.BookReply.{BookReply}
use Rattle.statement_shelf.specs.declared.calls.BookReply.TheVariants.{Keys, At, Rotated, Behind, NoAnchor, Memory}
use Rattle.fed_ports.specs.declared.page.Page.{Page}
use Rattle.chain_climb.specs.Climbs.{Need}
use Rattle.resolve_round.specs.declared.trace.Ask.{Ask}
use Rattle.resolve_round.specs.declared.trace.Event.TheVariants.{Shelf, Book}
use Rattle.resolve_round.specs.declared.trace.Got.TheVariants.{Hit}
use Rattle.resolve_round.specs.declared.trace.Search.{Search}
use Rattle.resolve_round.specs.declared.trace.Trace.{Trace}
use Rattle.resolve_round.specs.Courses.{Counts, Course, Stop, asked, document_in, fetched, finished, found, is_hit, out_of_calls, out_of_paths, search_of, url_of}
use Rattle.resolve_round.specs.Pages.{Query, named_statement}
use Rattle.resolve_round.specs.Rounds.{AreRounds, AreRoundsForEach, Round, for_entity, need_url}
use Rattle.resolve_round.specs.Told.{HitsAreLooks, LooksAreNow, PutsAreFetched}
use Rattle.fed_resolver.specs.Told.{BeginsSo, GaveKeys, GaveSome, SearchesAfter, Situation, ToldInPart, ToldWhole, query_of}
use Rattle.resolve_round.specs.Traces.{Kept, ShelfEvent, kept_of, kept_text, kept_until, look_at_end, look_for, look_in, looks_of, puts_in, puts_of}
use Rattle.resolve_round.proofs.HintLaws.{kept-some, then-some}
use Rattle.fed_resolver.proofs.CourseLaws.{did-looks, did-puts}
use Rattle.fed_resolver.proofs.ToldLaws.{hit-looked}
use Rattle.fed_resolver.proofs.WebLaws.{counted-among}

-- the asks stand beside the needs of their URLs
zip-asks : (needs : List Need) (asks : List Ask) (x : Need × Ask) → map url_of asks ≡ map need_url needs → Among x (zip needs asks) → Among x.1 asks × (x.1.url ≡ x.0.url)
zip-asks [] asks x same among = absurd among
zip-asks (page ∷ needs) [] x same among = absurd among
zip-asks (page ∷ needs) (ask ∷ asks) x same (inl one) =
    let head : ask.url ≡ page.url = cc same in
    (inl (ap (λ (p : Need × Ask). p.1) one), ap (λ (p : Need × Ask). p.1.url) one ∙ head ∙ ap (λ (p : Need × Ask). p.0.url) (sym one))
zip-asks (page ∷ needs) (ask ∷ asks) x same (inr among) =
    let tail : map url_of asks ≡ map need_url needs = cc same in
    let rest = zip-asks needs asks x tail among in (inr rest.0, rest.1)

text-kept : (t age : ℕ) (page : Need) (text : List ℕ) (kept : Kept) → kept_text t age page text ≡ Some kept → (kept.url ≡ page.url) × (kept.text ≡ text)
text-kept t age page text kept is =
    let s = then-some (λ (c : Claims). cond (current_at c.iat c.exp t) (Some (record { url = page.url; text = text; until = kept_until t age c.exp })) None) (named_statement page text) kept is in
    let one = kept-some (current_at (s.0).iat (s.0).exp t) (record { url = page.url; text = text; until = kept_until t age (s.0).exp }) kept s.2 in
    (ap (λ (k : Kept). k.url) (sym one), ap (λ (k : Kept). k.text) (sym one))

-- a round asked the link for the page, and got this document
pub record PutFetched (t age : ℕ) (course : Course) (kept : Kept) : Type 0 where
  pub ask : Ask
  pub asked : Among ask course.search.asks
  pub url : ask.url ≡ kept.url
  pub page : Page
  pub fetches : fetched ask.got ≡ Some page
  pub document : document_in page ≡ Some kept.text
  pub need : Need
  pub keeps : kept_text t age need kept.text ≡ Some kept

-- what a round put is a page that it fetched
pub put-fetched : (t age : ℕ) (query : Query) (course : Course) → Round query course → (kept : Kept) → Among kept (puts_of t age course) → PutFetched t age course kept
put-fetched t age query course round kept among =
    let pair = filter-among (kept_of t age) kept (asked course) among in
    let ask = zip-asks course.needs course.search.asks pair.0 round.asks pair.1 in
    let text = then-some (kept_text t age pair.0.0) (option_and_then document_in (fetched pair.0.1.got)) kept pair.2 in
    let page = then-some document_in (fetched pair.0.1.got) text.0 text.1 in
    let same = text-kept t age pair.0.0 text.0 kept text.2 in
    record {
      ask = pair.0.1;
      asked = ask.0;
      url = ask.1 ∙ sym same.0;
      page = page.0;
      fetches = page.1;
      document = page.2 ∙ ap Some (sym same.1);
      need = pair.0.0;
      keeps = subst (λ x. kept_text t age pair.0.0 x ≡ Some kept) (sym same.1) text.2;
    }

-- ---- rounds

-- a round of some query, which looks or hits nothing
pub record IsOne (course : Course) : Type 0 where
  pub query : Query
  pub round : Round query course
  pub looks : (course.looks ≡ true) ⊎ (course.search.hits ≡ 0)

one-along : (a b : Course) → a ≡ b → IsOne b → IsOne a
one-along a b same one = subst IsOne (sym same) one

rounds-one : (query : Query) (courses : List Course) → AreRounds query courses → (course : Course) → Among course courses → IsOne course
rounds-one query [] rounds course among = absurd rounds
rounds-one query (only ∷ []) rounds course (inl one) = one-along course only one (record { query = query; round = rounds.0; looks = inl rounds.1 })
rounds-one query (only ∷ []) rounds course (inr none) = absurd none
rounds-one query (first ∷ second ∷ []) rounds course (inl one) = one-along course first one (record { query = query; round = rounds.0; looks = inl rounds.1 })
rounds-one query (first ∷ second ∷ []) rounds course (inr (inl one)) = one-along course second one (record { query = query; round = rounds.3; looks = inr rounds.5 })
rounds-one query (first ∷ second ∷ []) rounds course (inr (inr none)) = absurd none
rounds-one query (first ∷ second ∷ third ∷ rest) rounds course among = absurd rounds

others-one : (query : Query) (entities : List Identifier) (courses : List Course) → AreRoundsForEach query entities courses → (course : Course) → Among course courses → IsOne course
others-one query [] courses rounds course among = absurd (subst (Among course) rounds among)
others-one query (entity ∷ entities) courses (here, rest, split, first, later) course among =
    ⊎_elim (λ front. rounds-one (for_entity query entity) here first course front) (λ back. others-one query entities rest later course back)
    (among-split course here rest (subst (Among course) split among))

none-one : (leaf others : List Course) → (leaf ≡ []) × (others ≡ []) → (course : Course) → Among course (leaf ++ others) → IsOne course
none-one leaf others none course among = absurd (subst (Among course) (ap (λ l. l ++ others) none.0 ∙ none.1) among)

each-one : (here : Situation) (answer : BookReply) (leaf others : List Course) → SearchesAfter here answer leaf others → (course : Course) → Among course (leaf ++ others) → IsOne course
each-one here (Keys epoch set) leaf others searches course among =
    ⊎_elim (λ front. rounds-one (query_of here set.keys) leaf searches.rounds course front) (λ back. others-one (query_of here set.keys) _ others searches.issuers course back)
    (among-split course leaf others among)
each-one here (At n) leaf others searches course among = none-one leaf others searches course among
each-one here (Rotated n) leaf others searches course among = none-one leaf others searches course among
each-one here (Behind n) leaf others searches course among = none-one leaf others searches course among
each-one here NoAnchor leaf others searches course among = none-one leaf others searches course among
each-one here Memory leaf others searches course among = none-one leaf others searches course among

-- ---- the points of the trace

gave-some : (answer : BookReply) (n : ℕ) (keys : List Jwk) → GaveKeys answer n keys → GaveSome answer n keys
gave-some (Keys epoch set) n keys gave = (gave.0, inl gave.1)
gave-some (At e) n keys gave = gave
gave-some (Rotated e) n keys gave = gave
gave-some (Behind e) n keys gave = gave
gave-some NoAnchor n keys gave = gave
gave-some Memory n keys gave = gave

look-same : (url at : List ℕ) (m t : ℕ) → Look url m ≡ Look at t → m ≡ t
look-same url at m t same = cc same

end-moment : (t : ℕ) (stop : Stop) (url : List ℕ) (m : ℕ) (r : ShelfReply) → Among (Look url m, r) (look_at_end t stop) → m ≡ t
end-moment t finished url m r among = absurd among
end-moment t (found path) url m r among = absurd among
end-moment t (out_of_calls page) url m r (inl same) = look-same url page.url m t (ap (λ (e : ShelfEvent). e.0) same)
end-moment t (out_of_calls page) url m r (inr none) = absurd none
end-moment t (out_of_paths path) url m r among = absurd among

ask-moment : (t : ℕ) (ask : Ask) (url : List ℕ) (m : ℕ) (r s : ShelfReply) → ◌≡◌ {A = ShelfEvent} (Look url m, r) (Look ask.url t, s) → m ≡ t
ask-moment t ask url m r s same = look-same url ask.url m t (ap (λ (e : ShelfEvent). e.0) same)

look-moment : (t : ℕ) (course : Course) (b : Bool) (url : List ℕ) (m : ℕ) (r : ShelfReply) → Among (Look url m, r) (cond b (map (look_for t) course.search.asks ++ look_at_end t course.stop) []) → m ≡ t
look-moment t course true url m r among =
    ⊎_elim
    (λ front. let ask = map-among (look_for t) (Look url m, r) course.search.asks front in ask-moment t ask.0 url m r _ ask.2)
    (λ back. end-moment t course.stop url m r back)
    (among-split (Look url m, r) (map (look_for t) course.search.asks) (look_at_end t course.stop) among)
look-moment t course false url m r among = absurd among

module _ (here : Situation) (trace : Trace) (told : ToldWhole here trace) where
  abbrev courses : List Course
  courses = told.base.leaf ++ told.base.others

  one : (course : Course) → Among course courses → IsOne course
  one course among = each-one here told.base.answer told.base.leaf told.base.others told.base.rounds course among

  from-search : (search : Search) → Among search trace.searches → (course : Course) × Among course courses × (search ≡ course.search)
  from-search search among = map-among search_of search courses (subst (Among search) told.base.searches among)

  begins : BeginsSo here trace trace.events
  begins = subst (BeginsSo here trace) (sym told.base.begins) (refl, gave-some told.base.answer trace.epoch trace.keys.keys told.base.keys, told.base.works)

  in-work : (call : ShelfCall) (r : ShelfReply) → Among (Shelf call r) trace.events → Among (Shelf call r) told.base.work
  in-work call r among = ⊎_elim (λ same. absurd (shelf-book call r (Read here.request.anchor) told.base.answer same)) (λ there. there) (subst (Among (Shelf call r)) told.base.begins among)
    where
      shelf-book : (c : ShelfCall) (s : ShelfReply) (b : BookCall) (a : BookReply) → Shelf c s ≡ Book b a → ⊥
      shelf-book c s b a same = cc same

  looks : LooksAreNow trace
  looks url moment r among =
      let there = among-filter_map look_in (Shelf (Look url moment) r) (Look url moment, r) refl told.base.work (in-work (Look url moment) r among) in
      let from = flat_map-among (looks_of here.moment) (Look url moment, r) courses (subst (Among (Look url moment, r)) (did-looks here.moment here.age courses told.base.work told.did) there) in
      look-moment here.moment from.0 (from.0).looks url moment r from.2 ∙ sym told.base.moment

  hits : HitsAreLooks trace
  hits url proven among =
      let from = flat_map-among (λ (s : Search). s.asks) (record { url = url; got = Hit proven }) trace.searches among in
      let course = from-search from.0 from.1 in
      let inside : Among (record { url = url; got = Hit proven }) (course.0).search.asks = subst (λ (s : Search). Among (record { url = url; got = Hit proven }) s.asks) course.2 from.2 in
      let is = one course.0 course.1 in
      ⊎_elim
      (λ does. (here.moment, hit-looked here trace told course.0 course.1 does url proven inside))
      (λ none. absurd (counted-among is_hit (record { url = url; got = Hit proven }) (course.0).search.asks refl (sym is.round.counts.hits ∙ none) inside))
      is.looks

  puts : PutsAreFetched here.age trace
  puts kept among =
      let there : Among kept (puts_in told.base.work) = subst (λ es. Among kept (puts_in es)) told.base.begins among in
      let from = flat_map-among (puts_of here.moment here.age) kept courses (subst (Among kept) (did-puts here.moment here.age courses told.base.work told.did) there) in
      let put = put-fetched here.moment here.age (one from.0 from.1).query from.0 (one from.0 from.1).round kept from.2 in
      let search : Among (from.0).search trace.searches = subst (Among (from.0).search) (sym told.base.searches) (among-map search_of from.0 courses from.1) in (
        (put.ask, among-flat_map (λ (s : Search). s.asks) (from.0).search put.ask trace.searches search put.asked, put.url, (put.page, put.fetches, put.document)),
        (put.need, subst (λ t. kept_text t here.age put.need kept.text ≡ Some kept) (sym told.base.moment) put.keeps),
      )

  -- a trace that is told whole is told in part
  pub whole-part : ToldInPart here trace
  whole-part = record {
    moment = told.base.moment;
    bounds = told.base.bounds;
    begins = begins;
    looks = looks;
    hits = hits;
    puts = puts;
    proves = told.proves;
    checks = told.base.checks;
    counts = λ search among.
        let course = from-search search among in
        subst Counts (sym course.2) (one course.0 course.1).round.counts;
  }
