-- What a call answers speaks of each web that its exchanges show.
use Rattle.std.proofs.Common.{◌≡◌, ◌≢◌, ◌≤◌, ◌<◌, ◌⊎◌, ℕ, zero, suc, List, [], ◌∷◌, ◌++◌, Bool, true, cond, Option, Some, Result, Ok, Err, refl, sym, ap, ◌∙◌, subst, inl, inr, ⊎_elim, arith}
use Rattle.std.specs.Prelude.{count_by}
use Rattle.std.proofs.lemmas.List.{append-nil, append_assoc, append_cancel_left}
use Rattle.std.proofs.lemmas.List.Sums.{sum_by-cons}
use Rattle.fed_base.specs.Counts.{counted, last_count}
use Rattle.fed_ports.specs.declared.page.Page.{Page}
use Rattle.fed_ports.specs.declared.page.Page.TheVariants.{NoRoute}
use Rattle.fed_ports.specs.Exchanges.{Exchange}
use Rattle.fed_ports.specs.Webs.{Web, page_in}
use Rattle.http_plain.specs.declared.route.Route.{Route}
use Rattle.http_plain.specs.Clients.{ClientPage, HasNoRoute}
use Rattle.node_config.specs.Nodes.{Resolver}
use Rattle.authority_core.specs.Nodes.{Node}
use Rattle.chain_climb.specs.Elements.{Among}
use Rattle.chain_climb.proofs.Elements.{among-flat_map, among-left, among-right, flat_map-among}
use Rattle.resolve_reply.specs.declared.reply.Reply.{Reply}
use Rattle.resolve_reply.specs.declared.signer.Signer.{Signer}
use Rattle.resolve_round.specs.declared.request.ResolveRequest.{ResolveRequest}
use Rattle.resolve_round.specs.declared.trace.Ask.{Ask}
use Rattle.resolve_round.specs.declared.trace.Got.{Got}
use Rattle.resolve_round.specs.declared.trace.Got.TheVariants.{Hit, Fetched, Fault}
use Rattle.resolve_round.specs.declared.trace.Search.{Search}
use Rattle.resolve_round.specs.declared.trace.Trace.{Trace}
use Rattle.resolve_round.specs.Courses.{Counts, document_in, fetched, is_fault}
use Rattle.resolve_round.specs.Told.{FetchedText}
use Rattle.resolve_round.specs.Traces.{asks_in}
use Rattle.fed_resolver.specs.declared.outcome.Outcome.{Outcome}
use Rattle.fed_resolver.specs.declared.outcome.Refusal.{Refusal}
use Rattle.fed_resolver.specs.declared.outcome.Refusal.TheVariants.{NoAnchor, NotFound, PolicyOnly, NoChain, Unavailable, Budget, Worn, Memory}
use Rattle.fed_resolver.specs.Completeness.{FetchedFrom, HitsAgree, documents_in}
use Rattle.fed_resolver.specs.Outcomes.{IsAnswered, Tells}
use Rattle.fed_resolver.specs.Told.{Situation, ToldInPart, ToldWhole, situation_of}
use Rattle.fed_resolver.specs.Uses.{CountsFaults, FetchesFrom, IsComplete, SpeaksFor, faults_met, faults_of}
use Rattle.resolve_call.specs.Alone.{HitsAreFetched}
use Rattle.resolve_call.specs.Ports.{Around}
use Rattle.resolve_call.specs.Calls.{IsCallBy}
use Rattle.resolve_call.specs.Exchanged.{Exchanged, ExchangedBy, ExchangedFor}
use Rattle.node_files.specs.ResolvingParts.{signer_of}
use Rattle.resolve_call.specs.Webs.{IsShownBy, ShowsWeb}
use Rattle.resolve_call.proofs.HitLaws.{hits-fetched, told-part}

-- ---- no fault was met

counted-least : (n b : ℕ) → b < last_count → b ≤ counted n b
counted-least zero b small = omega arith
counted-least (suc n) b small = let before = counted-least n b small in omega (arith, before, small)

counted-grows : (n b : ℕ) → b < last_count → b < counted (suc n) b
counted-grows n b small = let before = counted-least n b small in omega (arith, before, small)

counted-none : (n b now : ℕ) → b < last_count → counted n b ≤ now → now ≡ b → n ≡ 0
counted-none zero b now small most still = refl
counted-none (suc n) b now small most still = let grows = counted-grows n b small in absurd (omega (arith, grows, most, still))

each-zero : (searches : List Search) → faults_met searches ≡ 0 → (search : Search) → Among search searches → search.faults ≡ 0
each-zero [] none search among = absurd among
each-zero (x ∷ searches) none search (inl one) =
    let total = sum_by-cons faults_of x searches in
    let own : search.faults ≡ x.faults = ap faults_of one in
    omega (arith, total, none, own)
each-zero (x ∷ searches) none search (inr among) =
    let total = sum_by-cons faults_of x searches in
    each-zero searches (omega (arith, total, none)) search among

abbrev one_for : (Ask → Bool) → Ask → ℕ
one_for p ask = cond (p ask) 1 0

counted-among : (p : Ask → Bool) (ask : Ask) (asks : List Ask) → p ask ≡ true → count_by p asks ≡ 0 → ¬ Among ask asks
counted-among p ask [] is none among = among
counted-among p ask (x ∷ asks) is none (inl one) =
    let first : one_for p x ≡ 1 = ap (λ a. one_for p a) (sym one) ∙ ap (λ b. cond b 1 0) is in
    let sum = sum_by-cons (one_for p) x asks in
    absurd (omega (arith, first, sum, none))
counted-among p ask (x ∷ asks) is none (inr among) =
    let sum = sum_by-cons (one_for p) x asks in
    counted-among p ask asks is (omega (arith, sum, none)) among

-- none of the asks is one
abbrev Faultless : List Ask → Type 0
Faultless asks = (ask : Ask) → Among ask asks → is_fault ask ≢ true

faultless : (searches : List Search) → faults_met searches ≡ 0 → ((search : Search) → Among search searches → Counts search) → Faultless (asks_in searches)
faultless searches none counts ask among is =
    let from = flat_map-among (λ (s : Search). s.asks) ask searches among in
    counted-among is_fault ask (from.0).asks is (sym (counts from.0 from.1).faults ∙ each-zero searches none from.0 from.1) from.2

-- ---- the exchanges

-- the page of a URL is none to which no route leads, or that which one of the exchanges shows
abbrev IsOf : List Route → List Exchange → List ℕ → Page → Type 0
IsOf routes more url page = (HasNoRoute routes url × (page ≡ NoRoute)) ⊎ ((x : Exchange) × Among x more × ClientPage url routes x page)

-- a list of exchanges was added, and each page that these asks fetched is of one of them
record IsAdded (routes : List Route) (asks : List Ask) (old : List Exchange) (new : Option (List Exchange)) : Type 0 where
  more : List Exchange
  is : new ≡ Some (old ++ more)
  pages : (url : List ℕ) (page : Page) → Among (record { url = url; got = Fetched page }) asks → IsOf routes more url page

-- the exchanges after one ask
record IsNext (routes : List Route) (url : List ℕ) (got : Got) (old : List Exchange) (mid : Option (List Exchange)) : Type 0 where
  next : List Exchange
  is_next : mid ≡ Some (old ++ next)
  page_is : (page : Page) → got ≡ Fetched page → IsOf routes next url page

module _ (routes : List Route) where
  later : (url : List ℕ) (page : Page) (some more : List Exchange) → IsOf routes more url page → IsOf routes (some ++ more) url page
  later url page some more (inl none) = inl none
  later url page some more (inr (x, among, shows)) = inr (x, among-right x some more among, shows)

  sooner : (url : List ℕ) (page : Page) (some more : List Exchange) → IsOf routes some url page → IsOf routes (some ++ more) url page
  sooner url page some more (inl none) = inl none
  sooner url page some more (inr (x, among, shows)) = inr (x, among-left x some more among, shows)

  same-told : (told other : List Exchange) → Some told ≡ Some other → told ≡ other
  same-told told other same = cc same

  same-fetched : (page other : Page) → Fetched page ≡ Fetched other → page ≡ other
  same-fetched page other same = cc same

  next-fetched : (url : List ℕ) (page : Page) (old : List Exchange) (mid : Option (List Exchange)) → ExchangedFor routes url (Fetched page) (Some old) mid → IsNext routes url (Fetched page) old mid
  next-fetched url page old mid (inl none) = record {
    next = [];
    is_next = none.2 ∙ ap Some (sym (append-nil old));
    page_is = λ other same. inl (none.0, sym (same-fetched page other same) ∙ none.1);
  }
  next-fetched url page old mid (inr (x, added, shows)) = record {
    next = x ∷ [];
    is_next = added;
    page_is = λ other same. inr (x, inl refl, subst (ClientPage url routes x) (same-fetched page other same) shows);
  }

  next-of : (url : List ℕ) (got : Got) (old : List Exchange) (mid : Option (List Exchange)) → is_fault (record { url = url; got = got }) ≢ true → ExchangedFor routes url got (Some old) mid → IsNext routes url got old mid
  next-of url (Hit proven) old mid steady is = record { next = []; is_next = is ∙ ap Some (sym (append-nil old)); page_is = λ page same. absurd (cc same) }
  next-of url (Fetched page) old mid steady is = next-fetched url page old mid is
  next-of url Fault old mid steady is = absurd (steady refl)

  added : (asks : List Ask) (old : List Exchange) (new : Option (List Exchange)) → Faultless asks → Exchanged routes asks (Some old) new → IsAdded routes asks old new
  added [] old new steady same = record { more = []; is = same ∙ ap Some (sym (append-nil old)); pages = λ url page none. absurd none }
  added (ask ∷ asks) old new steady (mid, here, there) =
      let first = next-of ask.url ask.got old mid (steady ask (inl refl)) here in
      let rest = added asks (old ++ first.next) new (λ a among. steady a (inr among)) (subst (λ m. Exchanged routes asks m new) first.is_next there) in
      record {
        more = first.next ++ rest.more;
        is = rest.is ∙ ap Some (append_assoc old first.next rest.more);
        pages = λ url page among.
            ⊎_elim
            (λ same. sooner url page first.next rest.more
            (subst (λ u. IsOf routes first.next u page) (sym (ap (λ (a : Ask). a.url) same)) (first.page_is page (sym (ap (λ (a : Ask). a.got) same)))))
            (λ among. later url page first.next rest.more (rest.pages url page among))
            among;
      }

  of-web : (more : List Exchange) (web : Web) → IsShownBy routes more web → (url : List ℕ) (page : Page) → IsOf routes more url page → page ≡ page_in web url
  of-web more web shown url page (inl (none, is)) = is ∙ shown.unrouted url none
  of-web more web shown url page (inr (x, among, shows)) = shown.shown x among url page shows

  -- so each page that was fetched is the web's
  fetched-from : (searches : List Search) (old more : List Exchange) (web : Web) → Faultless (asks_in searches) → Exchanged routes (asks_in searches) (Some old) (Some (old ++ more))
      → IsShownBy routes more web → (search : Search) → Among search searches → FetchedFrom web search
  fetched-from searches old more web steady exchanged shown search among url page inside =
      let all = added (asks_in searches) old (Some (old ++ more)) steady exchanged in
      let same : old ++ more ≡ old ++ all.more = same-told (old ++ more) (old ++ all.more) all.is in
      of-web more web shown url page
      (subst (λ l. IsOf routes l url page) (sym (append_cancel_left old more all.more same))
      (all.pages url page (among-flat_map (λ (s : Search). s.asks) search (record { url = url; got = Fetched page }) searches among inside)))

-- ---- hits

got-fetched : (got : Got) (page : Page) → fetched got ≡ Some page → got ≡ Fetched page
got-fetched (Fetched p) page is = let same : p ≡ page = cc is in ap Fetched same
got-fetched (Hit proven) page is = cc is
got-fetched Fault page is = cc is

-- where what was fetched is the web's, a text that was fetched is
text-agrees : (searches : List Search) (web : Web) → ((search : Search) → Among search searches → FetchedFrom web search) → (url text : List ℕ) → FetchedText searches url text
    → documents_in web url ≡ Some text
unfolding documents_in
text-agrees searches web from url text (ask, there, at, (page, got, reads)) =
    let in_search = flat_map-among (λ (s : Search). s.asks) ask searches there in
    let is : page ≡ page_in web ask.url =
    from in_search.0 in_search.1 ask.url page (subst (λ g. Among (record { url = ask.url; got = g }) (in_search.0).asks) (got-fetched ask.got page got) in_search.2) in
    ap (λ u. document_in (page_in web u)) (sym at) ∙ ap document_in (sym is) ∙ reads

-- so what was hit is, where that was fetched
hits-agree : (searches : List Search) (web : Web) → HitsAreFetched searches → ((search : Search) → Among search searches → FetchedFrom web search)
    → (search : Search) → Among search searches → HitsAgree web search
hits-agree searches web hits from search among url proven inside =
    text-agrees searches web from url proven.text
    (hits url proven (among-flat_map (λ (s : Search). s.asks) search (record { url = url; got = Hit proven }) searches among inside))

-- ---- a call

exchanged-of : (routes : List Route) (asks : List Ask) (old new : Option (List Exchange)) (result : Result Reply Refusal) → IsAnswered result → ExchangedBy routes asks old new result → Exchanged routes asks old new
exchanged-of routes asks old new (Ok reply) answered is = is
exchanged-of routes asks old new (Err NoAnchor) answered is = is
exchanged-of routes asks old new (Err NotFound) answered is = is
exchanged-of routes asks old new (Err PolicyOnly) answered is = is
exchanged-of routes asks old new (Err NoChain) answered is = is
exchanged-of routes asks old new (Err Unavailable) answered is = is
exchanged-of routes asks old new (Err (Budget calls paths)) answered is = is
exchanged-of routes asks old new (Err (Worn count)) answered is = absurd answered
exchanged-of routes asks old new (Err Memory) answered is = absurd answered

-- a trace that is told whole is told in part, and completeness follows from what is told
abbrev InPart : Type 0
InPart = (here : Situation) (trace : Trace) → ToldWhole here trace → ToldInPart here trace

abbrev Completes : Type 0
Completes =
    (here : Situation) (signer : Signer) (web : Option Web) (before now : ℕ) (outcome : Outcome) → Tells here signer outcome outcome.result
    → FetchesFrom web outcome.trace.searches → CountsFaults outcome.trace.searches before now → IsComplete here signer web before now outcome

module _ (in_part : InPart) (node : Node) (resolver : Resolver) (request : ResolveRequest) (before now : Around) (outcome : Outcome) (call : IsCallBy node resolver request before now outcome) where
  abbrev here : Situation
  here = situation_of request (signer_of node resolver call.pair) now.clock.last

  abbrev signer : Signer
  signer = signer_of node resolver call.pair

  told : ToldInPart here outcome.trace
  told = told-part in_part here signer outcome outcome.result call.alone.resolves.tells

  pub hits : HitsAreFetched outcome.trace.searches
  hits = hits-fetched here signer call.anchors outcome call.alone told

  module _ (web : Web) (shows : ShowsWeb resolver.routes before now web) (answered : IsAnswered outcome.result) where
    fetches : (search : Search) → Among search outcome.trace.searches → FetchedFrom web search
    fetches =
        let none = counted-none (faults_met outcome.trace.searches) before.faults now.faults shows.countable call.faults.at_least shows.steady in
        let exchanged = exchanged-of resolver.routes (asks_in outcome.trace.searches) before.exchanges now.exchanges outcome.result answered call.exchanges in
        fetched-from resolver.routes outcome.trace.searches shows.earlier shows.more web (faultless outcome.trace.searches none told.counts)
        (subst (λ n. Exchanged resolver.routes (asks_in outcome.trace.searches) (Some shows.earlier) n) shows.added
        (subst (λ o. Exchanged resolver.routes (asks_in outcome.trace.searches) o now.exchanges) shows.told exchanged))
        shows.web_is

    pub agrees : (search : Search) → Among search outcome.trace.searches → HitsAgree web search
    agrees = hits-agree outcome.trace.searches web hits fetches

    pub speaks : Completes → SpeaksFor here signer web outcome
    speaks completes = completes here signer (Some web) before.faults now.faults outcome call.alone.resolves.tells fetches call.faults shows.steady shows.countable answered
