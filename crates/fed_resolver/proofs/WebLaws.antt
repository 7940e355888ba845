-- What a round says of the web that its pages came from.
use Rattle.std.proofs.Common.{◌≡◌, ◌+◌, ◌⊎◌, ℕ, List, [], ◌∷◌, ◌++◌, length, map, filter_map, find, Bool, true, false, cond, Option, Some, None, refl, sym, ap, ◌∙◌, subst, inl, inr, ⊎_elim, count_by, bytes_eq, arith}
use Rattle.std.specs.List.{cons_option}
use Rattle.std.specs.Option.{option_and_then}
use Rattle.std.proofs.lemmas.List.Elements.{filter_map-append}
use Rattle.std.proofs.lemmas.List.Sums.{sum_by-cons}
use Rattle.fed_json.proofs.Order.{bytes_eq-itself, equal-bytes_eq}
use Rattle.entity_id.specs.Urls.{well_known_of}
use Rattle.entity_statement.specs.Claims.{Claims, Identifier}
use Rattle.chain_climb.specs.Elements.{Among}
use Rattle.fed_ports.specs.Webs.{Web}
use Rattle.chain_climb.proofs.Elements.{among-right, among-split}
use Rattle.chain_climb.specs.declared.path.Path.{Path}
use Rattle.chain_climb.specs.Climbs.{Findings, Need, Step, chain_urls, climb, configuration_of, judge, judged, judged_by, last_of, needed}
use Rattle.chain_climb.specs.Paths.{IsPath, begins, goes_on}
use Rattle.chain_climb.proofs.ClimbLaws.{last-append}
use Rattle.chain_climb.proofs.LevelLaws.{judged-path, path-judged}
use Rattle.chain_climb.proofs.PrefixLaws.{Agree, SameHead, like-climb, same-none}
use Rattle.resolve_round.specs.declared.trace.Ask.{Ask}
use Rattle.resolve_round.specs.declared.trace.Got.{Got}
use Rattle.resolve_round.specs.declared.trace.Got.TheVariants.{Hit, Fetched, Fault}
use Rattle.resolve_round.specs.declared.trace.Search.{Search}
use Rattle.fed_resolver.specs.Completeness.{FetchedFrom, HitsAgree, documents_in}
use Rattle.resolve_round.specs.Courses.{Counts, Course, document_in, finished, found, is_fault, is_hit, pages_of, text_got, url_of}
use Rattle.resolve_round.specs.Pages.{HasChain, HasValidChain, Pages, Query, chain_of, findings, good_text}
use Rattle.resolve_round.specs.Rounds.{Round, good_in, need_url, pages_in}
use Rattle.resolve_round.proofs.BestLaws.{finished-none, stop-finished, stop-found}
use Rattle.resolve_round.proofs.RoundLaws.{first-all}

-- ---- the asks of a round and the web

-- each ask got what the web has
abbrev pub AsksAgree : Web → List Ask → Type 0
AsksAgree web asks = (ask : Ask) → Among ask asks → text_got ask.got ≡ documents_in web ask.url

abbrev one_for : (Ask → Bool) → Ask → ℕ
one_for p ask = cond (p ask) 1 0

pub counted-among : (p : Ask → Bool) (ask : Ask) (asks : List Ask) → p ask ≡ true → count_by p asks ≡ 0 → ¬ Among ask asks
counted-among p ask [] is none among = among
counted-among p ask (x ∷ asks) is none (inl one) =
    let first : one_for p x ≡ 1 = ap (λ a. one_for p a) (sym one) ∙ ap (λ b. cond b 1 0) is in
    let sum = sum_by-cons (one_for p) x asks in
    absurd (omega (arith, first, sum, none))
counted-among p ask (x ∷ asks) is none (inr among) =
    let sum = sum_by-cons (one_for p) x asks in
    counted-among p ask asks is (omega (arith, sum, none)) among

-- without a fault, what was fetched is the web's, and so is what was hit
ask-agrees : (web : Web) (search : Search) → Counts search → search.faults ≡ 0 → FetchedFrom web search → HitsAgree web search → (url : List ℕ) (got : Got)
    → Among (record { url = url; got = got }) search.asks → text_got got ≡ documents_in web url
unfolding documents_in
ask-agrees web search counts none fetched hits url (Hit proven) among = sym (hits url proven among)
ask-agrees web search counts none fetched hits url (Fetched page) among = ap document_in (fetched url page among)
ask-agrees web search counts none fetched hits url Fault among =
    absurd (counted-among is_fault (record { url = url; got = Fault }) search.asks refl (sym counts.faults ∙ none) among)

pub asks-agree : (web : Web) (search : Search) → Counts search → search.faults ≡ 0 → FetchedFrom web search → HitsAgree web search → AsksAgree web search.asks
asks-agree web search counts none fetched hits ask among = ask-agrees web search counts none fetched hits ask.url ask.got among

-- a round without hits agrees with any web in them
pub no-hits : (web : Web) (search : Search) → Counts search → search.hits ≡ 0 → HitsAgree web search
no-hits web search counts none url proven among =
    absurd (counted-among is_hit (record { url = url; got = Hit proven }) search.asks refl (sym counts.hits ∙ none) among)

-- ---- pages

find-page : (web : Web) (url : List ℕ) (b : Bool) (x : Ask) (asks : List Ask) → bytes_eq x.url url ≡ b → text_got x.got ≡ documents_in web x.url
    → (option_and_then (λ (ask : Ask). text_got ask.got) (find (λ ask. bytes_eq ask.url url) asks) ≡ documents_in web url)
    → option_and_then (λ (ask : Ask). text_got ask.got) (cond b (Some x) (find (λ ask. bytes_eq ask.url url) asks)) ≡ documents_in web url
find-page web url true x asks is here later = here ∙ ap (documents_in web) (equal-bytes_eq x.url url is)
find-page web url false x asks is here later = later

some-page : (web : Web) (url text : List ℕ) (b : Bool) (x : Ask) (asks : List Ask) → bytes_eq x.url url ≡ b → text_got x.got ≡ documents_in web x.url
    → (option_and_then (λ (ask : Ask). text_got ask.got) (find (λ ask. bytes_eq ask.url url) asks) ≡ Some text → documents_in web url ≡ Some text)
    → option_and_then (λ (ask : Ask). text_got ask.got) (cond b (Some x) (find (λ ask. bytes_eq ask.url url) asks)) ≡ Some text → documents_in web url ≡ Some text
some-page web url text true x asks is here later got = ap (documents_in web) (sym (equal-bytes_eq x.url url is)) ∙ sym here ∙ got
some-page web url text false x asks is here later got = later got

-- a page that was got is the web's
pub page-some : (web : Web) (asks : List Ask) → AsksAgree web asks → (url text : List ℕ) → pages_of asks url ≡ Some text → documents_in web url ≡ Some text
unfolding pages_of
page-some web [] agree url text got = cc got
page-some web (x ∷ asks) agree url text got =
    some-page web url text (bytes_eq x.url url) x asks refl (agree x (inl refl)) (page-some web asks (λ ask among. agree ask (inr among)) url text) got

-- a page that was asked for is the web's
pub page-asked : (web : Web) (asks : List Ask) → AsksAgree web asks → (url : List ℕ) → Among url (map url_of asks) → pages_of asks url ≡ documents_in web url
unfolding pages_of
page-asked web [] agree url among = absurd among
page-asked web (x ∷ asks) agree url (inl one) =
    ap (λ b. option_and_then (λ (ask : Ask). text_got ask.got) (cond b (Some x) (find (λ ask. bytes_eq ask.url url) asks))) (ap (λ u. bytes_eq u url) (sym one) ∙ bytes_eq-itself url)
    ∙ agree x (inl refl) ∙ ap (documents_in web) (sym one)
page-asked web (x ∷ asks) agree url (inr among) =
    find-page web url (bytes_eq x.url url) x asks refl (agree x (inl refl)) (page-asked web asks (λ ask there. agree ask (inr there)) url among)

-- ---- chains of paths

abbrev HasPage : Pages → List ℕ → Type 0
HasPage pages url = (text : List ℕ) × (pages url ≡ Some text)

then-page : (f : List ℕ → Option Claims) (o : Option (List ℕ)) (s : Claims) → option_and_then f o ≡ Some s → (text : List ℕ) × (o ≡ Some text)
then-page f None s is = cc is
then-page f (Some text) s is = (text, refl)

good-page : (pages : Pages) (t : ℕ) (page : Need) (s : Claims) → findings pages t page ≡ Some s → (text : List ℕ) × (pages page.url ≡ Some text)
unfolding findings
good-page pages t page s is = then-page (good_text t page) (pages page.url) s is

module _ (pages : Pages) (t : ℕ) (leaf anchor : Identifier) (depth : ℕ) where
  path-pages : {path : Path} → IsPath (findings pages t) leaf anchor depth path → (url : List ℕ) → Among url path.urls → HasPage pages url
  path-pages (begins own is) url (inl one) = let at = good-page pages t (configuration_of leaf) own is in (at.0, ap pages one ∙ at.1)
  path-pages (begins own is) url (inr none) = absurd none
  path-pages (goes_on path statement from leads) url among =
      ⊎_elim
      (λ before. path-pages from url before)
      (λ last. ⊎_elim (λ one. let at = good-page pages t statement leads.claims leads.good in (at.0, ap pages one ∙ at.1)) (λ none. absurd none) last)
      (among-split url path.urls (statement.url ∷ []) among)

  last-page : {path : Path} → IsPath (findings pages t) leaf anchor depth path → HasPage pages (well_known_of (last_of path))
  last-page (begins own is) = good-page pages t (configuration_of leaf) own is
  last-page (goes_on path statement from leads) =
      subst (λ e. HasPage pages (well_known_of e)) (sym (last-append path.entities statement.issuer)) (good-page pages t (configuration_of statement.issuer) leads.superior leads.superior_good)

  chosen-pages : (b : Bool) (urls : List (List ℕ)) (last url : List ℕ) → ((u : List ℕ) → Among u urls → HasPage pages u) → HasPage pages last → Among url (cond b (urls ++ last ∷ []) urls) → HasPage pages url
  chosen-pages true urls last url all end among =
      ⊎_elim (λ before. all url before) (λ rest. ⊎_elim (λ one. (end.0, ap pages one ∙ end.1)) (λ none. absurd none) rest) (among-split url urls (last ∷ []) among)
  chosen-pages false urls last url all end among = all url among

  -- each text of a path's chain is there
  pub chain-pages : {path : Path} → IsPath (findings pages t) leaf anchor depth path → (url : List ℕ) → Among url (chain_urls path) → HasPage pages url
  chain-pages {path} is_path url among = chosen-pages (Rattle.std.specs.Prelude.nat_lt 1 (length path.entities)) path.urls (well_known_of (last_of path)) url (path-pages is_path) (last-page is_path) among

texts-same : (p q : Pages) (urls : List (List ℕ)) → ((url : List ℕ) → Among url urls → p url ≡ q url) → filter_map p urls ≡ filter_map q urls
texts-same p q [] agree = refl
texts-same p q (url ∷ urls) agree = Rattle.std.proofs.Common.ap₂ cons_option (agree url (inl refl)) (texts-same p q urls (λ u among. agree u (inr among)))

-- the chain of a path that was got is that of the web
pub chain-same : (query : Query) (web : Web) (asks : List Ask) → AsksAgree web asks → (path : Path) → IsPath (findings (pages_of asks) query.moment) query.entity query.anchor query.bounds.depth path
    → chain_of (pages_of asks) path ≡ chain_of (documents_in web) path
unfolding chain_of
chain-same query web asks agree path is_path =
    texts-same (pages_of asks) (documents_in web) (chain_urls path)
    (λ url among. let at = chain-pages (pages_of asks) query.moment query.entity query.anchor query.bounds.depth is_path url among in at.1 ∙ sym (page-some web asks agree url at.0 at.1))

-- ---- a round and the web

module _ (query : Query) (web : Web) (course : Course) (round : Round query course) (agree : AsksAgree web course.search.asks) where
  abbrev here : Findings
  here = good_in query course

  abbrev there : Findings
  there = findings (documents_in web) query.moment

  abbrev ours : List Step
  ours = climb here query.entity query.anchor query.bounds.depth

  abbrev theirs : List Step
  theirs = climb there query.entity query.anchor query.bounds.depth

  valid-same : (path : Path) → IsPath here query.entity query.anchor query.bounds.depth path → HasValidChain query (pages_in course) path → HasValidChain query (documents_in web) path
  valid-same path is_path valid =
      subst (λ texts. Rattle.chain_check.specs.Validity.IsValid (Rattle.chain_check.specs.Validity.case_of texts query.anchor query.keys query.moment))
      (chain-same query web course.search.asks agree path is_path) valid

  pub valid-back : (path : Path) → IsPath here query.entity query.anchor query.bounds.depth path → HasValidChain query (documents_in web) path → HasValidChain query (pages_in course) path
  valid-back path is_path valid =
      subst (λ texts. Rattle.chain_check.specs.Validity.IsValid (Rattle.chain_check.specs.Validity.case_of texts query.anchor query.keys query.moment))
      (sym (chain-same query web course.search.asks agree path is_path)) valid

  -- what the round needed is as in the web
  taken-agrees : Agree here there round.taken
  unfolding findings
  taken-agrees page among =
      let asked : Among page.url (map url_of course.search.asks) =
      ⊎_elim (λ none. absurd none) (λ met. subst (Among page.url) (sym (round.asks ∙ ap (map need_url) round.needs)) met) (first-all [] (needed round.taken) page among) in
      ap (option_and_then (good_text query.moment page)) (page-asked web course.search.asks agree page.url asked)

  -- so the search over the web begins with the same steps
  pub web-steps : (rest : List Step) × (theirs ≡ round.taken ++ rest) × SameHead round.left rest
  web-steps = like-climb here there query.anchor query.bounds.depth query.entity round.taken round.left round.steps taken-agrees

  -- a round that finishes without a path leaves none in the web
  pub finished-web : course.stop ≡ finished → ¬ HasChain query (documents_in web)
  finished-web is chain =
      let empty = stop-finished query (HasValidChain query (pages_in course)) course round.left course.stop round.stops is in
      let steps = web-steps in
      let none : steps.0 ≡ [] = same-none steps.0 (subst (λ l. SameHead l steps.0) empty steps.2) in
      let whole : theirs ≡ ours = steps.1 ∙ ap (λ l. round.taken ++ l) (none ∙ sym empty) ∙ sym round.steps in
      let judged_there = path-judged there query.entity query.anchor query.bounds.depth chain.path chain.whole.is_path chain.whole.ends in
      let path = judged-path here query.entity query.anchor query.bounds.depth chain.path (subst (λ l. Among chain.path (judged l)) whole judged_there) in
      finished-none query course round is (record {
        path = chain.path;
        whole = record { is_path = path.0; ends = path.1 };
        valid = valid-back chain.path path.0 chain.valid;
      })

  -- what a round found is in the web
  pub found-web : (path : Path) → course.stop ≡ found path → HasChain query (documents_in web)
  found-web path is =
      let next = stop-found query (HasValidChain query (pages_in course)) course path round.left course.stop round.stops is in
      let steps = web-steps in
      let head : SameHead (judge path ∷ next.0) steps.0 = subst (λ l. SameHead l steps.0) next.1 steps.2 in
      by_rest path next.2 next.0 next.1 steps.0 steps.1 head
    where
      by_rest : (p : Path) → HasValidChain query (pages_in course) p → (more : List Step) → round.left ≡ judge p ∷ more → (rest : List Step) → theirs ≡ round.taken ++ rest → SameHead (judge p ∷ more) rest
          → HasChain query (documents_in web)
      by_rest p valid more left [] steps head = absurd head
      by_rest p valid more left (s ∷ rest) steps head =
          let among_ours : Among p (judged ours) =
          subst (λ l. Among p (judged l)) (sym (round.steps ∙ ap (λ l. round.taken ++ l) left))
          (subst (Among p) (sym (filter_map-append judged_by round.taken (judge p ∷ more))) (among-right p (judged round.taken) (p ∷ judged more) (inl refl))) in
          let among_theirs : Among p (judged theirs) =
          subst (λ l. Among p (judged l)) (sym (steps ∙ ap (λ x. round.taken ++ x ∷ rest) (sym head)))
          (subst (Among p) (sym (filter_map-append judged_by round.taken (judge p ∷ rest))) (among-right p (judged round.taken) (p ∷ judged rest) (inl refl))) in
          let own = judged-path here query.entity query.anchor query.bounds.depth p among_ours in
          let its = judged-path there query.entity query.anchor query.bounds.depth p among_theirs in
          record { path = p; whole = record { is_path = its.0; ends = its.1 }; valid = valid-same p own.0 valid }
