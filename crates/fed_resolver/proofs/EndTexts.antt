-- The first text of a chain that was found is the configuration of its entity, and the last one that of the anchor.
use Rattle.std.proofs.Common.{◌≡◌, ◌<◌, ◌-◌, ℕ, List, [], ◌∷◌, ◌++◌, length, Bool, true, false, cond, Some, refl, sym, ap, ◌∙◌, subst, length-append, lt-ltb, arith}
use Rattle.std.specs.Prelude.{nat_lt, slice_get}
use Rattle.std.specs.List.{cons_option, filter_map}
use Rattle.std.specs.Option.{option_map_or}
use Rattle.std.proofs.lemmas.List.Elements.{filter_map-append}
use Rattle.entity_id.specs.Urls.{well_known_of}
use Rattle.entity_statement.specs.Claims.{Claims, Identifier}
use Rattle.entity_statement.specs.Signed.{statement_of}
use Rattle.chain_check.specs.declared.tried.Tried.{Tried}
use Rattle.chain_check.specs.Judging.{texts_of}
use Rattle.chain_climb.specs.declared.path.Path.{Path}
use Rattle.chain_climb.specs.Climbs.{Findings, chain_urls, configuration_of, last_of}
use Rattle.chain_climb.specs.Paths.{IsPath, begins, goes_on}
use Rattle.chain_climb.proofs.ClimbLaws.{last-append}
use Rattle.resolve_round.specs.Courses.{Course, found}
use Rattle.resolve_round.specs.Pages.{Pages, Query, case_in, chain_of}
use Rattle.resolve_round.specs.Rounds.{Round, good_in, pages_in}
use Rattle.resolve_round.specs.declared.trace.Trace.{Trace}
use Rattle.resolve_round.proofs.BestLaws.{found-best}
use Rattle.resolve_round.proofs.WordLaws.{statement-words}
use Rattle.resolve_search.specs.declared.round.FoundChain.{FoundChain}
use Rattle.resolve_search.specs.Judging.{IsFound}
use Rattle.fed_resolver.specs.Going.{first_text, last_text}
use Rattle.fed_resolver.specs.Searches.{first_text_of, if_found, said_in, text_by}

-- ---- texts at a place of some that were tried

first-tried : (chain : List Tried) (text : List ℕ) (more : List (List ℕ)) → texts_of chain ≡ text ∷ more → first_text chain ≡ text
first-tried [] text more is = cc is
first-tried (tried ∷ chain) text more is = cc is

last-got : (tried : Tried) (chain : List Tried) → option_map_or (λ (t : Tried). t.text) (slice_get (tried ∷ chain) (length chain)) [] ≡ last_text (tried ∷ chain)
last-got tried chain = ap (λ n. option_map_or (λ (t : Tried). t.text) (slice_get (tried ∷ chain) n) []) (omega arith)

last-more : (tried next : Tried) (chain : List Tried) → last_text (tried ∷ next ∷ chain) ≡ last_text (next ∷ chain)
last-more tried next chain = sym (last-got tried (next ∷ chain)) ∙ last-got next chain

no-front : (front : List (List ℕ)) (text : List ℕ) → front ++ text ∷ [] ≡ [] → ⊥
no-front [] text is = cc is
no-front (x ∷ front) text is = cc is

last-tried : (chain : List Tried) (front : List (List ℕ)) (text : List ℕ) → texts_of chain ≡ front ++ text ∷ [] → last_text chain ≡ text
last-tried [] front text is = absurd (no-front front text (sym is))
last-tried (tried ∷ []) [] text is = sym (last-got tried []) ∙ (let one : tried.text ≡ text = cc is in one)
last-tried (tried ∷ []) (x ∷ front) text is = let none : [] ≡ front ++ text ∷ [] = cc is in absurd (no-front front text (sym none))
last-tried (tried ∷ next ∷ chain) [] text is = cc is
last-tried (tried ∷ next ∷ chain) (x ∷ front) text is =
    let rest : texts_of (next ∷ chain) ≡ front ++ text ∷ [] = cc is in
    last-more tried next chain ∙ last-tried (next ∷ chain) front text rest

-- the last of some texts, by its place
at-end : (front : List (List ℕ)) (text : List ℕ) → slice_get (front ++ text ∷ []) (length front) ≡ Some text
at-end [] text = refl
at-end (x ∷ front) text = at-end front text

last-place : (front : List (List ℕ)) (text : List ℕ) → slice_get (front ++ text ∷ []) (length (front ++ text ∷ []) - 1) ≡ Some text
last-place front text =
    let n = length-append front (text ∷ []) in
    let place : length (front ++ text ∷ []) - 1 ≡ length front = omega (arith, n) in
    ap (slice_get (front ++ text ∷ [])) place ∙ at-end front text

-- ---- paths

module _ (good : Findings) (leaf anchor : Identifier) (depth : ℕ) where
  path-some : {path : Path} → IsPath good leaf anchor depth path → 0 < length path.entities
  path-some (begins own is) = omega arith
  path-some (goes_on path statement before leads) = let n = length-append path.entities (statement.issuer ∷ []) in omega (arith, n)

  leaf-good : {path : Path} → IsPath good leaf anchor depth path → (own : Claims) × (good (configuration_of leaf) ≡ Some own)
  leaf-good (begins own is) = (own, is)
  leaf-good (goes_on path statement before leads) = leaf-good before

  urls-begin : {path : Path} → IsPath good leaf anchor depth path → (rest : List (List ℕ)) × (path.urls ≡ well_known_of leaf ∷ rest)
  urls-begin (begins own is) = ([], refl)
  urls-begin (goes_on path statement before leads) = let b = urls-begin before in (b.0 ++ statement.url ∷ [], ap (λ l. l ++ statement.url ∷ []) b.1)

  begins-by : (b : Bool) (urls rest : List (List ℕ)) (last : List ℕ) → urls ≡ well_known_of leaf ∷ rest → (more : List (List ℕ)) × (cond b (urls ++ last ∷ []) urls ≡ well_known_of leaf ∷ more)
  begins-by true urls rest last is = (rest ++ last ∷ [], ap (λ l. l ++ last ∷ []) is)
  begins-by false urls rest last is = (rest, is)

  pub chain-begins : (path : Path) → IsPath good leaf anchor depth path → (more : List (List ℕ)) × (chain_urls path ≡ well_known_of leaf ∷ more)
  chain-begins path is_path = let b = urls-begin is_path in begins-by (nat_lt 1 (length path.entities)) path.urls b.0 (well_known_of (last_of path)) b.1

  -- the last entity's configuration is good, and comes last in the chain
  pub record EndsWith (path : Path) : Type 0 where
    pub own : Claims
    pub is_good : good (configuration_of (last_of path)) ≡ Some own
    pub front : List (List ℕ)
    pub urls : chain_urls path ≡ front ++ well_known_of (last_of path) ∷ []

  chain-ends : {path : Path} → IsPath good leaf anchor depth path → EndsWith path
  chain-ends (begins own is) = record { own = own; is_good = is; front = []; urls = refl }
  chain-ends (goes_on path statement before leads) =
      let entities = path.entities ++ statement.issuer ∷ [] in
      let some = path-some before in
      let n = length-append path.entities (statement.issuer ∷ []) in
      let many : nat_lt 1 (length entities) ≡ true = lt-ltb 1 (length entities) (omega (arith, some, n)) in
      let last = last-append path.entities statement.issuer in
      record {
        own = leads.superior;
        is_good = subst (λ e. good (configuration_of e) ≡ Some leads.superior) (sym last) leads.superior_good;
        front = path.urls ++ statement.url ∷ [];
        urls = rw many refl;
      }

-- ---- chains

pub then-text : (pages : Pages) (url text : List ℕ) (urls : List (List ℕ)) → pages url ≡ Some text → filter_map pages (url ∷ urls) ≡ text ∷ filter_map pages urls
then-text pages url text urls is = ap (λ o. cons_option o (filter_map pages urls)) is

-- what is said of an entity that a search found
pub record Says (query : Query) (course : Course) (entity : Identifier) (text : List ℕ) : Type 0 where
  pub own : Claims
  pub said : said_in query course entity ≡ Some own
  pub reads : statement_of text ≡ Some own
  pub of : (own.iss ≡ entity) × (own.sub ≡ entity)

module _ (query : Query) (course : Course) (round : Round query course) (path : Path) (stop : course.stop ≡ found path) (trace : Trace) (chain : FoundChain)
    (is : IsFound trace (case_in query (pages_in course) path) chain.texts chain.resolved) where
  whole : IsPath (good_in query course) query.entity query.anchor query.bounds.depth path
  whole = (found-best query course round path stop).whole.is_path

  ends-there : last_of path ≡ query.anchor
  ends-there = (found-best query course round path stop).whole.ends

  said-by : (entity : Identifier) → said_in query course entity ≡ good_in query course (configuration_of entity)
  said-by entity = ap (λ s. if_found s (good_in query course (configuration_of entity))) stop

  -- the first text is the entity's configuration
  pub first-says : Says query course query.entity (first_text chain.texts)
  unfolding chain_of
  first-says =
      let own = leaf-good (good_in query course) query.entity query.anchor query.bounds.depth whole in
      let words = statement-words (pages_in course) query.moment (configuration_of query.entity) own.0 own.1 in
      let urls = chain-begins (good_in query course) query.entity query.anchor query.bounds.depth path whole in
      let texts : texts_of chain.texts ≡ words.text ∷ filter_map (pages_in course) urls.0 =
      is.are ∙ ap (filter_map (pages_in course)) urls.1 ∙ then-text (pages_in course) (well_known_of query.entity) words.text urls.0 words.there in
      record {
        own = own.0;
        said = said-by query.entity ∙ own.1;
        reads = ap statement_of (first-tried chain.texts words.text (filter_map (pages_in course) urls.0) texts) ∙ words.reads;
        of = words.names;
      }

  -- it stands first in the path's chain
  pub first-got : slice_get (chain_of (pages_in course) path) 0 ≡ Some (first_text chain.texts)
  unfolding chain_of
  first-got =
      let own = leaf-good (good_in query course) query.entity query.anchor query.bounds.depth whole in
      let words = statement-words (pages_in course) query.moment (configuration_of query.entity) own.0 own.1 in
      let urls = chain-begins (good_in query course) query.entity query.anchor query.bounds.depth path whole in
      let got : filter_map (pages_in course) (chain_urls path) ≡ words.text ∷ filter_map (pages_in course) urls.0 =
      ap (filter_map (pages_in course)) urls.1 ∙ then-text (pages_in course) (well_known_of query.entity) words.text urls.0 words.there in
      ap (λ ts. slice_get ts 0) got ∙ ap Some (sym (first-tried chain.texts words.text (filter_map (pages_in course) urls.0) (is.are ∙ got)))

  -- and so in the chain that the round found
  pub first-there : first_text_of course ≡ Some (first_text chain.texts)
  unfolding first_text_of
  first-there = ap (text_by (pages_in course)) stop ∙ first-got

  -- the last one is the anchor's
  pub last-says : Says query course query.anchor (last_text chain.texts)
  unfolding chain_of
  last-says =
      let end = chain-ends (good_in query course) query.entity query.anchor query.bounds.depth whole in
      let good : good_in query course (configuration_of query.anchor) ≡ Some end.own = subst (λ e. good_in query course (configuration_of e) ≡ Some end.own) ends-there end.is_good in
      let words = statement-words (pages_in course) query.moment (configuration_of query.anchor) end.own good in
      let last : pages_in course (well_known_of (last_of path)) ≡ Some words.text = ap (λ e. pages_in course (well_known_of e)) ends-there ∙ words.there in
      let texts : texts_of chain.texts ≡ filter_map (pages_in course) end.front ++ words.text ∷ [] =
      is.are ∙ ap (filter_map (pages_in course)) end.urls
      ∙ filter_map-append (pages_in course) end.front (well_known_of (last_of path) ∷ [])
      ∙ ap (λ l. filter_map (pages_in course) end.front ++ l) (then-text (pages_in course) (well_known_of (last_of path)) words.text [] last) in
      record {
        own = end.own;
        said = said-by query.anchor ∙ good;
        reads = ap statement_of (last-tried chain.texts (filter_map (pages_in course) end.front) words.text texts) ∙ words.reads;
        of = words.names;
      }

  -- it stands last in the path's chain
  pub last-got-there : slice_get (chain_of (pages_in course) path) (length (chain_of (pages_in course) path) - 1) ≡ Some (last_text chain.texts)
  unfolding chain_of
  last-got-there =
      let end = chain-ends (good_in query course) query.entity query.anchor query.bounds.depth whole in
      let good : good_in query course (configuration_of query.anchor) ≡ Some end.own = subst (λ e. good_in query course (configuration_of e) ≡ Some end.own) ends-there end.is_good in
      let words = statement-words (pages_in course) query.moment (configuration_of query.anchor) end.own good in
      let last : pages_in course (well_known_of (last_of path)) ≡ Some words.text = ap (λ e. pages_in course (well_known_of e)) ends-there ∙ words.there in
      let got : filter_map (pages_in course) (chain_urls path) ≡ filter_map (pages_in course) end.front ++ words.text ∷ [] =
      ap (filter_map (pages_in course)) end.urls
      ∙ filter_map-append (pages_in course) end.front (well_known_of (last_of path) ∷ [])
      ∙ ap (λ l. filter_map (pages_in course) end.front ++ l) (then-text (pages_in course) (well_known_of (last_of path)) words.text [] last) in
      ap (λ ts. slice_get ts (length ts - 1)) got
      ∙ last-place (filter_map (pages_in course) end.front) words.text
      ∙ ap Some (sym (last-tried chain.texts (filter_map (pages_in course) end.front) words.text (is.are ∙ got)))
