-- Which pages the search for a trust chain needs, which paths it adds and which it judges, in order (OpenID Federation 1.0 section 10.1).
use Rattle.std.specs.Prelude.{ℕ, zero, suc, List, [], ◌∷◌, ◌++◌, length, flat_map, filter_map, bytes_eq, nat_lt, nat_le, Option, Some, None, if◌then◌else◌}
use Rattle.std.specs.List.{list_any}
use Rattle.std.specs.Option.{option_map_or}
use Rattle.entity_id.specs.Urls.{fetch_url_of, well_known_of}
use Rattle.entity_statement.specs.Claims.{Claims, Identifier}
use Rattle.entity_statement.specs.Use.{fetch_endpoint_in}
use Rattle.chain_climb.specs.declared.path.Path.{Path}

-- a page that is needed: the statement of an issuer about a subject, at a URL; a configuration where they are one
pub record Need : Type 0 where
  pub issuer : Identifier
  pub subject : Identifier
  pub url : List ℕ

-- the page of these names
abbrev pub page_named : Identifier → Identifier → List ℕ → Need
page_named issuer subject url = record { issuer = issuer; subject = subject; url = url }

-- the configuration of an entity (section 9)
abbrev pub configuration_of : Identifier → Need
configuration_of entity = record { issuer = entity; subject = entity; url = well_known_of entity }

-- the statement of a superior about an entity, at the superior's fetch endpoint (section 8.1)
abbrev pub statement_about : Identifier → Identifier → List ℕ → Need
statement_about superior entity endpoint = record { issuer = superior; subject = entity; url = fetch_url_of endpoint entity }

-- what each page says, where it is good
abbrev pub Findings : Type 0
Findings = Need → Option Claims

-- what a search does: it needs a page, it adds a path, or it judges one that ends at the anchor
pub data Step : Type 0 where
  need : (page : Need) → Step
  add : (path : Path) → Step
  judge : (path : Path) → Step

-- the path of the leaf alone, whose configuration is its chain (section 4)
abbrev pub alone : Identifier → Path
alone leaf = record { entities = leaf ∷ []; urls = well_known_of leaf ∷ [] }

-- the path with a superior more, and where its statement stands
abbrev pub longer : Path → Need → Path
longer path statement = record { entities = path.entities ++ statement.issuer ∷ []; urls = path.urls ++ statement.url ∷ [] }

-- the last of some entities
abbrev pub last_in : List Identifier → Identifier
last_in [] = []
last_in (entity ∷ []) = entity
last_in (entity ∷ superior ∷ rest) = last_in (superior ∷ rest)

-- the last entity of a path, which is the highest
abbrev pub last_of : Path → Identifier
last_of path = last_in path.entities

-- the URLs of a path's chain: where there is more than one entity, the last one's configuration comes last (section 4)
abbrev pub chain_urls : Path → List (List ℕ)
chain_urls path = if nat_lt 1 (length path.entities) then path.urls ++ well_known_of (last_of path) ∷ [] else path.urls

-- the path with the URLs of its chain
abbrev pub with_chain : Path → Path
with_chain path = record { entities = path.entities; urls = chain_urls path }

-- a superior's statement about the last entity is needed, and where it is good the longer path is added (section 8.1)
abbrev pub through_statement : Findings → Path → Need → List Step
through_statement found path statement = need statement ∷ option_map_or (λ _. add (longer path statement) ∷ []) (found statement) []

-- a superior that names a fetch endpoint is asked for its statement (section 5.1.1)
abbrev pub through_superior : Findings → Path → Identifier → Option (List ℕ) → List Step
through_superior found path superior endpoint =
    option_map_or (λ at. through_statement found path (statement_about superior (last_of path) at)) endpoint []

-- one hint of the last entity: where the superior isn't on the path its configuration is needed, and then its statement
abbrev pub through_hint : Findings → Path → Identifier → List Step
through_hint found path superior =
    if list_any (bytes_eq superior) path.entities then []
    else need (configuration_of superior)
    ∷ option_map_or (λ own. through_superior found path superior (fetch_endpoint_in own.metadata)) (found (configuration_of superior)) []

-- the hints of the last entity of a path, in order (section 3.1.2, `authority_hints`)
abbrev pub hints_at : Findings → Path → List Identifier
hints_at found path = option_map_or (λ own. own.hints) (found (configuration_of (last_of path))) []

-- one path: it is judged where it ends at the anchor, else each hint of its last entity is tried while there is room for a statement more
abbrev pub look_at : Findings → Identifier → ℕ → Path → List Step
look_at found anchor depth path =
    if bytes_eq (last_of path) anchor then judge path ∷ []
    else (if nat_le (length path.entities) depth then flat_map (through_hint found path) (hints_at found path) else [])

-- the path that a step adds
abbrev pub added_by : Step → Option Path
added_by (need page) = None
added_by (add path) = Some path
added_by (judge path) = None

-- the path that a step judges
abbrev pub judged_by : Step → Option Path
judged_by (need page) = None
judged_by (add path) = None
judged_by (judge path) = Some path

-- the page that a step needs
abbrev pub needed_by : Step → Option Need
needed_by (need page) = Some page
needed_by (add path) = None
needed_by (judge path) = None

-- the paths that the steps add, in their order
abbrev pub added : List Step → List Path
added steps = filter_map added_by steps

-- the paths that they judge
abbrev pub judged : List Step → List Path
judged steps = filter_map judged_by steps

-- the pages that they need
abbrev pub needed : List Step → List Need
needed steps = filter_map needed_by steps

-- the steps at these paths, which have one length, then at the paths that they add, and so on for so many lengths
unfoldable pub climb_from : Findings → Identifier → ℕ → ℕ → List Path → List Step
climb_from found anchor depth zero paths = flat_map (look_at found anchor depth) paths
climb_from found anchor depth (suc more) paths =
    flat_map (look_at found anchor depth) paths ++ climb_from found anchor depth more (added (flat_map (look_at found anchor depth) paths))

-- the whole search: the leaf's configuration first, then the paths in order of their length and of the places of their hints
unfoldable pub climb : Findings → Identifier → Identifier → ℕ → List Step
climb found leaf anchor depth =
    need (configuration_of leaf)
    ∷ option_map_or (λ _. add (alone leaf) ∷ climb_from found anchor depth depth (alone leaf ∷ [])) (found (configuration_of leaf)) []
