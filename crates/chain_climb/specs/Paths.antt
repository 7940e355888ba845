-- Paths from the leaf up as a relation, and their order.
use Rattle.std.specs.Prelude.{◌≡◌, ◌≢◌, ◌<◌, ◌≤◌, ◌⊎◌, ℕ, suc, List, [], ◌∷◌, length, bytes_eq, Some, if◌then◌else◌}
use Rattle.chain_climb.specs.Elements.{Among, NoneTwice}
use Rattle.entity_statement.specs.Claims.{Claims, Identifier}
use Rattle.entity_statement.specs.Use.{fetch_endpoint_in}
use Rattle.chain_climb.specs.declared.path.Path.{Path}
use Rattle.chain_climb.specs.Climbs.{Findings, Need, alone, configuration_of, hints_at, last_of, longer, statement_about}

-- a hint leads from the last entity of the path to this superior, whose statement about it is good
pub record LeadsOn (found : Findings) (anchor : Identifier) (depth : ℕ) (path : Path) (statement : Need) : Type 0 where
  pub below_anchor : last_of path ≢ anchor
  pub short : length path.entities ≤ depth
  pub hinted : Among statement.issuer (hints_at found path)
  pub fresh : ¬ Among statement.issuer path.entities
  pub superior : Claims
  pub superior_good : found (configuration_of statement.issuer) ≡ Some superior
  pub endpoint : List ℕ
  pub fetches : fetch_endpoint_in superior.metadata ≡ Some endpoint
  pub is : statement ≡ statement_about statement.issuer (last_of path) endpoint
  pub claims : Claims
  pub good : found statement ≡ Some claims

-- the path goes from the leaf up by good pages, and no entity below its last is the anchor
pub data IsPath (found : Findings) (leaf anchor : Identifier) (depth : ℕ) : Path → Type 0 where
  begins : (own : Claims) → found (configuration_of leaf) ≡ Some own → IsPath found leaf anchor depth (alone leaf)
  goes_on : (path : Path) (statement : Need) → IsPath found leaf anchor depth path → LeadsOn found anchor depth path statement
      → IsPath found leaf anchor depth (longer path statement)

-- the first place at which an entity stands among others
abbrev pub place_in : Identifier → List Identifier → ℕ
place_in entity [] = 0
place_in entity (other ∷ others) = if bytes_eq other entity then 0 else suc (place_in entity others)

-- the places of the hints that lead from each entity to the next
abbrev pub hint_places : Findings → List Identifier → List ℕ
hint_places found [] = []
hint_places found (entity ∷ []) = []
hint_places found (entity ∷ superior ∷ rest) =
    place_in superior (hints_at found (alone entity)) ∷ hint_places found (superior ∷ rest)

-- the first list of numbers comes before the second at the first place at which they differ
abbrev pub ComesBefore : List ℕ → List ℕ → Type 0
ComesBefore [] ys = ⊥
ComesBefore (x ∷ xs) [] = ⊥
ComesBefore (x ∷ xs) (y ∷ ys) = (x < y) ⊎ ((x ≡ y) × ComesBefore xs ys)

-- the shorter path comes first, and of two of one length that with the earlier hints, compared from the leaf up
abbrev pub Precedes : Findings → Path → Path → Type 0
Precedes found p q =
    (length p.entities < length q.entities)
    ⊎ ((length p.entities ≡ length q.entities) × ComesBefore (hint_places found p.entities) (hint_places found q.entities))

-- no configuration hints an entity twice
abbrev pub HintsDiffer : Findings → Type 0
HintsDiffer found = (entity : Identifier) → NoneTwice (hints_at found (alone entity))
