-- The federation of a rehearsal: a leaf, two superiors in a row and a trust anchor above it, and a resolver beside them.
use Rattle.std.specs.Prelude.{◌≡◌, ℕ, List, [], ◌∷◌, ◌++◌, codes}
use Rattle.fed_ports.specs.declared.page.Page.TheVariants.{Document}
use Rattle.fed_net.specs.declared.named_page.NamedPage.{NamedPage}
use Rattle.entity_id.specs.Urls.{fetch_url_of, well_known_of}
use Rattle.authority_core.specs.Answers.{configuration_response, fetch_response}
use Rattle.authority_core.specs.Endpoints.{endpoint}
use Rattle.authority_core.specs.Nodes.{Node}
use Rattle.rehearsal.specs.declared.configurations.Role.{Role}
use Rattle.rehearsal.specs.declared.configurations.Role.TheVariants.{Anchor, Upper, Lower, Leaf}
use Rattle.rehearsal.specs.declared.federation.Entity.{Entity}
use Rattle.rehearsal.specs.declared.federation.Made.{Made}
use Rattle.rehearsal.specs.Configurations.{IsConfigured, configuration_text, configured_above, key_of}
use Rattle.rehearsal.specs.Keys.{keys_text, ring_of}
use Rattle.rehearsal.specs.Moments.{moment}

-- the nodes from the trust anchor down to the leaf
pub record Federation : Type 0 where
  pub anchor : Node
  pub upper : Node
  pub lower : Node
  pub leaf : Node

-- each is that of its configuration, where the leaf's metadata has so many parameters
pub record IsFederation (params : ℕ) (f : Federation) : Type 0 where
  pub anchor : IsConfigured (configuration_text Anchor params) (ring_of 0) f.anchor
  pub upper : IsConfigured (configuration_text Upper params) (ring_of 1) f.upper
  pub leaf : IsConfigured (configuration_text Leaf params) (ring_of 2) f.leaf
  pub lower : IsConfigured (configuration_text Lower params) (ring_of 3) f.lower

-- ---- what is published

-- a node's configuration at its URL (OpenID Federation 1.0 section 9)
abbrev pub own_page : Node → NamedPage
own_page node = record { url = well_known_of node.settings.id; page = Document (configuration_response node moment).body }

-- its statement about an entity, at the URL of its fetch endpoint (section 8.1)
abbrev pub page_about : Node → List ℕ → NamedPage
page_about node sub =
    record { url = fetch_url_of (endpoint node.settings.id (codes "/fetch")) sub; page = Document (fetch_response node moment sub).body }

-- both pages of a superior
abbrev pub pages_of : Node → List ℕ → List NamedPage
pages_of node sub = own_page node ∷ page_about node sub ∷ []

-- the seven pages of the federation, the leaf's first
abbrev pub pages_in : Federation → List NamedPage
pages_in f =
    (own_page f.leaf ∷ [])
    ++ (pages_of f.lower f.leaf.settings.id
    ++ (pages_of f.upper f.lower.settings.id
    ++ pages_of f.anchor f.upper.settings.id))

-- ---- making it

-- the node of a configuration above these keys, with its own keys
pub record IsMadeBy (role : Role) (keys : List ℕ) (params : ℕ) (made : Made) : Type 0 where
  pub configured : IsConfigured (configured_above role keys params) (ring_of (key_of role)) made.registry
  pub published : made.keys ≡ keys_text (key_of role)

-- an entity as the one above it knows it: by its identifier and its keys
pub record IsKnownAs (node : Node) (key : ℕ) (entity : Entity) : Type 0 where
  pub id : entity.id ≡ node.settings.id
  pub keys : entity.keys ≡ keys_text key

-- the leaf was made, and its page added
pub record AddsLeaf (params : ℕ) (old new : List NamedPage) (entity : Entity) : Type 0 where
  pub node : Node
  pub configured : IsConfigured (configuration_text Leaf params) (ring_of (key_of Leaf)) node
  pub known : IsKnownAs node (key_of Leaf) entity
  pub pages : new ≡ old ++ own_page node ∷ []

-- a superior was made above an entity, and its pages added
pub record AddsSuperior (role : Role) (params : ℕ) (below : Entity) (old new : List NamedPage) (entity : Entity) : Type 0 where
  pub node : Node
  pub configured : IsConfigured (configured_above role below.keys params) (ring_of (key_of role)) node
  pub known : IsKnownAs node (key_of role) entity
  pub pages : new ≡ old ++ pages_of node below.id

-- the whole federation was made, and its pages added
pub record AddsFederation (params : ℕ) (old new : List NamedPage) (anchor : Entity) : Type 0 where
  pub federation : Federation
  pub is : IsFederation params federation
  pub known : IsKnownAs federation.anchor 0 anchor
  pub pages : new ≡ old ++ pages_in federation
