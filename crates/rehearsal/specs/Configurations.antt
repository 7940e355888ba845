-- The configurations of a rehearsal's entities: texts that depend on how many parameters the leaf's metadata has (OpenID Federation 1.0
-- sections 3 and 6.1).
use Rattle.std.specs.Prelude.{◌≡◌, ℕ, zero, suc, List, [], ◌++◌, codes, decimal, Some, Ok}
use Rattle.fed_json.specs.Reading.{tree_in}
use Rattle.fed_json.specs.declared.tree.Json.{Json}
use Rattle.key_ring.specs.Rings.{Ring}
use Rattle.authority_core.specs.Configurations.{node_in}
use Rattle.authority_core.specs.Nodes.{Node}
use Rattle.rehearsal.specs.declared.configurations.Role.{Role}
use Rattle.rehearsal.specs.declared.configurations.Role.TheVariants.{Anchor, Upper, Lower, Leaf}
use Rattle.rehearsal.specs.Keys.{keys_text}

-- ---- parameters

-- the name of a parameter
abbrev pub parameter_name : ℕ → List ℕ
parameter_name i = codes "p" ++ decimal i

-- what the leaf's metadata gives it, and what the policy of each superior asks of it
abbrev pub value_text : Role → ℕ → List ℕ
value_text Leaf i = codes "[\"a" ++ decimal i ++ codes "\",\"b\",\"c\"]"
value_text Lower i = codes "{\"superset_of\":[\"b\"]}"
value_text Upper i = codes "{\"add\":[\"b\"],\"essential\":true}"
value_text Anchor i = codes "{\"subset_of\":[\"a" ++ decimal i ++ codes "\",\"b\"]}"

-- a comma before each member but the first
abbrev pub comma_before : ℕ → List ℕ
comma_before zero = []
comma_before (suc i) = codes ","

abbrev pub parameter_text : Role → ℕ → List ℕ
parameter_text role i = codes "\"" ++ parameter_name i ++ codes "\":" ++ value_text role i

-- the first so many parameters
unfoldable pub parameters_text : Role → ℕ → List ℕ
parameters_text role zero = []
parameters_text role (suc i) = parameters_text role i ++ (comma_before i ++ parameter_text role i)

-- ---- configurations

-- the number of the key
abbrev pub key_of : Role → ℕ
key_of Anchor = 0
key_of Upper = 1
key_of Leaf = 2
key_of Lower = 3

-- the beginning: up to the keys of the subordinate, and of the leaf, who has none, up to the parameters
abbrev pub head_of : Role → List ℕ
head_of Leaf = codes "{\"entity_id\":\"https://rp.example\",\"ring\":\"rp\",\"lifetime\":86400,\"authority_hints\":[\"https://jm.example\"],\"metadata\":{\"openid_relying_party\":{"
head_of Lower = codes "{\"entity_id\":\"https://jm.example\",\"ring\":\"jm\",\"lifetime\":86400,\"authority_hints\":[\"https://im.example/fed\"],\"subordinates\":[{\"entity_id\":\"https://rp.example\",\"jwks\":"
head_of Upper = codes "{\"entity_id\":\"https://im.example/fed\",\"ring\":\"im\",\"lifetime\":86400,\"authority_hints\":[\"https://ta.example\"],\"subordinates\":[{\"entity_id\":\"https://jm.example\",\"jwks\":"
head_of Anchor = codes "{\"entity_id\":\"https://ta.example\",\"ring\":\"ta\",\"lifetime\":86400,\"subordinates\":[{\"entity_id\":\"https://im.example/fed\",\"jwks\":"

-- the keys of the subordinate
abbrev pub keys_below : Role → List ℕ
keys_below Leaf = []
keys_below Lower = keys_text 2
keys_below Upper = keys_text 3
keys_below Anchor = keys_text 1

-- what stands between these and the parameters, and what stands at the end
abbrev pub middle_of : Role → List ℕ
middle_of Leaf = []
middle_of superior = codes ",\"metadata_policy\":{\"openid_relying_party\":{"

abbrev pub end_of : Role → List ℕ
end_of Leaf = codes "}}}"
end_of superior = codes "}}}]}"

-- the configuration of so many parameters, where the subordinate has these keys
unfoldable pub configured_above : Role → List ℕ → ℕ → List ℕ
configured_above role keys params = head_of role ++ (keys ++ (middle_of role ++ (parameters_text role params ++ end_of role)))

-- the configuration of an entity of the federation
abbrev pub configuration_text : Role → ℕ → List ℕ
configuration_text role params = configured_above role (keys_below role) params

-- the configuration of the resolver, whose trust anchor has these keys
unfoldable pub resolving_by : List ℕ → List ℕ
resolving_by keys =
    codes "{\"entity_id\":\"https://resolver.example\",\"ring\":\"resolver\",\"lifetime\":86400,\"resolver\":{\"anchors\":[{\"entity_id\":\"https://ta.example\",\"jwks\":"
    ++ (keys ++ codes "}],\"age\":86400,\"workers\":1,\"control\":{\"keys\":[]},\"routes\":[]}}")

abbrev pub resolver_text : List ℕ
resolver_text = resolving_by (keys_text 0)

-- the number of the resolver's key
abbrev pub resolver_key : ℕ
resolver_key = 4

-- ---- nodes

-- the text is a configuration, and with this ring it is this node
pub record IsConfigured (text : List ℕ) (ring : Ring) (node : Node) : Type 0 where
  pub tree : Json
  pub reads : tree_in text ≡ Some tree
  pub is_node : node_in tree ring ≡ Ok node
