-- How deep what a node states is nested: no deeper than a text may be that is read (RFC 8259 section 9).
use Rattle.std.specs.Prelude.{◌≡◌, ◌≤◌, ℕ, List, Some, Ok}
use Rattle.fed_json.specs.declared.tree.Json.{Json}
use Rattle.fed_json.specs.Forms.{nesting}
use Rattle.fed_json.specs.Reading.{tree_in}
use Rattle.key_ring.specs.Rings.{Ring}
use Rattle.node_config.specs.Nodes.{Subordinate}
use Rattle.authority_core.specs.Configurations.{node_in}
use Rattle.authority_core.specs.Issued.{configuration_claims, statement_claims}
use Rattle.authority_core.specs.Nodes.{Node, registered}

-- as deep as a text may be nested that is read, and no deeper
abbrev pub IsShallow : Json → Type 0
IsShallow tree = nesting tree ≤ 127

-- so is what a node states, at whatever moment
pub record StatesShallowly (node : Node) : Type 0 where
  -- in its own configuration,
  pub own : (t : ℕ) → IsShallow (configuration_claims node t)
  -- and about each subordinate
  pub about : (sub : List ℕ) (s : Subordinate) (t : ℕ) → registered sub node.settings ≡ Some s → IsShallow (statement_claims node.settings s t)

-- where its configuration is,
abbrev pub StatesAsConfigured : Type 0
StatesAsConfigured = (tree : Json) (ring : Ring) (node : Node) → IsShallow tree → node_in tree ring ≡ Ok node → StatesShallowly node

-- and so where that is what a text reads as
abbrev pub StatesAsRead : Type 0
StatesAsRead = (text : List ℕ) (tree : Json) (ring : Ring) (node : Node) → tree_in text ≡ Some tree → node_in tree ring ≡ Ok node → StatesShallowly node
