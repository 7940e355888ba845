-- A node: what its configuration sets, and its ring of keys.
use Rattle.std.specs.Prelude.{List, [], ℕ, Option, find, bytes_eq, Bool, unwrap_or}
use Rattle.std.specs.List.{AllByRecursion}
use Rattle.fed_base.specs.declared.algorithm.Alg.TheVariants.{Small}
use Rattle.slh_dsa.specs.Keys.{Keys}
use Rattle.key_ring.specs.Rings.{Ring, ring_pair}
use Rattle.key_ring.specs.Sets.{signer_keys}
use Rattle.node_config.specs.Nodes.{Settings, Subordinate}
use Rattle.node_config.specs.Stated.{AreOwn, IsSubordinate}
use Rattle.node_config.specs.Told.{told}
use Rattle.node_config.specs.declared.node.NodeConfig.{NodeConfig}

pub record Node : Type 0 where
  pub settings : Settings
  pub ring : Ring

-- the node of a configuration and a ring
abbrev pub node_of : NodeConfig → Ring → Node
node_of config ring = record { settings = told config; ring = ring }

-- the key pair that signs what the node issues: the newest live one, of which every ring has one
abbrev pub node_signer : Node → Keys
node_signer node = unwrap_or (signer_keys node.ring) (ring_pair Small [])

-- each configured claim has its form and a text
pub record IsStatable (config : NodeConfig) : Type 0 where
  pub own : AreOwn config.claims
  pub about : AllByRecursion IsSubordinate config.subordinates

-- the subordinate of that identifier, where it is registered
abbrev pub is_for : List ℕ → Subordinate → Bool
is_for sub s = bytes_eq s.entity.id sub

abbrev pub registered : List ℕ → Settings → Option Subordinate
registered sub settings = find (is_for sub) settings.subordinates
