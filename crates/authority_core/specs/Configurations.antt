-- The node of a configuration file and a ring, or the first member that isn't of its form.
use Rattle.std.specs.Prelude.{◌≡◌, codes, map, IsTrue, Result, Ok, Err, if◌then◌else◌}
use Rattle.fed_base.specs.Answers.{◌>>=◌}
use Rattle.fed_json.specs.declared.tree.Json.{Json}
use Rattle.key_ring.specs.Rings.{Ring}
use Rattle.node_config.specs.Configurations.{configuration_in}
use Rattle.node_config.specs.Subordinates.{are_below}
use Rattle.node_config.specs.Told.{told_subordinate}
use Rattle.node_config.specs.declared.node.NodeConfig.{NodeConfig}
use Rattle.node_config.specs.declared.fault.ConfigFault.{ConfigFault}
use Rattle.node_config.specs.declared.fault.ConfigFault.TheVariants.{Shape}
use Rattle.authority_core.specs.Issued.{states_all_shortly, states_itself_shortly}
use Rattle.authority_core.specs.Nodes.{Node}

-- what a node would state is short: first its own configuration, then the statements about its subordinates
unfoldable pub sizes_of : Node → Result (Unit {0}) ConfigFault
sizes_of node =
    if states_itself_shortly node then (if states_all_shortly node.settings then Ok tt else Err (Shape (codes "subordinates")))
    else Err (Shape (codes "metadata"))

-- the same as a fact
abbrev pub StatesShortly : Node → Type 0
StatesShortly node = sizes_of node ≡ Ok tt

-- the node, where what it would state is short
abbrev pub if_short : Node → Result Node ConfigFault
if_short node = sizes_of node >>= (λ short. Ok node)

unfoldable pub node_in : Json → Ring → Result Node ConfigFault
node_in tree ring = configuration_in tree >>= (λ settings. if_short (record { settings = settings; ring = ring }))

-- none of its subordinates is the node itself
abbrev pub IsAbove : NodeConfig → Type 0
IsAbove config = IsTrue (are_below config.id (map told_subordinate config.subordinates))
