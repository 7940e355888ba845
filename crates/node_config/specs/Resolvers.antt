-- What a node needs to resolve.
use Rattle.std.specs.Prelude.{List, codes, Option, Some}
use Rattle.fed_base.specs.Values.{◌>>=◌}
use Rattle.fed_json.specs.declared.tree.Json.{Json}
use Rattle.fed_json.specs.declared.tree.Member.{Member}
use Rattle.fed_json.specs.Trees.{as_list, as_object, each, text_at}
use Rattle.http_plain.specs.declared.route.Route.{Route}
use Rattle.node_config.specs.Addresses.{ip_of}
use Rattle.node_config.specs.Forms.{needed, number_within}
use Rattle.node_config.specs.Nodes.{Resolver}
use Rattle.node_config.specs.Subordinates.{anchors_of, keys_of}

-- a host and its address
unfoldable pub route_in : List Member → Option Route
route_in members = do
  host ← text_at (codes "host") members
  text ← text_at (codes "ip") members
  ip ← ip_of text
  port ← needed (codes "port") (number_within 1 65535) members
  Some (record { host = host; to = record { ip = ip; port = port } })

unfoldable pub route_of : Json → Option Route
route_of tree = as_object tree >>= route_in

unfoldable pub routes_of : Json → Option (List Route)
routes_of tree = as_list tree >>= each route_of

-- all five members are there
unfoldable pub resolver_in : List Member → Option Resolver
resolver_in members = do
  anchors ← needed (codes "anchors") anchors_of members
  age ← needed (codes "age") (number_within 1 86400) members
  workers ← needed (codes "workers") (number_within 1 16) members
  control ← needed (codes "control") keys_of members
  routes ← needed (codes "routes") routes_of members
  Some (record { anchors = anchors; age = age; workers = workers; control = control; routes = routes })

unfoldable pub resolver_of : Json → Option Resolver
resolver_of tree = as_object tree >>= resolver_in
