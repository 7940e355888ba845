-- Where a node is asked.
use Rattle.std.specs.Prelude.{is_some}
use Rattle.node_requests.specs.declared.place.Place.{Place}
use Rattle.node_requests.specs.Places.{node_path, place_at}
use Rattle.fed_serve.specs.declared.node.Node.{Node}

-- under the path of its identifier; it resolves where it has a part for that
abbrev pub place_of : Node → Place
place_of node = place_at (node_path node.registry.settings.id) (is_some node.resolver)
