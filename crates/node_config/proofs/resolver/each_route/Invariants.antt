use Rattle.std.proofs.Common.{◌≡◌, ◌++◌, drop, option_map}
use Rattle.fed_json.specs.Trees.{each}
use Rattle.node_config.specs.Resolvers.{route_of}
use Rattle.node_config.proofs.resolver.each_route.Given as goal

abbrev pub invariant-loop-item : goal.invariant-loop-item
invariant-loop-item l = each route_of l.items ≡ option_map (λ rest. l.routes ++ rest) (each route_of (drop l.item-index l.items))
