use Rattle.std.proofs.Common.{◌≡◌, ◌++◌, take, flat_map}
use Rattle.config_summary.specs.Summaries.{route_line}
use Rattle.config_summary.proofs.entities.append_routes.Given as goal

abbrev pub invariant-loop-route : goal.invariant-loop-route
invariant-loop-route l = l.out ≡ l.initial.out ++ flat_map route_line (take l.route-index l.routes)
