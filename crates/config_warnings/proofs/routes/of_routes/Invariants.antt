use Rattle.std.proofs.Common.{◌≡◌, ◌++◌, take}
use Rattle.config_warnings.specs.Places.{each_from}
use Rattle.config_warnings.specs.Warnings.{route_at}
use Rattle.config_warnings.proofs.routes.of_routes.Given as goal

abbrev pub invariant-loop-route : goal.invariant-loop-route
invariant-loop-route l = record {
  out : l.out ≡ l.initial.out ++ each_from (route_at l.routes) 0 (take l.route-index l.routes);
  counted : l.index ≡ l.route-index;
}
