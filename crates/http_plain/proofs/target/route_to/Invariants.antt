use Rattle.std.proofs.Common.{◌≡◌, drop}
use Rattle.http_plain.specs.Clients.{route_to}
use Rattle.http_plain.proofs.target.route_to.Given as goal

abbrev pub invariant-loop-route : goal.invariant-loop-route
invariant-loop-route l = route_to (drop l.route-index l.routes) l.host ≡ route_to l.routes l.host
