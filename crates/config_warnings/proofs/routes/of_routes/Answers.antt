use Rattle.std.proofs.Common.{◌++◌, ◌+◌, ap, ◌∙◌}
use Rattle.config_warnings.specs.Warnings.{route_at}
use Rattle.config_warnings.proofs.Gathering.{each_more}
use Rattle.config_warnings.proofs.routes.of_routes.Goals as goal

pub loop-route-preserved : goal.loop-route-preserved
loop-route-preserved c = record {
  out = each_more (route_at c.args.routes.now) c.args.routes.now c.loop-route.route-index c.route-item.result c.args.out.now c.loop-route.out c.route_at.new.out c.loop-route-test.true c.route-item.is
      c.loop-route.invariant.out (c.in_ok-route_at.ensures ∙ ap (λ n. c.loop-route.out ++ (route_at c.args.routes.now) n c.route-item.result) c.loop-route.invariant.counted);
  counted = ap (λ n. n + 1) c.loop-route.invariant.counted;
}
