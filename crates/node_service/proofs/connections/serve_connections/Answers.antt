use Rattle.std.proofs.Common.{rules, ◌≡◌, ◌<◌, ◌∙◌, ap, refl}
use Rattle.std.proofs.lemmas.Result.{err_from_is_err_and}
use Rattle.std.specs.Prelude.{is_some}
use Rattle.node_service.proofs.ConnectionLaws.{serves_all, serves_more, serves_none, stops_after}
use Rattle.node_service.proofs.connections.serve_connections.Goals as goal

pub connections-init : goal.connections-init
connections-init g c = (search rules, c.requires.listens, refl, refl, serves_none _ _ _)

pub connections-preserved : goal.connections-preserved
connections-preserved g c = (
  search rules,
  ap is_some c.serve_next.ensures.port ∙ c.connections.invariant.1,
  c.serve_next.ensures.exchanges ∙ c.connections.invariant.2,
  c.in_ok-serve_next.ensures.cause ∙ c.connections.invariant.3,
  serves_more _ _ c.connections.served 1 _ _ _ c.connections.invariant.4 c.in_ok-serve_next.ensures.next,
)

pub returns-clause-served : goal.returns-clause-served
returns-clause-served g c =
    let all : c.connections.served ≡ c.args.connections = search rules in
    serves_all _ _ c.connections.served c.args.connections _ _ all c.connections.invariant.4

pub returns-in_err-serve_next-clause-served : goal.returns-in_err-serve_next-clause-served
returns-in_err-serve_next-clause-served g c =
    let p = err_from_is_err_and c.from_residual.result c.from_residual.ensures.1 in
    let fewer : c.connections.served < c.args.connections = search rules in
    rw (p.1, p.2) (stops_after _ _ c.connections.served c.args.connections _ _ _ c.in_err-serve_next.field-0.0 fewer c.connections.invariant.4 c.in_err-serve_next.ensures.next)
