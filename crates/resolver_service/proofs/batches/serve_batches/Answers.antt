use Rattle.std.proofs.Common.{rules, arith, ◌<◌, ap, refl, ◌∙◌}
use Rattle.std.proofs.lemmas.Result.{err_from_is_err_and}
use Rattle.std.specs.Prelude.{is_some}
use Rattle.resolver_service.proofs.BatchLaws.{serves_more, serves_none}
use Rattle.resolver_service.proofs.StopLaws.{stops_after}
use Rattle.resolver_service.proofs.batches.serve_batches.Goals as goal

pub batches-init : goal.batches-init
batches-init g c = (omega arith, c.requires.listens, c.requires.of, refl, refl, serves_none _ c.args.server.now.opened.now.workers c.args.connections _)

pub batches-preserved : goal.batches-preserved
batches-preserved g c =
    let inv = c.batches.invariant in (
      search rules,
      ap is_some c.serve_batch.ensures.port ∙ inv.1,
      c.serve_batch.ensures.of,
      c.serve_batch.ensures.exchanges ∙ inv.3,
      c.in_ok-serve_batch.ensures.stops ∙ inv.4,
      serves_more _ c.args.server.now.opened.now.workers c.args.connections c.batches.left c.min-count.result _ _ _ inv.5 c.min-count.ensures c.in_ok-serve_batch.ensures.batch,
    )

pub returns-in_err-serve_batch-clause-stopped : goal.returns-in_err-serve_batch-clause-stopped
returns-in_err-serve_batch-clause-stopped g c =
    let p = err_from_is_err_and c.from_residual.result c.from_residual.ensures.1 in
    let some : 0 < c.batches.left = search rules in
    rw (p.1, p.2) (stops_after _ c.args.server.now.opened.now.workers c.args.connections c.batches.left c.min-count.result _ _ _ c.in_err-serve_batch.field-0.0 some c.batches.invariant.5
    c.min-count.ensures c.in_err-serve_batch.ensures.stopped)
