use Rattle.std.proofs.Common.{◌∙◌, Bool, Err, ap, arith}
use Rattle.std.proofs.lemmas.Result.{err_from_is_err_and}
use Rattle.http_messages.specs.FlowLaws.{failed_both}
use Rattle.http_plain.proofs.Showing.{lacks_end, memory_only}
use Rattle.http_plain.proofs.page.read_to_end.Goals as goal

pub returns-in_err-pour_to-clause-broke : goal.returns-in_err-pour_to-clause-broke
returns-in_err-pour_to-clause-broke g c =
    let p = err_from_is_err_and c.from_residual.result c.from_residual.ensures.1 in
    failed_both Bool c.from_residual.result _ (p.1 ∙ ap Err p.2)
    (lacks_end (g.I.Inflow.broke c.args.from.now c.pour_to.new.from) c.args.text.now.items c.pour_to.new.text.items c.args.len _ c.requires.head.inside (omega arith))
    c.in_err-pour_to.ensures.broke c.in_err-pour_to.ensures.short

pub returns-clause-broke : goal.returns-clause-broke
returns-clause-broke g c = memory_only _ _ c.document.result c.document.ensures
