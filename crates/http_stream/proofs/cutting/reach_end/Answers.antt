use Rattle.std.proofs.Common.{◌∙◌, Bool, Err, ap, subst}
use Rattle.std.proofs.lemmas.Result.{err_from_is_err_and}
use Rattle.http_messages.specs.Cuts.{Needs}
use Rattle.http_messages.specs.FlowLaws.{failed_both}
use Rattle.http_stream.proofs.Reaching.{body_broken, body_comes, few_until}
use Rattle.http_stream.proofs.cutting.reach_end.Goals as goal

pub returns-in_err-pour_to-clause-few : goal.returns-in_err-pour_to-clause-few
returns-in_err-pour_to-clause-few g c =
    let needs = subst (λ y. Needs y c.needed-until.result) c.deref.ensures.value c.needed-until.ensures.needs in
    let p = err_from_is_err_and c.from_residual.result c.from_residual.ensures.1 in
    rw p.1 (few_until _ _ c.args.text.now.items c.needed-until.result needs c.in_err-pour_to.ensures.few.0)

pub returns-clause-reached : goal.returns-clause-reached
returns-clause-reached g c =
    let source = g.P.Source in
    let a = c.args.from.now in
    let b = c.pour_to.new.from in
    let needs = subst (λ y. Needs y c.needed-until.result) c.deref.ensures.value c.needed-until.ensures.needs in
    body_comes (source.left a) (source.left b) (source.source_side a) (source.source_side b) c.args.text.now.items c.pour_to.new.text.items c.needed-until.result c.in_ok-pour_to.field-0
    c.requires.head needs c.in_ok-pour_to.ensures.comes c.in_ok-pour_to.ensures.full c.in_ok-pour_to.ensures.count

pub returns-in_err-pour_to-clause-broke : goal.returns-in_err-pour_to-clause-broke
returns-in_err-pour_to-clause-broke g c =
    let source = g.P.Source in
    let a = c.args.from.now in
    let b = c.pour_to.new.from in
    let needs = subst (λ y. Needs y c.needed-until.result) c.deref.ensures.value c.needed-until.ensures.needs in
    let p = err_from_is_err_and c.from_residual.result c.from_residual.ensures.1 in
    failed_both Bool c.from_residual.result _ (p.1 ∙ ap Err p.2)
    (body_broken (source.left a) (source.left b) (source.source_side a) (source.source_side b) c.args.text.now.items c.pour_to.new.text.items c.needed-until.result c.requires.head needs)
    c.in_err-pour_to.ensures.broke c.in_err-pour_to.ensures.short
