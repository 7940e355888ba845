use Rattle.std.proofs.Common.{◌≡◌, ◌∙◌, ℕ, Option, Err, ap, false, is_some, rules, sym, true}
use Rattle.std.proofs.lemmas.Result.{err_from_is_err_and}
use Rattle.http_messages.specs.FlowLaws.{failed_as}
use Rattle.http_messages.specs.Heads.{head_end}
use Rattle.http_stream.proofs.Reaching.{early_short, found_there, head_broken, head_comes, head_there, not_some}
use Rattle.http_stream.proofs.cutting.reach_head.Goals as goal

pub returns-then-is_some-clause-reached : goal.returns-then-is_some-clause-reached
returns-then-is_some-clause-reached g c =
    let there : is_some c.head_end.result ≡ true = search rules in
    head_there _ c.args.text.now.items (found_there c.args.text.now.items c.head_end.result c.requires.early (c.head_end.ensures ∙ ap head_end c.deref.ensures.value) there)

pub pour_head_on-requires-clause-small : goal.pour_head_on-requires-clause-small
pour_head_on-requires-clause-small g c =
    let there : is_some c.head_end.result ≡ false = search rules in
    early_short c.args.text.now.items c.requires.early (sym (c.head_end.ensures ∙ ap head_end c.deref.ensures.value) ∙ not_some c.head_end.result there)

pub returns-clause-reached : goal.returns-clause-reached
returns-clause-reached g c =
    let source = g.P.Source in
    let a = c.args.from.now in
    let b = c.pour_head_on.new.from in
    let there : c.is_some-2.result ≡ is_some c.in_ok-end.end = search rules in
    head_comes (source.left a) (source.left b) (source.source_side a) (source.source_side b) c.args.text.now.items c.pour_head_on.new.text.items c.in_ok-end.end c.is_some-2.result there c.in_ok-end.ensures.comes

pub returns-in_err-end-clause-broke : goal.returns-in_err-end-clause-broke
returns-in_err-end-clause-broke g c =
    let source = g.P.Source in
    let a = c.args.from.now in
    let b = c.pour_head_on.new.from in
    let p = err_from_is_err_and c.from_residual.result c.from_residual.ensures.1 in
    failed_as (Option ℕ) c.from_residual.result _ (p.1 ∙ ap Err p.2) (head_broken (source.left a) (source.left b) (source.source_side a) (source.source_side b) c.args.text.now.items c.pour_head_on.new.text.items) c.in_err-end.ensures.broke
