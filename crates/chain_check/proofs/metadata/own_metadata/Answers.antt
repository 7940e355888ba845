use Rattle.std.proofs.Common.{◌≡◌, Some, None, sym, ap, ◌∙◌}
use Rattle.std.specs.Prelude.{slice_get}
use Rattle.std.proofs.lemmas.Option.{slice_get-get_or, slice_get_past}
use Rattle.std.proofs.lemmas.Result.{IfOk-weaker}
use Rattle.chain_check.proofs.ResolveLaws.{own-about, own-alone}
use Rattle.chain_check.proofs.metadata.own_metadata.Goals as goal

pub returns-in-Some-clause-tree : goal.returns-in-Some-clause-tree
returns-in-Some-clause-tree c =
    let es = c.args.entries.now in
    let about = c.in-Some.about.now in
    let there : slice_get es 1 ≡ Some about = slice_get-get_or es 1 about c.in-Some.ensures.lookup.3.0 ∙ ap Some (sym c.in-Some.ensures.lookup.1) in
    IfOk-weaker c.put_over.result _ _ (λ tree is. is ∙ own-about es c.index-entries-0.result about there) c.put_over.ensures.tree

pub returns-in-None-clause-tree : goal.returns-in-None-clause-tree
returns-in-None-clause-tree c =
    let es = c.args.entries.now in
    let none : slice_get es 1 ≡ None = slice_get_past es 1 c.in-None.ensures.lookup.3 in
    IfOk-weaker c.copy.result _ _ (λ tree is. is ∙ own-alone es c.index-entries-0.result c.requires none) c.copy.ensures
