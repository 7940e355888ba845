use Rattle.std.proofs.Common.{◌++◌, ◌∷◌, [], ◌∙◌, sym, ap, true≢false}
use Rattle.std.specs.List.{Contains}
use Rattle.fed_json.proofs.Onces.{is_among-Decides, once-push_new, once-push_known}
use Rattle.fed_json.proofs.sets.add.Goals as goal

pub returns-in_ok-push-clause-list : goal.returns-in_ok-push-clause-list
returns-in_ok-push-clause-list c before is =
    let none : ¬ (Contains c.args.list.now c.args.tree.now) =
    λ there. true≢false (sym ((is_among-Decides c.args.list.now c.args.tree.now).1 there) ∙ sym c.in_ok-note.ensures.held ∙ c.if-not-branch.true) in
    c.in_ok-push.ensures.ok ∙ ap (λ y. c.args.list.now ++ y ∷ []) c.in_ok-copy.ensures ∙ once-push_new c.args.list.now before c.args.tree.now is none

pub returns-else-not-branch-clause-list : goal.returns-else-not-branch-clause-list
returns-else-not-branch-clause-list c before is =
    once-push_known c.args.list.now before c.args.tree.now is ((is_among-Decides c.args.list.now c.args.tree.now).0 (sym c.in_ok-note.ensures.held ∙ c.if-not-branch.false))
