use Rattle.std.proofs.Common.{◌∙◌, refl, sym, ap, cond, None, Some}
use Rattle.authority_core.specs.Nodes.{node_of}
use Rattle.authority_core.proofs.StatusLaws.{mark-read, own-none, own-some, tests-none, tests-some}
use Rattle.authority_core.proofs.status.own_mark_in.Goals as goal

pub returns-in_default-clause-mark : goal.returns-in_default-clause-mark
returns-in_default-clause-mark g c =
    own-none (node_of c.args.node.now c.args.ring.now) c.args.compact.now.whole (mark-read c.args.node.now.id _ c.args.compact.now _ c.requires.parts c.in_ok-mark.ensures ∙ c.in_default.is)

pub returns-in_default-clause-counted : goal.returns-in_default-clause-counted
returns-in_default-clause-counted g c =
    tests-none (node_of c.args.node.now c.args.ring.now) c.args.compact.now.whole _ _ (mark-read c.args.node.now.id _ c.args.compact.now _ c.requires.parts c.in_ok-mark.ensures ∙ c.in_default.is) refl

pub returns-then-branch-clause-mark : goal.returns-then-branch-clause-mark
returns-then-branch-clause-mark g c =
    sym (ap (λ b. cond b (Some c.in-Some.mark) None) c.if-branch.true)
    ∙ own-some (node_of c.args.node.now c.args.ring.now) c.args.compact.now.whole _ _ _ c.in-Some.mark
    (mark-read c.args.node.now.id _ c.args.compact.now _ c.requires.parts c.in_ok-mark.ensures ∙ c.in-Some.is) refl refl c.in_ok-is_kept.ensures.test

pub returns-then-branch-clause-counted : goal.returns-then-branch-clause-counted
returns-then-branch-clause-counted g c =
    tests-some (node_of c.args.node.now c.args.ring.now) c.args.compact.now.whole _ _ c.in-Some.mark _ _
    (mark-read c.args.node.now.id _ c.args.compact.now _ c.requires.parts c.in_ok-mark.ensures ∙ c.in-Some.is) refl refl c.in_ok-is_kept.ensures.counted

pub returns-else-branch-clause-mark : goal.returns-else-branch-clause-mark
returns-else-branch-clause-mark g c =
    sym (ap (λ b. cond b (Some c.in-Some.mark) None) c.if-branch.false)
    ∙ own-some (node_of c.args.node.now c.args.ring.now) c.args.compact.now.whole _ _ _ c.in-Some.mark
    (mark-read c.args.node.now.id _ c.args.compact.now _ c.requires.parts c.in_ok-mark.ensures ∙ c.in-Some.is) refl refl c.in_ok-is_kept.ensures.test

pub returns-else-branch-clause-counted : goal.returns-else-branch-clause-counted
returns-else-branch-clause-counted g c =
    tests-some (node_of c.args.node.now c.args.ring.now) c.args.compact.now.whole _ _ c.in-Some.mark _ _
    (mark-read c.args.node.now.id _ c.args.compact.now _ c.requires.parts c.in_ok-mark.ensures ∙ c.in-Some.is) refl refl c.in_ok-is_kept.ensures.counted
