use Rattle.std.proofs.Common.{◌∙◌, sym, subst, take, filter, true≢false}
use Rattle.fed_json.specs.Codes.{Knows}
use Rattle.fed_json.specs.Sets.{is_among}
use Rattle.fed_json.proofs.Onces.{is_among-Decides, once-more_in, once-more_out}
use Rattle.fed_json.proofs.sets.add_common.Goals as goal
use Rattle.fed_json.proofs.sets.add_common.Goals.{then-branch+in_ok-add, else-branch}

pub loop-tree-preserved : goal.loop-tree-preserved
loop-tree-preserved c =
    let tree = c.tree-item.result in
    let trees = c.args.trees.now in
    let i = c.loop-tree.tree-index in
    let b = c.args.b.now in
    elim c.if-branch.branch [
      | then-branch+in_ok-add w ↦ record {
        list = λ empty.
            once-more_in c.if-branch.list trees b i tree c.loop-tree-test.true c.tree-item.is ((is_among-Decides b tree).0 (sym c.in_ok-holds.ensures ∙ w.if-branch.true))
            (w.list-is ∙ w.in_ok-add.ensures.list (filter (is_among b) (take i trees)) (c.loop-tree.invariant.list empty));
        known = subst (λ places. Knows places c.if-branch.list) (sym w.places-is) (subst (Knows w.add.new.places) (sym w.list-is) w.in_ok-add.ensures.known);
      }
      | else-branch w ↦ record {
        list = λ empty.
            once-more_out c.if-branch.list trees b i tree c.loop-tree-test.true c.tree-item.is
            (λ there. true≢false (sym ((is_among-Decides b tree).1 there) ∙ sym c.in_ok-holds.ensures ∙ w.if-branch.false)) (w.list-is ∙ c.loop-tree.invariant.list empty);
        known = subst (λ places. Knows places c.if-branch.list) (sym w.places-is) (subst (Knows c.loop-tree.places) (sym w.list-is) c.loop-tree.invariant.known);
      }
    ]
