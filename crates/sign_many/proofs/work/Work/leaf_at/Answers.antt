use Rattle.std.proofs.Common.{◌≡◌, ◌-◌, arith}
use Rattle.slh_hash.proofs.SetLaws.{bounds}
use Rattle.wots_xmss.specs.Hypertree.{tree_at}
use Rattle.sign_many.proofs.LayerLaws.{leaf_at-first, leaf_at-above}
use Rattle.sign_many.proofs.work.Work.leaf_at.Goals as goal

pub returns-then-layer-eq0-clause-value : goal.returns-then-layer-eq0-clause-value
returns-then-layer-eq0-clause-value c =
    let w = c.self.inside in
    rw (← c.self.view_is) (leaf_at-first w.params.tree_height w.tree w.leaf c.args.layer c.if-layer-eq0.true)

pub returns-else-layer-eq0-clause-value : goal.returns-else-layer-eq0-clause-value
returns-else-layer-eq0-clause-value c =
    let w = c.self.inside in
    let below : c.tree_at.result ≡ tree_at w.params.tree_height w.tree (c.args.layer - 1) = rw (← c.self.view_is) at c.tree_at.ensures in
    rw (← c.self.view_is) (leaf_at-above w.params.tree_height w.tree w.leaf c.args.layer c.tree_at.result (omega (arith, c.if-layer-eq0.false)) (bounds w.params c.self.invariant.0).height below)
