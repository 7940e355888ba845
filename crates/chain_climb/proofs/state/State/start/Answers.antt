use Rattle.chain_climb.proofs.GiveLaws.{begun}
use Rattle.chain_climb.proofs.state.State.start.Goals as goal

pub returns : goal.returns
returns c = begun c.args.leaf.now c.args.anchor.now _ _ c.args.bounds _ _ _ c.in_ok-leaf.ensures c.in_ok-anchor.ensures c.new.ensures c.new-2.ensures c.new-3.ensures
