use Rattle.chain_climb.proofs.SessionLaws.{begun-is}
use Rattle.chain_climb.proofs.session.Session.start.Goals as goal

pub returns : goal.returns
returns c = begun-is c.args.leaf.now c.args.anchor.now c.args.bounds c.in_ok-state.state c.in_ok-state.ensures
