use Rattle.chain_climb.proofs.SessionLaws.{says-made}
use Rattle.chain_climb.proofs.session.Session.paths.Goals as goal

pub returns : goal.returns
returns c = says-made c.self.inside.state c.self.invariant c.args.self.now c.self.view_is c.paths.result c.paths.ensures
