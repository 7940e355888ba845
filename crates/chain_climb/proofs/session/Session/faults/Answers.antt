use Rattle.std.proofs.Common.{◌∙◌, ap}
use Rattle.chain_climb.specs.Sessions.{Search, faults_in}
use Rattle.chain_climb.proofs.session.Session.faults.Goals as goal

pub returns : goal.returns
returns c = c.faults.ensures ∙ ap (λ (s : Search). faults_in s.pages) c.self.view_is
