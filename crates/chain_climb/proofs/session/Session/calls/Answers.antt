use Rattle.std.proofs.Common.{◌∙◌, ap}
use Rattle.chain_climb.specs.Sessions.{Search, calls_in}
use Rattle.chain_climb.proofs.session.Session.calls.Goals as goal

pub returns : goal.returns
returns c = c.calls.ensures ∙ ap (λ (s : Search). calls_in s.pages) c.self.view_is
