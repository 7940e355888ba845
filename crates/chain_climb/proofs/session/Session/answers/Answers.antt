use Rattle.std.proofs.Common.{◌∙◌, ap, length}
use Rattle.chain_climb.specs.Sessions.{Search}
use Rattle.chain_climb.proofs.session.Session.answers.Goals as goal

pub returns : goal.returns
returns c = c.answers.ensures ∙ ap (λ (s : Search). length s.pages) c.self.view_is
