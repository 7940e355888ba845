use Rattle.std.proofs.Common.{◌∙◌, ap}
use Rattle.chain_climb.specs.Climbs.{page_named}
use Rattle.chain_climb.specs.Sessions.{answer_to}
use Rattle.chain_climb.proofs.state.State.take_configuration.Goals as goal

pub take_page-requires-clause-new : goal.take_page-requires-clause-new
take_page-requires-clause-new c = ap (λ e. answer_to c.args.self.now.pages (page_named c.args.entity e c.args.url)) c.in-Ok.ensures ∙ c.requires.new
