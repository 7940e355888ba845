use Rattle.std.proofs.Common.{rules}
use Rattle.node_config.proofs.settings.lifetime_in.Goals as goal

pub returns : goal.returns
returns c = search rules
