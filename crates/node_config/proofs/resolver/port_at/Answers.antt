use Rattle.std.proofs.Common.{rules}
use Rattle.node_config.proofs.resolver.port_at.Goals as goal

pub returns : goal.returns
returns c = search rules
