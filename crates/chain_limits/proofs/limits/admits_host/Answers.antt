use Rattle.std.proofs.Common.{rules}
use Rattle.chain_limits.proofs.limits.admits_host.Goals as goal

pub returns-else-permitted : goal.returns-else-permitted
returns-else-permitted c = search rules
