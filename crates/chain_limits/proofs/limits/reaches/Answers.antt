use Rattle.std.proofs.Common.{rules}
use Rattle.chain_limits.proofs.limits.reaches.Goals as goal

pub returns : goal.returns
returns c = search rules
