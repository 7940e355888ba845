use Rattle.std.proofs.Common.{rules}
use Rattle.policy_merge.proofs.merging.fill_in.Goals as goal

pub returns : goal.returns
returns c = search rules
