use Rattle.std.proofs.Common.{rules}
use Rattle.policy_merge.proofs.merging.required.Goals as goal

pub returns-then-upper : goal.returns-then-upper
returns-then-upper c = search rules
