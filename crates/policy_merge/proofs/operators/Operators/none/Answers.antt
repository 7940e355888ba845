use Rattle.std.proofs.Common.{refl}
use Rattle.policy_merge.proofs.operators.Operators.none.Goals as goal

pub returns : goal.returns
returns c = refl
