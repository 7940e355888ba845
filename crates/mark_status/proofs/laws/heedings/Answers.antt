use Rattle.mark_status.proofs.OneLaws.{heeds-one}
use Rattle.mark_status.proofs.laws.heedings.Goals as goal

pub returns : goal.returns
returns c = heeds-one
