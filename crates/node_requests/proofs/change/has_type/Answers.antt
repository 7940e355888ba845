use Rattle.std.proofs.Common.{rules}
use Rattle.node_requests.proofs.change.has_type.Goals as goal

pub returns : goal.returns
returns c = search rules
