use Rattle.std.proofs.Common.{rules}
use Rattle.node_requests.proofs.endpoints.kind_had.Goals as goal

pub returns-in_default-2 : goal.returns-in_default-2
returns-in_default-2 c = search rules
