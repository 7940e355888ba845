use Rattle.std.proofs.Common.{rules}
use Rattle.node_requests.proofs.endpoints.kind_got.Goals as goal

pub returns-then-eq-2 : goal.returns-then-eq-2
returns-then-eq-2 c = search rules
