use Rattle.std.proofs.Common.{rules}
use Rattle.node_requests.proofs.asked.Asked.kind.Goals as goal

pub returns-in-List : goal.returns-in-List
returns-in-List c = search rules
