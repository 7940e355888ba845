use Rattle.std.proofs.Common.{[], arith}
use Rattle.http_messages.proofs.inflow.pour.Goals as goal

pub returns-in-Err-clause-few : goal.returns-in-Err-clause-few
returns-in-Err-clause-few g c =
    let flow = g.I.Inflow in
    flow.few_on c.args.from.now c.args.from.now c.more.new.from [] 0 c.args.most (flow.came_none c.args.from.now) c.in-Err.ensures.few (omega arith)
