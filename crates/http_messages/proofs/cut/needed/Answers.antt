use Rattle.std.proofs.Common.{sym}
use Rattle.http_messages.proofs.Cutting.{needs_plan, needs_refused}
use Rattle.http_messages.proofs.cut.needed.Goals as goal

pub returns-in-Some-read_plan : goal.returns-in-Some-read_plan
returns-in-Some-read_plan c = record {
  needs = needs_plan c.args.bytes.now c.in-Some.len c.in-Some-read_plan.plan (sym c.in-Some.ensures.found) c.in-Some-read_plan.ensures;
}

pub returns-in-None : goal.returns-in-None
returns-in-None c = record { needs = needs_refused c.args.bytes.now c.in-Some.len (sym c.in-Some.ensures.found) c.in-None.ensures }
