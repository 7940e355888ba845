use Rattle.std.proofs.Common.{arith, ap, length}
use Rattle.http_messages.proofs.Cutting.{broken_all, head_all}
use Rattle.http_messages.proofs.Ends.{short_end}
use Rattle.http_messages.proofs.inflow.pour_head.Goals as goal

pub pour_head_on-requires-clause-none : goal.pour_head_on-requires-clause-none
pour_head_on-requires-clause-none g c = short_end c.args.text.now.items (omega (arith, ap length c.requires.empty))

pub pour_head_on-requires-clause-small : goal.pour_head_on-requires-clause-small
pour_head_on-requires-clause-small g c = omega (arith, ap length c.requires.empty)

pub returns-clause-comes : goal.returns-clause-comes
returns-clause-comes g c =
    head_all (g.I.Inflow.came c.args.from.now c.pour_head_on.new.from) c.args.text.now.items c.pour_head_on.new.text.items c.pour_head_on.result c.requires.empty c.pour_head_on.ensures.comes

pub returns-clause-broke : goal.returns-clause-broke
returns-clause-broke g c =
    broken_all (g.I.Inflow.broke c.args.from.now c.pour_head_on.new.from) c.args.text.now.items c.pour_head_on.new.text.items c.pour_head_on.result c.requires.empty c.pour_head_on.ensures.broke
