use Rattle.std.proofs.Common.{sym, ◌∙◌}
use Rattle.node_config.proofs.Lists.{differ_of}
use Rattle.node_config.proofs.subordinates.are_subordinates.Goals as goal

pub returns-then-are_below : goal.returns-then-are_below
returns-then-are_below c = differ_of c.args.node.now c.args.list.now c.all_differ.result (sym c.are_below.ensures ∙ c.if-are_below.true) c.all_differ.ensures
