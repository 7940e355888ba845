use Rattle.std.proofs.Common.{rules}
use Rattle.statement_shelf.proofs.PartSteps.{prove-fits, prove-other}
use Rattle.statement_shelf.proofs.part.ShelfPart.prove.Goals as goal

pub invariant_of-self-then-ne : goal.invariant_of-self-then-ne
invariant_of-self-then-ne c = (search rules, prove-fits c.of.result c.self.inside.entries.entries c.in-Some.entry.now (search rules))

pub returns-then-ne : goal.returns-then-ne
returns-then-ne c = prove-other c.args.url c.args.seal c.args.self.now _ c.in-Some.entry.now (search rules) (search rules) (search rules) c.text.ensures.sealed

pub invariant_of-self-2 : goal.invariant_of-self-2
invariant_of-self-2 c = (search rules, prove-fits c.of.result c.self.inside.entries.entries c.prove.new.self (search rules))

pub returns : goal.returns
returns c = search rules
