use Rattle.std.proofs.Common.{rules}
use Rattle.statement_shelf.proofs.PartSteps.{renew-done, renew-fits}
use Rattle.statement_shelf.proofs.part.ShelfPart.put.Goals as goal

pub invariant_of-self-2 : goal.invariant_of-self-2
invariant_of-self-2 c =
    (search rules, renew-fits c.args.url c.args.self.now _ c.in-Some.entry.now c.renew.new.self (search rules) (search rules) (search rules))

pub returns : goal.returns
returns c =
    renew-done c.args.url c.args.text c.args.until c.args.self.now c.self.inside.entries.entries _ c.in-Some.entry.now c.renew.new.self (search rules) (search rules) (search rules)
    (search rules) (search rules)
