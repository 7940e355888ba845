use Rattle.std.proofs.Common.{rules}
use Rattle.statement_shelf.proofs.PartSteps.{look-fits, look-hit}
use Rattle.statement_shelf.proofs.part.ShelfPart.look.Goals as goal

pub invariant_of-self : goal.invariant_of-self
invariant_of-self c = (search rules, look-fits c.args.url c.args.self.now c.promote.new.self.entries c.in-Some.entry.now (search rules) (search rules) (search rules))

pub returns : goal.returns
returns c =
    look-hit c.args.url c.args.moment c.args.self.now c.promote.new.self.entries c.in-Some.entry.now c.in-Ok.proven (search rules) (search rules) (search rules) (search rules)

pub returns-then-until-moment : goal.returns-then-until-moment
returns-then-until-moment c = search rules
