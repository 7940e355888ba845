use Rattle.std.proofs.Common.{rules}
use Rattle.statement_shelf.proofs.PartSteps.{put-done, put-fits}
use Rattle.statement_shelf.proofs.part.ShelfPart.add.Goals as goal

pub invariant_of-self-2 : goal.invariant_of-self-2
invariant_of-self-2 c = (search rules, put-fits c.args.url c.self.inside.entries c.put.new.self.entries c.in-Ok.entry (search rules) (search rules) (search (rules, c.in-Ok-put.ensures.entries)))

pub returns : goal.returns
returns c =
    put-done c.args.url c.args.text c.args.until c.args.self.now c.self.inside.entries c.put.new.self.entries c.in-Ok.entry (search rules) (search rules) (search rules) (search (rules, c.in-Ok.ensures)) (search (rules, c.in-Ok-put.ensures.entries))
