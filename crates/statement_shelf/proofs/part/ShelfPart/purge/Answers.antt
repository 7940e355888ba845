use Rattle.std.proofs.Common.{rules, arith}
use Rattle.std.proofs.lemmas.Grind.{common_steps}
use Rattle.statement_shelf.proofs.Purging.{purge-more}
use Rattle.statement_shelf.proofs.part.ShelfPart.purge.Goals as goal

pub loop-self-preserved-in-loop-self : goal.loop-self-preserved-in-loop-self
loop-self-preserved-in-loop-self c =
    (purge-more c.self.inside.entries.entries c.loop-self.self-inside.entries.entries _ c.args.moment c.loop-self.invariant.0 (search rules) (search rules), search rules, search rules)

pub returns : goal.returns
returns c = grind (arith, common_steps)
