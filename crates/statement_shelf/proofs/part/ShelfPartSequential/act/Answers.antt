use Rattle.statement_shelf.proofs.part.ShelfPartSequential.act.Goals as goal

pub returns-in-Look : goal.returns-in-Look
returns-in-Look c = rw c.in-Look.is c.look.ensures

pub returns-in-Put : goal.returns-in-Put
returns-in-Put c = rw c.in-Put.is c.put.ensures
