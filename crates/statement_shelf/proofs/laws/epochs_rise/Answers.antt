use Rattle.statement_shelf.proofs.BookRuns.{epochs-rise}
use Rattle.statement_shelf.proofs.laws.epochs_rise.Goals as goal

pub returns : goal.returns
returns c = epochs-rise
