use Rattle.statement_shelf.proofs.BookRuns.{read-is-as-new}
use Rattle.statement_shelf.proofs.laws.read_is_as_new.Goals as goal

pub returns : goal.returns
returns c = read-is-as-new
