use Rattle.statement_shelf.proofs.BookRuns.{read-tells-last}
use Rattle.statement_shelf.proofs.laws.read_tells_last_rotate.Goals as goal

pub returns : goal.returns
returns c = read-tells-last
