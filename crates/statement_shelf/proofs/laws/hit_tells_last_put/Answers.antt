use Rattle.statement_shelf.proofs.PutLaws.{hit-is-last-put}
use Rattle.statement_shelf.proofs.laws.hit_tells_last_put.Goals as goal

pub returns : goal.returns
returns c = hit-is-last-put
