use Rattle.statement_shelf.proofs.PutLaws.{put-is-told}
use Rattle.statement_shelf.proofs.laws.put_is_told.Goals as goal

pub returns : goal.returns
returns c = put-is-told
