use Rattle.http_messages.proofs.Takings.{reads_of}
use Rattle.http_messages.proofs.read.read_request.Goals as goal

pub returns-clause-answer : goal.returns-clause-answer
returns-clause-answer g c x is = reads_of _ _ x _ c.take_request.ensures.taken is
