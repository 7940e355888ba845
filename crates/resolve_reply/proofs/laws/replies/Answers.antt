use Rattle.resolve_reply.proofs.ClaimLaws.{chain-said, resealed}
use Rattle.resolve_reply.proofs.laws.replies.Goals as goal

pub returns : goal.returns
returns c = record { resealed = resealed; chain = chain-said }
