use Rattle.resolve_round.proofs.RoundEnds.{plain-end}
use Rattle.resolve_round.proofs.SessionLaws.{session-round}
use Rattle.resolve_round.proofs.laws.searches.Goals as goal

pub returns : goal.returns
returns c = record { rounds = session-round; ends = plain-end }
