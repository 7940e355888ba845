use Rattle.resolve_round.proofs.ToldLaws.{proves-sealed}
use Rattle.resolve_round.proofs.laws.proves_are_sealed.Goals as goal

pub returns : goal.returns
returns c = proves-sealed
