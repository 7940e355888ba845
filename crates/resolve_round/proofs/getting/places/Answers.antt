use Rattle.std.proofs.Common.{rules}
use Rattle.resolve_round.proofs.getting.places.Goals as goal

pub returns-then-eq-2 : goal.returns-then-eq-2
returns-then-eq-2 c = search rules
