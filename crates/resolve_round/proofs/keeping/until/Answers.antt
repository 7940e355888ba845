use Rattle.std.proofs.Common.{rules}
use Rattle.resolve_round.proofs.keeping.until.Goals as goal

pub returns : goal.returns
returns c = search rules
