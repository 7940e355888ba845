use Rattle.std.proofs.Common.{rules}
use Rattle.key_ring.proofs.sets.is_historical.Goals as goal

pub returns : goal.returns
returns c = search rules
