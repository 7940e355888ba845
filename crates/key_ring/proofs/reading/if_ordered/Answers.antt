use Rattle.std.proofs.Common.{rules}
use Rattle.key_ring.proofs.reading.if_ordered.Goals as goal

pub returns-then-key-clause-key : goal.returns-then-key-clause-key
returns-then-key-clause-key c = search rules
