use Rattle.std.proofs.Common.{rules}
use Rattle.sealed.proofs.pairs.Sealed.known.Goals as goal

pub of-requires : goal.of-requires
of-requires c = search rules
