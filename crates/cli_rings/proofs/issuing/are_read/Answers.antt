use Rattle.std.proofs.Common.{rules}
use Rattle.cli_rings.proofs.issuing.are_read.Goals as goal

pub returns-in-Mark : goal.returns-in-Mark
returns-in-Mark c = search rules
