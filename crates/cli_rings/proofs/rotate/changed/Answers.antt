use Rattle.std.proofs.Common.{rules}
use Rattle.cli_rings.proofs.rotate.changed.Goals as goal

pub returns : goal.returns
returns c = search rules
