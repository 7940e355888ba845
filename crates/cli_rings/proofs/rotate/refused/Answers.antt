use Rattle.std.proofs.Common.{rules}
use Rattle.cli_rings.proofs.rotate.refused.Goals as goal

pub returns-in-Order : goal.returns-in-Order
returns-in-Order c = search rules
