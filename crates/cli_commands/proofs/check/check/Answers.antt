use Rattle.std.proofs.Common.{rules}
use Rattle.cli_commands.proofs.check.check.Goals as goal

pub returns-clause-checked : goal.returns-clause-checked
returns-clause-checked g c = search rules
