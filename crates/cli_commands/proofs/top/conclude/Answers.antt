use Rattle.std.proofs.Common.{rules}
use Rattle.cli_commands.proofs.top.conclude.Goals as goal

pub returns-then-is_err-clause-ended : goal.returns-then-is_err-clause-ended
returns-then-is_err-clause-ended g c = search rules
