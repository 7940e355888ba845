use Rattle.std.proofs.Common.{rules}
use Rattle.cli_commands.proofs.verify_finding.is_own.Goals as goal

pub returns : goal.returns
returns c = search rules
