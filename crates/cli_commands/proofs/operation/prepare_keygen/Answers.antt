use Rattle.std.proofs.Common.{rules}
use Rattle.cli_commands.proofs.operation.prepare_keygen.Goals as goal

pub returns-in-TooLong : goal.returns-in-TooLong
returns-in-TooLong c = search rules
