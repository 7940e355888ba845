use Rattle.std.proofs.Common.{arith}
use Rattle.std.proofs.lemmas.Grind.{common_steps}
use Rattle.cli_commands.proofs.check_lines.append_reason.Goals as goal

pub returns-in_ok-push-in-Conflict : goal.returns-in_ok-push-in-Conflict
returns-in_ok-push-in-Conflict c = grind (arith, common_steps)
