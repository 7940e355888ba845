use Rattle.std.proofs.Common.{rules, ◌≡◌, Some}
use Rattle.cli_commands.proofs.ReplyLaws.{check_awaits}
use Rattle.cli_commands.proofs.operation.prepare_check.Goals as goal
use Rattle.cli_commands.specs.Checks.{keys_in}

-- src/operation.rt
pub returns-in_ok-copy-in-Some : goal.returns-in_ok-copy-in-Some
returns-in_ok-copy-in-Some c =
    let copied : c.in_ok-copy-in-Some.field-0 ≡ c.args.anchor.now = search rules in
    let found : keys_in c.in-Whole.bytes ≡ Some c.in-Some.keys.keys = search rules in
    check_awaits c.args.file.now c.in-Whole.bytes c.args.anchor.now c.in_ok-copy-in-Some.field-0 c.args.at c.in-Some.keys c.in-Whole.is copied found
