-- What is done where the words ask for no service.
use Rattle.std.specs.Prelude.{ℕ, Option, Some, None}
use Rattle.cli_commands.specs.Runs.{IsRun, World}
use Rattle.cli_inspect.specs.Inspections.{Inspects}
use Rattle.cli_words.specs.declared.command.Command.{Command}
use Rattle.cli_words.specs.declared.inspection.Inspection.{Inspection}

-- what is asked for is shown, or the command is done
abbrev pub DoesAs : {S D C : Type 0} → Option Inspection → Command → World S D C → World S D C → ℕ → Type 0
DoesAs (Some inspection) command before after status = Inspects inspection before after status
DoesAs None command before after status = IsRun command before after status
