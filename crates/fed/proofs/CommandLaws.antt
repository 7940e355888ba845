-- What is done where the words ask for no service.
use Rattle.std.proofs.Common.{◌≡◌, sym, subst}
use Rattle.std.specs.Prelude.{ℕ, Option, Some, None}
use Rattle.cli_commands.specs.Runs.{IsRun, World}
use Rattle.cli_commands.proofs.TopLaws.{run_unread}
use Rattle.cli_inspect.specs.Inspections.{Inspects}
use Rattle.cli_inspect.proofs.InspectLaws.{uninspected}
use Rattle.cli_words.specs.Calls.{command_in, inspection_in}
use Rattle.cli_words.specs.declared.call.Call.{Call}
use Rattle.cli_words.specs.declared.call.Call.TheVariants as call
use Rattle.cli_words.specs.declared.command.Command.{Command}
use Rattle.cli_words.specs.declared.inspection.Inspection.{Inspection}
use Rattle.fed.specs.Commands.{DoesAs}

module _ {S D C : Type 0} (asked : Call) (before after : World S D C) (status : ℕ) where
  -- it is shown
  pub does-shown : (inspection : Inspection) → asked ≡ call.Inspection inspection → Inspects inspection before after status
      → DoesAs (inspection_in asked) (command_in asked) before after status
  does-shown inspection is shown = subst (λ a. DoesAs (inspection_in a) (command_in a) before after status) (sym is) shown

  -- it is done
  pub does-done : (command : Command) → asked ≡ call.Command command → IsRun command before after status
      → DoesAs (inspection_in asked) (command_in asked) before after status
  does-done command is done = subst (λ a. DoesAs (inspection_in a) (command_in a) before after status) (sym is) done

-- memory was wanting for the words
pub does-nothing : {S D C : Type 0} (asked : Option Inspection) (command : Command) (before : World S D C) → DoesAs asked command before before 5
does-nothing (Some inspection) command before = uninspected inspection before
does-nothing None command before = run_unread command before
