-- The counts of faults, by why what was posted isn't looked at.
use Rattle.std.proofs.Common.{◌≡◌, ℕ, Err, sym, subst}
use Rattle.fed_base.specs.Counts.{Rose}
use Rattle.cli_commands.specs.Answers.{StopsAs}
use Rattle.cli_commands.specs.declared.answer.Stop.{Stop}
use Rattle.cli_commands.specs.declared.answer.Stop.TheVariants.{Source, Store, Memory}
use Rattle.register_once.specs.Registering.{CountsSource, CountsStore}
use Rattle.register_once.specs.Stops.{of_input}

pub input-source : (X : Type 0) (stop : Stop) (before now : ℕ) → ((store : ℕ) → StopsAs stop before now store store) → CountsSource {X = X} before now (Err (of_input stop))
input-source X Source before now stops = (stops 0).0
input-source X Store before now stops = (stops 0).0
input-source X Memory before now stops = (stops 0).0

pub input-store : (X : Type 0) (stop : Stop) (source source' before now : ℕ) → ((store : ℕ) → StopsAs stop source source' store store) → now ≡ before → CountsStore {X = X} before now (Err (of_input stop))
input-store X Source source source' before now stops same = same
input-store X Store source source' before now stops same = subst (Rose before) (sym same) (stops before).1
input-store X Memory source source' before now stops same = same
