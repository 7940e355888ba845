use Rattle.std.proofs.Common.{◌≡◌, ◌++◌}
use Rattle.rehearsal.specs.Configurations.{parameters_text}
use Rattle.rehearsal.proofs.configurations.add_parameters.Given as goal

abbrev pub invariant-loop-i : goal.invariant-loop-i
invariant-loop-i l = l.text ≡ l.initial.text ++ parameters_text l.role l.i
