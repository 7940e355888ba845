use Rattle.std.proofs.Common.{◌≡◌, ◌-◌, length}
use Rattle.fed_ports.specs.Lists.{Gave}
use Rattle.fed_ports.proofs.input.read_all.Given as goal

abbrev pub invariant-pieces : goal.invariant-pieces
invariant-pieces g l = (g.S.Source.read_faults l.input ≡ g.S.Source.read_faults l.initial.input) × Gave (g.S.Source.left l.initial.input) l.bytes (g.S.Source.left l.input)

abbrev pub decreases-pieces : goal.decreases-pieces
decreases-pieces g l = 4194305 - length l.bytes
