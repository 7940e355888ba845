use Rattle.std.proofs.Common.{◌≡◌, ◌++◌, take, flat_map}
use Rattle.config_warnings.specs.Twice.{warn_twice}
use Rattle.config_warnings.proofs.scan.warn_twice.Given as goal

abbrev pub invariant-loop-name : goal.invariant-loop-name
invariant-loop-name l = l.out ≡ l.initial.out ++ flat_map warn_twice (take l.name-index l.names)
