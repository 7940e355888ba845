use Rattle.std.proofs.Common.{◌≡◌, drop}
use Rattle.entity_statement.specs.Table.{all_understood, is_operator}
use Rattle.entity_statement.proofs.claims.all_operators.Given as goal

abbrev pub invariant-loop-name : goal.invariant-loop-name
invariant-loop-name l = all_understood is_operator l.names ≡ all_understood is_operator (drop l.name-index l.names)
