use Rattle.statement_shelf.specs.Passes.{IsPassOfAll}
use Rattle.rows_resolve.proofs.main.Given as goal

abbrev pub invariant-loop-line : goal.invariant-loop-line
invariant-loop-line g l = IsPassOfAll l.commons l.pass
