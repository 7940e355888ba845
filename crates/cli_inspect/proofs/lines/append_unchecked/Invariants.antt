use Rattle.std.proofs.Common.{◌≡◌, ◌++◌}
use Rattle.cli_inspect.specs.Reports.{unchecked_lines}
use Rattle.cli_inspect.proofs.lines.append_unchecked.Given as goal

abbrev pub invariant-loop-place : goal.invariant-loop-place
invariant-loop-place l = l.lines ≡ l.fn.lines ++ unchecked_lines l.checked l.place
