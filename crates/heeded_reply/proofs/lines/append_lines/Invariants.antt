use Rattle.std.proofs.Common.{◌≡◌, ◌++◌, take}
use Rattle.heeded_reply.specs.Lines.{mark_lines}
use Rattle.heeded_reply.proofs.lines.append_lines.Given as goal

abbrev pub invariant-loop-place : goal.invariant-loop-place
invariant-loop-place l = l.lines ≡ l.fn.lines ++ mark_lines 0 (take l.place l.tells)
