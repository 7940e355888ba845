use Rattle.std.proofs.Common.{◌≡◌, drop}
use Rattle.http_messages.specs.Heads.{head_end, behind}
use Rattle.http_messages.proofs.heads.head_end.Given as goal

abbrev pub invariant-loop-at : goal.invariant-loop-at
invariant-loop-at l = head_end l.text ≡ behind l.at (head_end (drop l.at l.text))
