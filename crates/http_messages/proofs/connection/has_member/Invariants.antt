use Rattle.std.proofs.Common.{◌≡◌, ◌≤◌, ◌<◌, ◌+◌, ◌-◌, drop, false, length}
use Rattle.http_messages.specs.Connections.{has_member}
use Rattle.http_messages.proofs.connection.has_member.Given as goal

abbrev pub invariant-loop-from : goal.invariant-loop-from
invariant-loop-from l = record {
  bound : l.from ≤ length l.value + 1;
  some : l.from ≤ length l.value → has_member l.word (drop l.from l.value) ≡ has_member l.word l.value;
  none : length l.value < l.from → false ≡ has_member l.word l.value;
}

abbrev pub decreases-loop-from : goal.decreases-loop-from
decreases-loop-from l = length l.value + 1 - l.from
