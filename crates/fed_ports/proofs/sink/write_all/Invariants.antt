use Rattle.std.proofs.Common.{◌≡◌, ◌≤◌, ◌-◌, length, take}
use Rattle.fed_ports.specs.Bytes.{Appends}
use Rattle.fed_ports.proofs.sink.write_all.Given as goal

abbrev pub invariant-loop-at : goal.invariant-loop-at
invariant-loop-at g l = let sink = g.K.Sink in record {
  at : l.at ≤ length l.bytes;
  gave : Appends (sink.held l.fn.out) (sink.held l.out) (take l.at l.bytes);
  count : sink.write_faults l.out ≡ sink.write_faults l.fn.out;
  side : sink.sink_side l.out ≡ sink.sink_side l.fn.out;
}

abbrev pub decreases-loop-at : goal.decreases-loop-at
decreases-loop-at g l = length l.bytes - l.at
