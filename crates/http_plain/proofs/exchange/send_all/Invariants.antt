use Rattle.std.proofs.Common.{◌≡◌, ◌≤◌, ◌-◌, length, take}
use Rattle.fed_ports.specs.Exchanges.{Changed, with_sent}
use Rattle.http_plain.proofs.exchange.send_all.Given as goal

abbrev pub invariant-loop-at : goal.invariant-loop-at
invariant-loop-at g l = let flow = g.W.Inflow in record {
  at : l.at ≤ length l.message;
  open_still : flow.ready l.net;
  sent : Changed (flow.told l.fn.net) (with_sent (take l.at l.message)) (flow.told l.net);
  count : flow.in_faults l.net ≡ flow.in_faults l.fn.net;
  still : flow.fixed_of l.net ≡ flow.fixed_of l.fn.net;
}

abbrev pub decreases-loop-at : goal.decreases-loop-at
decreases-loop-at g l = length l.message - l.at
