use Rattle.std.proofs.Common.{◌≡◌, ◌≤◌, ◌-◌, length, max, false}
use Rattle.http_messages.specs.Flows.{Comes}
use Rattle.http_messages.specs.Asked.{asked_of}
use Rattle.http_messages.proofs.inflow.pour_to.Given as goal

abbrev pub invariant-loop-text : goal.invariant-loop-text
invariant-loop-text g l = let flow = g.I.Inflow in record {
  ready : flow.ready l.from;
  comes : Comes (flow.came l.fn.from l.from) l.fn.text.items l.text.items false;
  most : length l.text.items ≤ max l.until (length l.fn.text.items);
  asked : asked_of (flow.told l.from) ≡ asked_of (flow.told l.fn.from);
  still : flow.fixed_of l.from ≡ flow.fixed_of l.fn.from;
  count : flow.in_faults l.from ≡ flow.in_faults l.fn.from;
}

abbrev pub decreases-loop-text : goal.decreases-loop-text
decreases-loop-text g l = l.until - length l.text.items
