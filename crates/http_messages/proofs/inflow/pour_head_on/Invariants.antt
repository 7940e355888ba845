use Rattle.std.proofs.Common.{◌≡◌, ◌≤◌, ◌-◌, length, false, None}
use Rattle.http_messages.specs.Heads.{head_end, head_limit}
use Rattle.http_messages.specs.Flows.{Comes}
use Rattle.http_messages.specs.Asked.{asked_of}
use Rattle.http_messages.proofs.inflow.pour_head_on.Given as goal

abbrev pub invariant-loop-text : goal.invariant-loop-text
invariant-loop-text g l = let flow = g.I.Inflow in record {
  ready : flow.ready l.from;
  comes : Comes (flow.came l.fn.from l.from) l.fn.text.items l.text.items false;
  bound : length l.text.items ≤ head_limit;
  none : head_end l.text.items ≡ None;
  asked : asked_of (flow.told l.from) ≡ asked_of (flow.told l.fn.from);
  still : flow.fixed_of l.from ≡ flow.fixed_of l.fn.from;
  count : flow.in_faults l.from ≡ flow.in_faults l.fn.from;
}

abbrev pub decreases-loop-text : goal.decreases-loop-text
decreases-loop-text g l = head_limit - length l.text.items
