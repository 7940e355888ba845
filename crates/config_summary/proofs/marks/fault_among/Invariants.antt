use Rattle.std.proofs.Common.{◌≡◌, drop}
use Rattle.config_summary.specs.Marks.{fault_from}
use Rattle.config_summary.proofs.marks.fault_among.Given as goal

abbrev pub invariant-loop-entry : goal.invariant-loop-entry
invariant-loop-entry l = record {
  left : fault_from l.id 0 l.entries ≡ fault_from l.id l.place (drop l.entry-index l.entries);
  counted : l.place ≡ l.entry-index;
}
