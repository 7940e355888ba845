use Rattle.std.proofs.Common.{◌≡◌, ◌++◌, take, flat_map}
use Rattle.config_summary.specs.Summaries.{mark_end}
use Rattle.config_summary.proofs.marks.append_mark_ends.Given as goal

abbrev pub invariant-loop-entry : goal.invariant-loop-entry
invariant-loop-entry l = l.out ≡ l.initial.out ++ flat_map (mark_end l.moment) (take l.entry-index l.entries)
