use Rattle.std.specs.Prelude.{All, IsSome, take}
use Rattle.trust_mark.specs.Marks.{mark_of}
use Rattle.rows_mark.proofs.heed_rows.marks_read.Given as goal

abbrev pub invariant-loop-entry : goal.invariant-loop-entry
invariant-loop-entry l = All (λ entry. IsSome (mark_of entry.text)) (take l.entry-index l.marks)
