-- Notes that were handed over.
use Rattle.std.proofs.Common.{◌≤◌, ℕ, List, length, take, Option, sym, subst}
use Rattle.std.specs.Prelude.{Result, Ok, Err, OnErr, OnOk}
use Rattle.std.proofs.Math.Seq.{take-length}
use Rattle.fed_ports.specs.Bytes.{Appends}
use Rattle.plain_notes.specs.Notes.{IsNotes}
use Rattle.cli_commands.specs.Noted.{HandsNotes}

-- they were written, or a beginning of them
pub hands-written : {E : Type 0} → (old new : Option (List ℕ)) (text : List ℕ) (result : Result Unit E) → IsNotes text → OnOk result (Appends old new text)
    → OnErr result ((n : ℕ) × (n ≤ length text) × Appends old new (take n text)) → HandsNotes old new
hands-written old new text (Ok done) plain is part =
    record { text = text; plain = plain; count = length text; written = subst (λ piece. Appends old new piece) (sym (take-length text)) is }
hands-written old new text (Err fault) plain is (n, few, written) = record { text = text; plain = plain; count = n; written = written }
