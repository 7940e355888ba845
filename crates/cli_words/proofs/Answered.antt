-- Answers that are copies of printable ASCII.
use Rattle.std.proofs.Common.{◌≡◌, ℕ, List, Result, Ok, Err, sym, subst}
use Rattle.std.specs.Prelude.{IfOk, IsUtf8}
use Rattle.fed_base.specs.declared.faults.Memory.{Memory}
use Rattle.plain_notes.specs.Notes.{IsPlain}
use Rattle.plain_notes.proofs.Plain.{notes_utf8, plain_notes}

-- a copy of printable ASCII is UTF-8
pub copied-utf8 : (r : Result (List ℕ) Memory) (bytes : List ℕ) → IsPlain bytes → IfOk r (λ text. text ≡ bytes) → IfOk r IsUtf8
copied-utf8 (Err e) bytes plain made = tt
copied-utf8 (Ok text) bytes plain made = subst IsUtf8 (sym made) (notes_utf8 bytes (plain_notes bytes plain))
