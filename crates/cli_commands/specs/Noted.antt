-- What a person reads, as it is handed over.
use Rattle.std.specs.Prelude.{ℕ, List, take, Option}
use Rattle.fed_ports.specs.Bytes.{Appends}
use Rattle.plain_notes.specs.Notes.{IsNotes}

-- a beginning of some notes was written, and nothing else
pub record HandsNotes (old new : Option (List ℕ)) : Type 0 where
  pub text : List ℕ
  pub plain : IsNotes text
  pub count : ℕ
  pub written : Appends old new (take count text)
