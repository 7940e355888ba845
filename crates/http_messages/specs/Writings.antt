-- What writing a response leaves.
use Rattle.std.specs.Prelude.{◌≡◌, ◌≤◌, ℕ, List, length, take, codes, Option, Result, Ok, Err}
use Rattle.fed_base.specs.Counts.{Rose}
use Rattle.fed_ports.specs.Bytes.{Appends}
use Rattle.http_messages.specs.declared.response.Response.{Response}
use Rattle.http_messages.specs.declared.write.WriteEnd.{WriteEnd}
use Rattle.http_messages.specs.declared.write.WriteEnd.TheVariants.{WriteFault, Memory}
use Rattle.http_messages.specs.Responses.{SaidText}

-- the text of a response, with that word on its connection, stands behind what was held, after a fault a prefix of it, and without memory
-- nothing of it
abbrev pub WritesWith : List ℕ → Option (List ℕ) → Option (List ℕ) → Response → Result Unit WriteEnd → Type 0
WritesWith connection old new r (Ok u) = (text : List ℕ) × SaidText connection text r × Appends old new text
WritesWith connection old new r (Err WriteFault) =
    (text : List ℕ) × SaidText connection text r × ((n : ℕ) × (n ≤ length text) × Appends old new (take n text))
WritesWith connection old new r (Err Memory) = new ≡ old

-- a response that ends its connection was written so
abbrev pub Writes : Option (List ℕ) → Option (List ℕ) → Response → Result Unit WriteEnd → Type 0
Writes old new r result = WritesWith (codes "close") old new r result

-- a response behind which the connection goes on was written so
abbrev pub WritesKept : Option (List ℕ) → Option (List ℕ) → Response → Result Unit WriteEnd → Type 0
WritesKept old new r result = WritesWith (codes "keep-alive") old new r result

-- the count of faults rose where writing failed, and else it is as before
abbrev pub WriteCause : {T : Type 0} → ℕ → ℕ → Result T WriteEnd → Type 0
WriteCause before now (Ok x) = now ≡ before
WriteCause before now (Err WriteFault) = (before ≤ now) × Rose before now
WriteCause before now (Err Memory) = now ≡ before
