-- The trust marks that a node is configured with, and the first that is none of the node's (OpenID Federation 1.0 section 7).
use Rattle.std.specs.Prelude.{ℕ, ◌+◌, List, [], ◌∷◌, ◌++◌, codes, decimal, bytes_eq, ◌&&◌, Option, Some, None, unwrap_or, if◌then◌else◌}
use Rattle.std.specs.Option.{option_and_then}
use Rattle.fed_json.specs.declared.tree.Json.{Json}
use Rattle.entity_statement.specs.Claims.{Identifier}
use Rattle.entity_statement.specs.Forms.{marks_of}
use Rattle.entity_statement.specs.declared.marks.MarkEntry.{MarkEntry}
use Rattle.trust_mark.specs.Marks.{mark_of}
use Rattle.trust_mark.specs.declared.mark.Mark.{Mark}

-- the entries of the claim (section 3.1.2)
abbrev pub entries_of : Option Json → List MarkEntry
entries_of marks = unwrap_or (option_and_then marks_of marks) []

-- why the text of an entry isn't a mark about the node of the entry's type, where it isn't
abbrev pub fault_of : Identifier → MarkEntry → Option Mark → Option (List ℕ)
fault_of id entry None = Some (codes "Form")
fault_of id entry (Some mark) = if bytes_eq mark.sub id && bytes_eq mark.mark_type entry.mark_type then None else Some (codes "Names")

-- the place and the fault of the first such entry, from a place on
abbrev pub fault_here : ℕ → Option (List ℕ) → Option (List ℕ) → Option (List ℕ)
fault_here place (Some fault) later = Some (codes "trust_marks " ++ (decimal place ++ (32 ∷ fault)))
fault_here place None later = later

abbrev pub fault_from : Identifier → ℕ → List MarkEntry → Option (List ℕ)
fault_from id place [] = None
fault_from id place (entry ∷ entries) = fault_here place (fault_of id entry (mark_of entry.text)) (fault_from id (place + 1) entries)

-- the first fault of the marks
unfoldable pub first_fault : Identifier → Option Json → Option (List ℕ)
first_fault id marks = fault_from id 0 (entries_of marks)
