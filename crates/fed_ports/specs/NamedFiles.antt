-- Files by their names, in the order in which a store in memory was given them.
use Rattle.std.specs.Prelude.{ℕ, List, [], ◌∷◌, Option, Some, None, if◌then◌else◌, bytes_eq}
use Rattle.fed_ports.specs.Stores.{Files}
use Rattle.fed_ports.specs.declared.named_file.NamedFile.{NamedFile}

-- the first of two files that is there
abbrev pub first_of : Option (List ℕ) → Option (List ℕ) → Option (List ℕ)
first_of None other = other
first_of (Some bytes) other = Some bytes

-- the bytes of the last file of that name
unfoldable pub file_of : List NamedFile → Files
file_of [] name = None
file_of (f ∷ fs) name = first_of (file_of fs name) (if bytes_eq f.name name then Some f.bytes else None)
