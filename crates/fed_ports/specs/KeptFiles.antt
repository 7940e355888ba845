-- Files that a store in memory keeps, one behind the other.
use Rattle.std.specs.Prelude.{ℕ, ◌+◌, List, [], ◌∷◌, take, drop, Some, None, if◌then◌else◌, bytes_eq}
use Rattle.fed_ports.specs.NamedFiles.{first_of, file_of}
use Rattle.fed_ports.specs.Stores.{Files}
use Rattle.fed_ports.specs.declared.kept_file.KeptFile.{KeptFile}
use Rattle.fed_ports.specs.declared.named_file.NamedFile.{NamedFile}

-- the file, where its name is that one and both stand at the front of the bytes
abbrev pub kept_here : KeptFile → List ℕ → Files
kept_here f bytes name = if bytes_eq (take f.name bytes) name then Some (take f.bytes (drop f.name bytes)) else None

-- the last file of that name, of files that stand one behind the other, each behind its name
unfoldable pub kept_of : List KeptFile → List ℕ → Files
kept_of [] bytes name = None
kept_of (f ∷ fs) bytes name = first_of (kept_of fs (drop (f.name + f.bytes) bytes) name) (kept_here f bytes name)

-- how many bytes the files and their names have
unfoldable pub kept_size : List KeptFile → ℕ
kept_size [] = 0
kept_size (f ∷ fs) = f.name + f.bytes + kept_size fs

-- the files that were kept, and for other names those from before
abbrev pub files_of : List KeptFile → List ℕ → List NamedFile → Files
files_of kept bytes files name = first_of (kept_of kept bytes name) (file_of files name)
