-- The file that a command names, and the ring that it is of.
use Rattle.std.specs.Prelude.{◌≡◌, ◌≤◌, ◌<◌, ℕ, List, length, Option, Some, None, Ok}
use Rattle.fed_ports.specs.Stores.{file_limit}
use Rattle.key_ring.specs.Files.{Opens}
use Rattle.key_ring.specs.Rings.{Ring}
use Rattle.cli_rings.specs.declared.ring_file.File.{File}
use Rattle.cli_rings.specs.declared.ring_file.File.TheVariants.{Absent, TooLong, Whole}

-- the file that was looked at: none, one that is too long, or its bytes
abbrev pub IsFileOf : File → Option (List ℕ) → Type 0
IsFileOf Absent file = file ≡ None
IsFileOf TooLong file = (bytes : List ℕ) × (file ≡ Some bytes) × (file_limit < length bytes)
IsFileOf (Whole bytes) file = (file ≡ Some bytes) × (length bytes ≤ file_limit)

-- a file is that of this ring, and no key stands twice in it
abbrev pub IsOpened : List ℕ → Ring → Type 0
IsOpened bytes ring = Opens bytes (Ok ring)

-- the ring of a file, and none where there is no file, or one that is too long or that of no ring
abbrev pub IsRingFound : Option (List ℕ) → Option Ring → Type 0
IsRingFound None found = found ≡ None
IsRingFound (Some bytes) (Some ring) = (length bytes ≤ file_limit) × IsOpened bytes ring
IsRingFound (Some bytes) None = (ring : Ring) → length bytes ≤ file_limit → ¬ IsOpened bytes ring
