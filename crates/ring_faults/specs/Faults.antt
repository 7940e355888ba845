-- What may be told of seeds: where they aren't of their form, and how long they are.
use Rattle.std.specs.Prelude.{◌≡◌, ◌<◌, ℕ, List, length, MatchOption}
use Rattle.fed_json.specs.Reading.{tree_in}
use Rattle.fed_json.specs.declared.tree.Json.{Json}
use Rattle.key_ring.specs.Readings.{listed_in}
use Rattle.ring_faults.specs.declared.file_fault.FileFault.{FileFault}
use Rattle.ring_faults.specs.declared.file_fault.FileFault.TheVariants.{Text, NoKeys, Count, Key, NoVersion, NoLive, Other, Memory}
use Rattle.ring_faults.specs.declared.seeds.SeedsFault.{SeedsFault}
use Rattle.ring_faults.specs.declared.seeds.SeedsFault.TheVariants.{Prefix, Blank, Digit, Length}
use Rattle.ring_faults.specs.declared.bytes.TextFault.{TextFault}

-- a kind of bytes, and nothing else
abbrev pub IsTextFault : FileFault → Type 0
IsTextFault fault = (kind : TextFault) × (fault ≡ Text kind)

-- a place in the input, or its length
abbrev pub IsSeedsFault : List ℕ → SeedsFault → Type 0
IsSeedsFault input Prefix = Unit {0}
IsSeedsFault input (Blank place) = place < length input
IsSeedsFault input (Digit place) = place < length input
IsSeedsFault input (Length digits) = digits ≡ length input

-- a place is that of one of 16 keys, and a count that of these keys
abbrev pub IsToldOf : List Json → FileFault → Type 0
IsToldOf keys (Key place fault) = place < 16
IsToldOf keys (Count count) = count ≡ length keys
IsToldOf keys (Text fault) = Unit {0}
IsToldOf keys NoKeys = Unit {0}
IsToldOf keys NoVersion = Unit {0}
IsToldOf keys NoLive = Unit {0}
IsToldOf keys Other = Unit {0}
IsToldOf keys Memory = Unit {0}

-- what is told of a tree: of its keys, or that it has none
abbrev pub IsFaultOf : Json → FileFault → Type 0
IsFaultOf tree fault = MatchOption (listed_in tree) (fault ≡ NoKeys) (λ keys. IsToldOf keys fault)

-- what is told of a file's bytes: of their tree, or what they are that have none
abbrev pub IsFileFault : List ℕ → FileFault → Type 0
IsFileFault bytes Memory = Unit {0}
IsFileFault bytes fault = MatchOption (tree_in bytes) (IsTextFault fault) (λ tree. IsFaultOf tree fault)
