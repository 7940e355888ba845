-- What a person reads: lines of plain text, each a sentence.
use Rattle.std.specs.Prelude.{◌≡◌, ◌<◌, ℕ, ◌++◌, ◌∷◌, ◌==◌, ◌&&◌, ◌||◌, ◌+◌, ◌/◌, ◌%◌, ◌⊎◌, List, [], length, take, codes, nat_lt, nat_le, Bool, IsTrue, Option, None, Some, option_map, if◌then◌else◌}
use Rattle.std.specs.List.{list_all}

-- a byte that is shown as it is: printable ASCII (RFC 20 section 4)
abbrev pub is_printable : ℕ → Bool
is_printable b = nat_le 0x20 b && nat_le b 0x7e

-- a byte of notes: printable, or a line end
abbrev pub is_note_byte : ℕ → Bool
is_note_byte b = is_printable b || b == 10

-- the bytes are all printable
abbrev pub IsPlain : List ℕ → Type 0
IsPlain text = IsTrue (list_all is_printable text)

-- the text has no control characters but its line ends, and is UTF-8, since it is ASCII
abbrev pub IsNotes : List ℕ → Type 0
IsNotes text = IsTrue (list_all is_note_byte text)

-- a digit of base 16
unfoldable pub digit : ℕ → ℕ
digit n = if nat_lt n 10 then 48 + n else 87 + n

-- a byte as it is shown: as it is where it is printable, else `\x` and its two digits
unfoldable pub shown_byte : ℕ → List ℕ
shown_byte b = if is_printable b then b ∷ [] else 92 ∷ 120 ∷ digit (b / 16) ∷ digit (b % 16) ∷ []

-- bytes as they are shown
unfoldable pub shown : List ℕ → List ℕ
shown [] = []
shown (b ∷ rest) = shown_byte b ++ shown rest

-- a piece of a sentence: of more than 400 bytes the first 400, and two full stops
unfoldable pub piece : List ℕ → List ℕ
piece bytes = if nat_lt 400 (length bytes) then shown (take 400 bytes) ++ codes ".." else shown bytes

-- a sentence is longer by a piece, or was given up for want of memory
abbrev pub IsLonger : Option (List ℕ) → List ℕ → Option (List ℕ) → Type 0
IsLonger before bytes after = (after ≡ None) ⊎ (after ≡ option_map (λ text. text ++ piece bytes) before)

-- notes are as they were, or longer by the whole sentence on its line
abbrev pub IsSaid : List ℕ → Option (List ℕ) → List ℕ → Type 0
IsSaid before sentence after = (after ≡ before) ⊎ (Some after ≡ option_map (λ text. before ++ (text ++ 10 ∷ [])) sentence)
