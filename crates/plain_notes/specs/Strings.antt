-- Texts between quotation marks, as a terminal may be given them: none moves its cursor or turns its letters round.
use Rattle.std.specs.Prelude.{ℕ, ◌/◌, ◌%◌, List, [], ◌∷◌, ◌++◌, flat_map, nat_le, nat_eq, Bool, true, not, ◌&&◌, ◌||◌, if◌then◌else◌}
use Rattle.plain_notes.specs.Notes.{digit}

-- two bytes of UTF-8 are or begin a control character from U+0080 to U+009F, or a mark of direction: U+061C, and those that are among
-- U+2000 to U+207F
abbrev pub turns : ℕ → ℕ → Bool
turns a b = (nat_eq a 194 && nat_le 128 b && nat_le b 159) || (nat_eq a 216 && nat_eq b 156) || (nat_eq a 226 && nat_le 128 b && nat_le b 129)

-- no such character stands in the text, behind this byte
abbrev pub calm_after : ℕ → List ℕ → Bool
calm_after before [] = true
calm_after before (byte ∷ bytes) = not (turns before byte) && calm_after byte bytes

abbrev pub is_calm : List ℕ → Bool
is_calm text = calm_after 0 text

-- a byte of a calm text, or of another: quotation marks and backslashes are escaped (RFC 8259 section 7); a byte that isn't printable is
-- shown by its two digits, and so is one that isn't ASCII where the text isn't calm
abbrev pub shown_byte : Bool → ℕ → List ℕ
shown_byte calm byte =
    if nat_eq byte 34 || nat_eq byte 92 then 92 ∷ byte ∷ []
    else if (nat_le 32 byte && nat_le byte 126) || (calm && nat_le 128 byte) then byte ∷ []
    else 92 ∷ 120 ∷ digit (byte / 16) ∷ digit (byte % 16) ∷ []

-- a text between quotation marks
abbrev pub string : List ℕ → List ℕ
string text = 34 ∷ (flat_map (shown_byte (is_calm text)) text ++ 34 ∷ [])
