-- Members that stand twice in one object of a text, of which the tree has the last alone (RFC 8259 section 4).
use Rattle.std.specs.Prelude.{ℕ, List, [], ◌∷◌, ◌++◌, flat_map, nat_eq, bytes_eq, Bool, true, false, ◌&&◌, not, Option, Some, None, if◌then◌else◌}
use Rattle.std.specs.List.{list_any}
use Rattle.config_warnings.specs.Places.{warn}
use Rattle.config_warnings.specs.declared.scan.Scan.{Scan}
use Rattle.config_warnings.specs.declared.warning.Kind.TheVariants.{Twice}
use Rattle.config_warnings.specs.declared.warning.Warning.{Warning}

-- ---- the last of a list, and those before it

unfoldable pub last_of : {X : Type 0} → List X → Option X
last_of [] = None
last_of (x ∷ []) = Some x
last_of (x ∷ y ∷ ys) = last_of (y ∷ ys)

unfoldable pub front_of : {X : Type 0} → List X → List X
front_of [] = []
front_of (x ∷ []) = []
front_of (x ∷ y ∷ ys) = x ∷ front_of (y ∷ ys)

-- ---- a text, byte by byte

-- before the first byte
abbrev pub start : Scan
start = record { objects = []; quoted = false; escaped = false; word = []; twice = [] }

-- a byte of a string: a quotation mark ends it, unless it stands behind a reverse solidus (section 7)
abbrev pub inside : Scan → ℕ → Scan
inside s b =
    if not s.escaped && nat_eq b 34 then record { objects = s.objects; quoted = false; escaped = s.escaped; word = s.word; twice = s.twice }
    else record { objects = s.objects; quoted = s.quoted; escaped = not s.escaped && nat_eq b 92; word = s.word ++ b ∷ []; twice = s.twice }

-- a brace that closes: the innermost object is done
abbrev pub closed : Scan → Scan
closed s = record { objects = front_of s.objects; quoted = s.quoted; escaped = s.escaped; word = s.word; twice = s.twice }

-- an object with these names is open inside the others
abbrev pub with_object : Scan → List (List ℕ) → Scan
with_object s names = record { objects = s.objects ++ names ∷ []; quoted = s.quoted; escaped = s.escaped; word = s.word; twice = s.twice }

-- the last string is one name more of an object with these, whose outer ones are open
abbrev pub put : Scan → List (List ℕ) → Scan
put s names =
    if list_any (λ name. bytes_eq name s.word) names
    then record { objects = s.objects ++ names ∷ []; quoted = s.quoted; escaped = s.escaped; word = s.word; twice = s.twice ++ s.word ∷ [] }
    else with_object s (names ++ s.word ∷ [])

-- a colon: the string before it is the name of a member of the innermost object that is open
abbrev pub named_by : Scan → Option (List (List ℕ)) → Scan
named_by s None = closed s
named_by s (Some names) = put (closed s) names

abbrev pub named : Scan → Scan
named s = named_by s (last_of s.objects)

-- a byte of no string
abbrev pub outside : Scan → ℕ → Scan
outside s b =
    if nat_eq b 34 then record { objects = s.objects; quoted = true; escaped = s.escaped; word = []; twice = s.twice }
    else if nat_eq b 123 then record { objects = s.objects ++ [] ∷ []; quoted = s.quoted; escaped = s.escaped; word = s.word; twice = s.twice }
    else if nat_eq b 125 then closed s
    else if nat_eq b 58 then named s
    else s

unfoldable pub step : Scan → ℕ → Scan
step s b = if s.quoted then inside s b else outside s b

unfoldable pub scanned : Scan → List ℕ → Scan
scanned s [] = s
scanned s (b ∷ bs) = scanned (step s b) bs

-- the names that stand twice in an object, as they are written, in the order of the text
unfoldable pub twice_in : List ℕ → List (List ℕ)
twice_in text = (scanned start text).twice

abbrev pub warn_twice : List ℕ → List Warning
warn_twice name = warn Twice [] name

-- what is warned of a text
abbrev pub of_text : List ℕ → List Warning
of_text text = flat_map warn_twice (twice_in text)
