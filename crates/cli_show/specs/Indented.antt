-- A JSON value on lines, of which each level stands in by two places, with the dates of moments.
use Rattle.std.specs.Prelude.{ℕ, ℤ, List, [], ◌∷◌, ◌++◌, map, flat_map, codes, bytes_eq, nat_eq, Bool, true, false, ◌||◌, Option, Some, None, option_map, unwrap_or, if◌then◌else◌}
use Rattle.std.specs.Fmt.{signed_decimal}
use Rattle.fed_base.specs.Moments.{moment_limit}
use Rattle.fed_json.specs.declared.tree.Json.{Json, fold-Json}
use Rattle.fed_json.specs.declared.tree.Json.TheOpen.{Json-F, Member-F}
use Rattle.fed_json.specs.declared.tree.Member.{Member}
use Rattle.fed_json.specs.Trees.{count_below, if_below}
use Rattle.plain_notes.specs.Moments.{moment_text}
use Rattle.plain_notes.specs.Strings.{string}

-- what is shown of a value: as it stands, and where its name says that it is a moment
pub record Shown : Type 0 where
  pub plain : List ℕ
  pub dated : List ℕ

-- the same in both places
abbrev pub alone : List ℕ → Shown
alone text = record { plain = text; dated = text }

-- a number; one that a moment may be is below 2^62
abbrev pub number_shown : ℤ → Shown
number_shown n = record { plain = signed_decimal n; dated = unwrap_or (option_map moment_text (if_below moment_limit (Some n))) (signed_decimal n) }

-- each line but the first stands in by a margin
abbrev pub inset_byte : List ℕ → ℕ → List ℕ
inset_byte margin byte = byte ∷ (if nat_eq byte 10 then margin else [])

abbrev pub inset_by : List ℕ → List ℕ → List ℕ
inset_by margin bytes = flat_map (inset_byte margin) bytes

-- a level further in: by two places
abbrev pub level : List ℕ
level = 32 ∷ 32 ∷ []

abbrev pub inset : List ℕ → List ℕ
inset bytes = inset_by level bytes

-- a piece on a line behind another
abbrev pub led : List ℕ → List ℕ
led piece = 44 ∷ 10 ∷ piece

-- such pieces between brackets: nothing, or lines that stand in, the first without its comma
abbrev pub enclosed : ℕ → ℕ → List ℕ → List ℕ
enclosed opening closing [] = opening ∷ closing ∷ []
enclosed opening closing (comma ∷ lines) = opening ∷ (inset lines ++ 10 ∷ closing ∷ [])

abbrev pub block : ℕ → ℕ → List (List ℕ) → List ℕ
block opening closing pieces = enclosed opening closing (flat_map led pieces)

-- the names of claims and parameters that are moments (RFC 7519 section 4.1, OpenID Federation 1.0 section 8.7.2)
abbrev pub is_moment : List ℕ → Bool
is_moment name = bytes_eq name (codes "exp") || (bytes_eq name (codes "iat") || (bytes_eq name (codes "nbf") || bytes_eq name (codes "revoked_at")))

-- the value under a name
abbrev pub value_under : List ℕ → Shown → List ℕ
value_under name value = if is_moment name then value.dated else value.plain

abbrev pub truth : Bool → List ℕ
truth true = codes "true"
truth false = codes "false"

-- a number whose value isn't kept
abbrev pub odd_text : List ℕ
odd_text = codes "(a number that isn't whole)"

-- one level of a tree, where each part has its text (RFC 8259 section 3)
abbrev pub shown_step : Json-F Shown (List ℕ) → Shown
shown_step Json-F.Null = alone (codes "null")
shown_step (Json-F.Bool b) = alone (truth b)
shown_step (Json-F.Int n) = number_shown n
shown_step Json-F.Odd = alone odd_text
shown_step (Json-F.Text bytes) = alone (string bytes)
shown_step (Json-F.List items) = alone (block 91 93 (map (λ item. item.plain) items))
shown_step (Json-F.Object members) = alone (block 123 125 members)

-- a name, a colon and the value
abbrev pub member_step : Member-F Shown (List ℕ) → List ℕ
member_step m = string m.name ++ (58 ∷ (32 ∷ value_under m.name m.value))

abbrev pub shown : Json → Shown
shown = fold-Json Shown (List ℕ) shown_step member_step

abbrev pub indented : Json → List ℕ
indented tree = (shown tree).plain

-- a member on a line
abbrev pub member_text : Member → List ℕ
member_text m = string m.name ++ (58 ∷ (32 ∷ value_under m.name (shown m.value)))

-- the moment that a member is
abbrev pub moment_under : Member → Option ℕ
moment_under m = if is_moment m.name then count_below moment_limit m.value else None
