-- The compact text of a tree: no space, and the members in their order (RFC 8259 section 2).
use Rattle.std.specs.Prelude.{ℕ, List, [], ◌∷◌, ◌++◌, true, false, codes}
use Rattle.std.specs.Fmt.{signed_decimal}
use Rattle.std.specs.List.{join_with_byte}
use Rattle.serde_json.specs.Data as data_of
use Rattle.serde_json.specs.Written.{compact_text}
use Rattle.fed_json.specs.declared.tree.Json.{Json, fold-Json}
use Rattle.fed_json.specs.declared.tree.Json.TheOpen.{Json-F, Member-F}

-- the text between quotation marks, with the shortest escapes (RFC 8259 section 7)
abbrev pub quoted : List ℕ → List ℕ
quoted text = compact_text (data_of.string text)

-- the pieces with commas between them
abbrev pub listed : List (List ℕ) → List ℕ
listed = join_with_byte 44

-- one level of `compact`, where each part has its text (RFC 8259 sections 3, 5 and 6)
abbrev pub compact_step : Json-F (List ℕ) (List ℕ) → List ℕ
compact_step Json-F.Null = codes "null"
compact_step (Json-F.Bool true) = codes "true"
compact_step (Json-F.Bool false) = codes "false"
compact_step (Json-F.Int n) = signed_decimal n
compact_step Json-F.Odd = []
compact_step (Json-F.Text bytes) = quoted bytes
compact_step (Json-F.List items) = 91 ∷ (listed items ++ 93 ∷ [])
compact_step (Json-F.Object members) = 123 ∷ (listed members ++ 125 ∷ [])

-- the name, a colon and the value (RFC 8259 section 4)
abbrev pub compact_member : Member-F (List ℕ) (List ℕ) → List ℕ
compact_member m = quoted m.name ++ 58 ∷ m.value

-- the compact text; an Odd has none
abbrev pub compact : Json → List ℕ
compact = fold-Json (List ℕ) (List ℕ) compact_step compact_member
