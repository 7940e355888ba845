-- The parameter `scope`, whose texts are words with spaces between them (RFC 6749 section 3.3), and the members of
-- values (OpenID Federation 1.0 section 6.1.3.1).
use Rattle.std.specs.Prelude.{◌==◌, ℕ, List, [], ◌∷◌, Option, None, option_map, map, filter, Bool, true, false, not, codes, bytes_eq, if◌then◌else◌}
use Rattle.std.specs.Option.{option_or}
use Rattle.std.specs.List.{slice_split}
use Rattle.fed_json.specs.Trees.{as_text, as_list}
use Rattle.fed_json.specs.declared.tree.Json.{Json, Text}
use Rattle.fed_json.specs.Tables.{Name}

-- the parameter is `scope` (section 6.1.3.1)
abbrev pub is_scope : Name → Bool
is_scope name = bytes_eq name (codes "scope")

-- the list has no item
abbrev pub is_empty : {X : Type 0} → List X → Bool
is_empty [] = true
is_empty (x ∷ xs) = false

-- the non-empty pieces between spaces (RFC 6749 section 3.3)
abbrev pub words : List ℕ → List (List ℕ)
words text = filter (λ word. not (is_empty word)) (slice_split (λ byte. byte == 32) text)

-- the words as texts
abbrev pub word_members : List ℕ → List Json
word_members text = map Text (words text)

-- the members that a text has: its words, where the parameter is `scope`
abbrev pub words_in : Name → Json → Option (List Json)
words_in name tree = if is_scope name then option_map word_members (as_text tree) else None

-- the members of a value, where it has members (section 6.1.3.1): it is a list, or a text of `scope`
abbrev pub members_of : Name → Json → Option (List Json)
members_of name tree = option_or (words_in name tree) (as_list tree)
