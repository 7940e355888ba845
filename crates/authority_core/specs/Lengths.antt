-- How long a text gets; for private clauses.
use Rattle.std.specs.Prelude.{ℕ, ◌+◌, List, [], ◌∷◌, ◌++◌, length, map}
use Rattle.fed_json.specs.declared.tree.Json.{Json}
use Rattle.fed_json.specs.declared.tree.Member.{Member}
use Rattle.fed_json.specs.Compact.{compact, quoted}
use Rattle.jwk_set.specs.Trees.{key_tree}
use Rattle.jwk_set.specs.declared.jwk.Jwk.{Jwk}

-- the text of a member (RFC 8259 section 4)
abbrev pub member_text : List ℕ → Json → List ℕ
member_text name value = quoted name ++ 58 ∷ compact value

-- the bytes of pieces, each with a comma
abbrev pub pieces_length : List (List ℕ) → ℕ
pieces_length [] = 0
pieces_length (x ∷ xs) = length x + 1 + pieces_length xs

-- the bytes of the items of a list, each with a comma (RFC 8259 section 5)
abbrev pub items_length : List Json → ℕ
items_length items = pieces_length (map compact items)

-- the bytes of the members of an object, each with a comma (RFC 8259 section 4)
abbrev pub members_length : List Member → ℕ
members_length members = pieces_length (map (λ m. member_text m.name m.value) members)

-- the bytes of the keys of a set, each with a comma (RFC 7517 section 5.1)
abbrev pub keys_length : List Jwk → ℕ
keys_length keys = pieces_length (map (λ k. compact (key_tree k)) keys)
