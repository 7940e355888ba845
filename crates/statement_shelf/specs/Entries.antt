-- A part of the cache as a plain list of entries, the most recently used first.
use Rattle.std.specs.Prelude.{◌%◌, ℕ, List, [], ◌∷◌, take, sum, bytes_eq, nat_le, Bool, false, cond, Option}
use Rattle.std.specs.Option.{option_map_or}
use Rattle.std.specs.List.{list_any}
use Rattle.std.specs.Map.{lookup, remove_entry, set_value}

-- a statement, the keys under which it was proved, and the moment at which it ends (OpenID Federation 1.0 section 3)
pub record Entry : Type 0 where
  pub text : List ℕ
  pub keys : List (List ℕ)
  pub until : ℕ

-- the entries of a part under their URLs
abbrev pub Part : Type 0
Part = List (List ℕ × Entry)

-- how many entries a part keeps, and how many keys an entry
abbrev pub max_entries : ℕ
max_entries = 32

abbrev pub max_proved : ℕ
max_proved = 4

-- how many parts there are, and in which one a URL is
abbrev pub part_count : ℕ
part_count = 8

abbrev pub part_of : List ℕ → ℕ
part_of url = sum url % part_count

-- the entry of a URL, and the part without it
abbrev pub entry_at : List ℕ → Part → Option Entry
entry_at url part = lookup (bytes_eq url) part

abbrev pub without : List ℕ → Part → Part
without url part = remove_entry (bytes_eq url) part

-- the entry of the URL in front; it takes the place of an earlier one, or else of the last where there is no room
unfoldable pub put_first : List ℕ → Entry → Part → Part
put_first url e part = take max_entries ((url, e) ∷ without url part)

-- a text that is not proved yet
abbrev pub unproved : List ℕ → ℕ → Entry
unproved text until = record { text = text; keys = []; until = until }

-- the keys with one more in front, unless it is among them; a fifth drops the last
unfoldable pub add_key : List ℕ → List (List ℕ) → List (List ℕ)
add_key key keys = cond (list_any (λ k. bytes_eq k key) keys) keys (take max_proved (key ∷ keys))

-- the entry with one more proved key
abbrev pub with_key : List ℕ → Entry → Entry
with_key key e = record { text = e.text; keys = add_key key e.keys; until = e.until }

-- the part with another entry of the URL, in the place of the one that it has
abbrev pub written : List ℕ → Entry → Part → Part
written url e part = set_value (bytes_eq url) part e

-- the entry has ended at the moment, where there is one
abbrev pub has_ended : ℕ → Option (List ℕ × Entry) → Bool
has_ended moment last = option_map_or (λ p. nat_le p.1.until moment) last false
