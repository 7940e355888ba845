-- The list of a set's members (RFC 7517 section 5).
use Rattle.std.specs.Prelude.{ℕ, List, length, codes, nat_le, Option, Some, None, if◌then◌else◌}
use Rattle.fed_base.specs.Values.{◌>>=◌}
use Rattle.fed_json.specs.declared.tree.Json.{Json}
use Rattle.fed_json.specs.Trees.{as_object, as_list, find}

-- how many keys a set has at most
abbrev pub max_keys : ℕ
max_keys = 64

-- the list, where it has at most so many members
abbrev pub unless_many : List Json → Option (List Json)
unless_many list = if nat_le (length list) max_keys then Some list else None

-- the list `keys` of an object (RFC 7517 section 5.1)
unfoldable pub listed_in : Json → Option (List Json)
listed_in tree = do
  members ← as_object tree
  keys ← find (codes "keys") members
  list ← as_list keys
  unless_many list
