-- What is asked of a statement that was read.
use Rattle.std.specs.Prelude.{ℕ, ◌+◌, List, codes, nat_le, nat_lt, Bool, ◌&&◌, Option}
use Rattle.std.specs.Option.{option_and_then}
use Rattle.fed_json.specs.declared.tree.Json.{Json}
use Rattle.fed_json.specs.Trees.{as_object, find, text_at}

-- issued at a moment at most a minute from now, and not expired (section 3.1.1, `iat` and `exp`)
abbrev pub current_at : ℕ → ℕ → ℕ → Bool
current_at iat exp t = nat_le iat (t + 60) && nat_lt t exp

-- the parameters of the type `federation_entity` (section 5.1.1)
abbrev pub federation_entity : Json → Option Json
federation_entity metadata = option_and_then (find (codes "federation_entity")) (as_object metadata)

-- where statements about subordinates are asked for (section 5.1.1, `federation_fetch_endpoint`)
unfoldable pub fetch_endpoint_in : Json → Option (List ℕ)
fetch_endpoint_in metadata = option_and_then (text_at (codes "federation_fetch_endpoint")) (option_and_then as_object (federation_entity metadata))

-- where an issuer is asked about its trust marks (section 5.1.1, `federation_trust_mark_status_endpoint`)
unfoldable pub status_endpoint_in : Json → Option (List ℕ)
status_endpoint_in metadata = option_and_then (text_at (codes "federation_trust_mark_status_endpoint")) (option_and_then as_object (federation_entity metadata))
