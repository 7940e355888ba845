-- The public keys of a ring as they are shown (OpenID Federation 1.0 section 8.7).
use Rattle.std.specs.Prelude.{ℕ, List, [], ◌∷◌, ◌++◌, codes, bytes_eq, find, Bool, false, Option, Some, None, option_map}
use Rattle.fed_json.specs.declared.tree.Json.{Json}
use Rattle.fed_json.specs.Compact.{compact}
use Rattle.fed_json.specs.Trees.{object_members}
use Rattle.jwk_set.specs.declared.jwk.Jwk.{Jwk}
use Rattle.jwk_set.specs.declared.jwk.Jwk.TheVariants.{Own, Foreign}
use Rattle.jwk_set.specs.Keys.{is_text_at}
use Rattle.jwk_set.specs.Trees.{key_tree, set_tree}
use Rattle.key_ring.specs.Rings.{Ring}
use Rattle.key_ring.specs.Sets.{historical_keys, live_set}
use Rattle.cli_rings.specs.Replies.{plain, refused}
use Rattle.cli_rings.specs.declared.reply.Reply.{Reply}

-- a text on a line
abbrev pub on_line : List ℕ → Reply
on_line text = plain 0 (text ++ 10 ∷ [])

-- a key of that name
abbrev pub is_called : List ℕ → Jwk → Bool
is_called kid (Own name alg public) = bytes_eq name kid
is_called kid (Foreign tree) = false

-- a historical key of that name (section 8.7.2)
abbrev pub is_named : List ℕ → Json → Bool
is_named kid key = is_text_at (codes "kid") kid (object_members key)

-- the text of the historical key, where there is one
abbrev pub past_by : Option (List ℕ) → Reply
past_by (Some text) = on_line text
past_by None = refused (codes "Unknown")

-- a retired or revoked key, as the historical keys have it: with its end, and with its revocation where it was revoked
unfoldable pub past_reply : List ℕ → Ring → Reply
past_reply kid ring = past_by (option_map compact (find (is_named kid) (historical_keys ring)))

-- the live key, where there is one, else what is said of those that were
abbrev pub named_by : Option Jwk → Reply → Reply
named_by (Some key) past = on_line (compact (key_tree key))
named_by None past = past

-- the key of a name: a live one as the set has it (RFC 7517 section 4)
unfoldable pub named_reply : List ℕ → Ring → Reply
named_reply kid ring = named_by (find (is_called kid) (live_set ring)) (past_reply kid ring)

-- the live keys as a set, newest first (RFC 7517 section 5), or the key of a name
abbrev pub public_reply : Option (List ℕ) → Ring → Reply
public_reply None ring = on_line (compact (set_tree (live_set ring)))
public_reply (Some kid) ring = named_reply kid ring
