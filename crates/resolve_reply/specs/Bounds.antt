-- How far the searches of a resolver go, by trust anchor.
use Rattle.std.specs.Prelude.{ℕ, List, find, bytes_eq, Bool}
use Rattle.std.specs.Option.{option_map_or}
use Rattle.chain_climb.specs.declared.want.Bounds.{Bounds}
use Rattle.entity_statement.specs.Claims.{Identifier}
use Rattle.resolve_reply.specs.declared.bounds.AnchorBounds.{AnchorBounds}

-- so many statements of superiors, calls of the link, and partial paths, where nothing else is set
abbrev pub usual : Bounds
usual = record { depth = 12; calls = 160; paths = 4096 }

-- the entry is of this trust anchor
abbrev pub is_of : Identifier → AnchorBounds → Bool
is_of anchor entry = bytes_eq entry.anchor anchor

-- the bounds of the first entry of a trust anchor, else the usual ones
unfoldable pub bounds_for : List AnchorBounds → Identifier → Bounds
bounds_for entries anchor = option_map_or (λ entry. entry.bounds) (find (is_of anchor) entries) usual
