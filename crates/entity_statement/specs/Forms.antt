-- The form of each claim: what its value says, where it has the form (OpenID Federation 1.0 section 3.1).
use Rattle.std.specs.Prelude.{ℕ, List, [], ◌∷◌, ◌++◌, length, codes, bytes_eq, nat_lt, nat_le, Bool, true, ◌&&◌, not, Option, Some, None, option_map, if◌then◌else◌}
use Rattle.std.specs.Option.{option_and_then}
use Rattle.std.specs.Result.{result_ok}
use Rattle.std.specs.List.{list_any}
use Rattle.fed_base.specs.Moments.{moment_limit}
use Rattle.fed_json.specs.declared.tree.Json.{Json}
use Rattle.fed_json.specs.declared.tree.Member.{Member}
use Rattle.fed_json.specs.Trees.{as_list, as_object, as_text, count_below, each, find, text_at, texts_of}
use Rattle.entity_id.specs.Identifiers.{identifier_of}
use Rattle.jwk_set.specs.KeySets.{key_set_in}
use Rattle.fed_json.specs.Metadata.{is_metadata}
use Rattle.entity_statement.specs.declared.marks.MarkEntry.{MarkEntry}
use Rattle.entity_statement.specs.declared.marks.Issuers.{Issuers}
use Rattle.entity_statement.specs.Claims.{Identifier, OwnerClaims}

-- a text that identifies an entity (section 1.2)
unfoldable pub identifier : Json → Option Identifier
identifier tree = option_and_then identifier_of (as_text tree)

-- a moment: whole seconds since 1970 (RFC 7519 section 2, NumericDate)
unfoldable pub moment : Json → Option ℕ
moment tree = count_below moment_limit tree

-- each identifier at its first place, after those that are kept (section 3.1.2, `authority_hints`)
abbrev pub once_after : List Identifier → List Identifier → List Identifier
once_after kept [] = kept
once_after kept (id ∷ ids) = if list_any (bytes_eq id) kept then once_after kept ids else once_after (kept ++ id ∷ []) ids

-- each identifier at its first place (section 3.1.2, `authority_hints`)
abbrev pub once : List Identifier → List Identifier
once ids = once_after [] ids

-- no identifier stands twice (section 3.1.2, `authority_hints`)
abbrev pub all_differ : List Identifier → Bool
all_differ [] = true
all_differ (id ∷ ids) = not (list_any (bytes_eq id) ids) && all_differ ids

-- how many superiors a configuration names at most (section 3.1.2, `authority_hints`)
abbrev pub max_hints : ℕ
max_hints = 32

-- a list of 1 to 32 parts (section 3.1.2, `authority_hints`)
abbrev pub unless_many : List Json → Option (List Json)
unless_many items = if nat_lt 0 (length items) && nat_le (length items) max_hints then Some items else None

-- the immediate superiors, each once (section 3.1.2, `authority_hints`)
unfoldable pub hints_of : Json → Option (List Identifier)
hints_of tree = option_map once (option_and_then (each identifier) (option_and_then unless_many (as_list tree)))

-- an object from entity type to an object from parameter to a value that isn't null (sections 3.1.1 and 5, `metadata`)
unfoldable pub metadata_of : Json → Option Json
metadata_of tree = if is_metadata tree then Some tree else None

-- the type and the text of a trust mark, of the members of its entry (section 3.1.2, `trust_marks`)
abbrev pub mark_in : List Member → Option MarkEntry
mark_in members =
    option_and_then (λ mark_type. option_map (λ text. record { mark_type = mark_type; text = text }) (text_at (codes "trust_mark") members))
    (text_at (codes "trust_mark_type") members)

-- a trust mark and its type (section 3.1.2, `trust_marks`)
unfoldable pub mark_of : Json → Option MarkEntry
mark_of tree = option_and_then mark_in (as_object tree)

-- the trust marks of an entity (section 3.1.2, `trust_marks`)
unfoldable pub marks_of : Json → Option (List MarkEntry)
marks_of tree = option_and_then (each mark_of) (as_list tree)

-- those who may issue marks of a type (section 3.1.2, `trust_mark_issuers`)
unfoldable pub issuers_in : Member → Option Issuers
issuers_in m = option_map (λ who. record { mark_type = m.name; who = who }) (texts_of m.value)

-- those who may issue marks, type by type (section 3.1.2, `trust_mark_issuers`)
unfoldable pub issuers_of : Json → Option (List Issuers)
issuers_of tree = option_and_then (each issuers_in) (as_object tree)

-- the owner of that type of marks, of the members of its entry (section 3.1.2, `trust_mark_owners`)
abbrev pub owner_with : List ℕ → List Member → Option OwnerClaims
owner_with mark_type members =
    option_and_then (λ sub. option_map (λ keys. record { mark_type = mark_type; sub = sub; keys = keys })
    (option_and_then (λ tree. result_ok (key_set_in tree)) (find (codes "jwks") members)))
    (option_and_then identifier (find (codes "sub") members))

-- the owner of a type of marks (section 3.1.2, `trust_mark_owners`)
unfoldable pub owner_in : Member → Option OwnerClaims
owner_in m = option_and_then (owner_with m.name) (as_object m.value)

-- the owners of types of marks (section 3.1.2, `trust_mark_owners`)
unfoldable pub owners_of : Json → Option (List OwnerClaims)
owners_of tree = option_and_then (each owner_in) (as_object tree)
