-- The leaf's metadata before policies: its own, what its superior puts over it, and without the types that constraints
-- don't allow (OpenID Federation 1.0 sections 3.1.1, 6.1.4.2 and 6.2.3).
use Rattle.std.specs.Prelude.{List, [], ◌∷◌, map, Option, slice_get}
use Rattle.std.specs.Option.{option_map_or, option_or}
use Rattle.std.specs.List.{filter_map}
use Rattle.fed_json.specs.declared.tree.Json.{Json, Object}
use Rattle.fed_json.specs.declared.tree.Member.{Member}
use Rattle.fed_json.specs.Reading.{member_of}
use Rattle.fed_json.specs.Trees.{find, member_name, object_members}
use Rattle.entity_id.specs.Identifiers.{host_of}
use Rattle.chain_limits.specs.declared.place.Place.{Place}
use Rattle.chain_limits.specs.Types.{types_allowed}
use Rattle.fed_json.specs.Tables.{Side, sides}
use Rattle.entity_statement.specs.Claims.{Claims}
use Rattle.chain_check.specs.Chains.{below_anchor}

-- what stands under one name: the superior's member, and the entity's own where the superior has none
abbrev pub upper_first : Side Member Member → Option Member
upper_first side = option_or side.upper side.lower

-- the parameters of both in byte order of their names; of two with one name the superior's
unfoldable pub parameters_over : List Member → List Member → List Member
parameters_over upper own = filter_map upper_first (sides member_name member_name upper own)

-- an entity type of the leaf with what the superior says of it
abbrev pub type_over : List Member → Member → Member
type_over upper m = member_of m.name (Object (parameters_over (option_map_or object_members (find m.name upper) []) (object_members m.value)))

-- the leaf's metadata with the superior's over it, for the types that the leaf has
unfoldable pub put_over : Json → Json → Json
put_over upper metadata = Object (map (type_over (object_members upper)) (object_members metadata))

-- the leaf's metadata, with that of the statement about it put over where there is one (section 3.1.1, `metadata`)
unfoldable pub own_metadata : List Claims → Json
own_metadata [] = Object []
own_metadata (leaf ∷ rest) = option_map_or (λ about. put_over about.metadata leaf.metadata) (slice_get rest 0) leaf.metadata

-- what limits speak of: the subjects' hosts and the constraints of the statements below the trust anchor's configuration
abbrev pub place_of : Claims → Place
place_of s = record { host = host_of s.sub; limits = s.constraints }

unfoldable pub limited_places : List Claims → List Place
limited_places chain = map place_of (below_anchor chain)

-- the metadata to which the merged policy is applied
unfoldable pub allowed_metadata : List Claims → Json
allowed_metadata chain = types_allowed (limited_places chain) (own_metadata chain)
