-- What a node is, in lines: what its configuration sets, its keys, its trust marks, what it serves where, and what ends soon.
use Rattle.std.specs.Prelude.{ℕ, List, [], ◌∷◌, ◌++◌, flat_map, slice_index_or, codes, decimal, Bool, Option, Some, None, is_some, if◌then◌else◌}
use Rattle.std.specs.Option.{option_map_or}
use Rattle.authority_core.specs.Endpoints.{endpoint, has_any}
use Rattle.entity_id.specs.Urls.{well_known_of}
use Rattle.entity_statement.specs.Claims.{Identifier}
use Rattle.entity_statement.specs.declared.marks.MarkEntry.{MarkEntry}
use Rattle.fed_ports.specs.declared.address.Address.{Address}
use Rattle.http_plain.specs.declared.route.Route.{Route}
use Rattle.jws_form.specs.Header.{algorithm}
use Rattle.key_ring.specs.Files.{reason_word}
use Rattle.key_ring.specs.declared.key.KeyState.{KeyState}
use Rattle.key_ring.specs.declared.key.KeyState.TheVariants.{Live, Retired, Revoked}
use Rattle.key_ring.specs.declared.term.KeyTerm.{KeyTerm}
use Rattle.node_config.specs.Nodes.{Anchor, Bounds, Resolver, Settings, Subordinate}
use Rattle.trust_mark.specs.Marks.{mark_of}
use Rattle.trust_mark.specs.declared.mark.Mark.{Mark}
use Rattle.plain_notes.specs.Moments.{moment_text}
use Rattle.plain_notes.specs.Strings.{string}
use Rattle.config_summary.specs.Ends.{end_line}
use Rattle.config_summary.specs.Marks.{entries_of}

-- words, and what stands behind them, on a line
abbrev pub line : List ℕ → List ℕ → List ℕ
line words what = words ++ (what ++ 10 ∷ [])

-- ---- keys

-- what a key is for, and until when or since when (OpenID Federation 1.0 section 8.7)
abbrev pub state_words : ℕ → KeyState → List ℕ
state_words exp Live = codes " live until " ++ moment_text exp
state_words exp Retired = codes " retired until " ++ moment_text exp
state_words exp (Revoked at reason) = codes " revoked since " ++ (moment_text at ++ (codes ", " ++ reason_word reason))

-- its name and its algorithm (RFC 7517 sections 4.4 and 4.5) before that
abbrev pub key_line : KeyTerm → List ℕ
key_line key = line (codes "key ") (key.kid ++ (32 ∷ (algorithm key.alg ++ state_words key.exp key.state)))

-- ---- trust marks

abbrev pub end_words : Option ℕ → List ℕ
end_words (Some exp) = codes " until " ++ moment_text exp
end_words None = codes " without an end"

-- the type of a mark and who issued it (section 7.1)
abbrev pub mark_words : MarkEntry → Mark → List ℕ
mark_words entry mark = string entry.mark_type ++ (codes " by " ++ mark.iss)

abbrev pub mark_line : MarkEntry → List ℕ
mark_line entry = option_map_or (λ mark. line (codes "mark ") (mark_words entry mark ++ end_words mark.exp)) (mark_of entry.text) []

-- ---- other entities

abbrev pub subordinate_line : Subordinate → List ℕ
subordinate_line s = line (codes "subordinate ") s.entity.id

-- how far searches up to an anchor go
abbrev pub bound_words : Bounds → List ℕ
bound_words bounds =
    codes " depth " ++ (decimal bounds.depth ++ (codes " calls " ++ (decimal bounds.calls ++ (codes " paths " ++ decimal bounds.paths))))

abbrev pub anchor_line : Anchor → List ℕ
anchor_line anchor = line (codes "anchor ") (anchor.entity.id ++ bound_words anchor.bounds)

-- the four numbers of an address, and its port
abbrev pub address_text : Address → List ℕ
address_text address =
    decimal (slice_index_or address.ip 0 0) ++ (46 ∷ (decimal (slice_index_or address.ip 1 0) ++ (46 ∷ (decimal (slice_index_or address.ip 2 0)
    ++ (46 ∷ (decimal (slice_index_or address.ip 3 0) ++ (58 ∷ decimal address.port)))))))

abbrev pub route_line : Route → List ℕ
route_line route = line (codes "route ") (string route.host ++ (codes " to " ++ address_text route.to))

abbrev pub resolver_lines : Resolver → List ℕ
resolver_lines resolver = flat_map anchor_line resolver.anchors ++ flat_map route_line resolver.routes

-- ---- what is served

abbrev pub served : Identifier → List ℕ → List ℕ
served id path = line (codes "serves ") (endpoint id path)

abbrev pub served_where : Bool → List ℕ → List ℕ
served_where here lines = if here then lines else []

-- the endpoints of a node with subordinates, and that of one that resolves
abbrev pub superior_lines : Settings → List ℕ
superior_lines settings = served_where (has_any settings.subordinates) (served settings.id (codes "/fetch") ++ served settings.id (codes "/list"))

abbrev pub resolving_lines : Settings → List ℕ
resolving_lines settings = served_where (is_some settings.resolver) (served settings.id (codes "/resolve"))

-- the URLs of the configuration and of the endpoints that it tells (sections 5.1.1 and 9)
abbrev pub served_lines : Settings → List ℕ
served_lines settings =
    line (codes "serves ") (well_known_of settings.id)
    ++ (superior_lines settings ++ (resolving_lines settings ++ (served settings.id (codes "/historical-keys") ++ served settings.id (codes "/trust-mark-status"))))

-- ---- what ends soon

-- of keys the live ones
abbrev pub end_in : KeyState → List ℕ → List ℕ
end_in Live line = line
end_in Retired line = []
end_in (Revoked at reason) line = []

abbrev pub key_end : ℕ → KeyTerm → List ℕ
key_end moment key = end_in key.state (end_line moment (codes "key " ++ key.kid) key.exp)

-- of marks those with an end
abbrev pub mark_end_at : ℕ → MarkEntry → Mark → Option ℕ → List ℕ
mark_end_at moment entry mark (Some exp) = end_line moment (codes "mark " ++ mark_words entry mark) exp
mark_end_at moment entry mark None = []

abbrev pub mark_end : ℕ → MarkEntry → List ℕ
mark_end moment entry = option_map_or (λ mark. mark_end_at moment entry mark mark.exp) (mark_of entry.text) []

-- ---- all of it

abbrev pub entity_lines : Settings → List ℕ
entity_lines settings = line (codes "entity ") settings.id ++ line (codes "lifetime ") (decimal settings.lifetime)

-- its marks, the entities that it knows, and what it serves
abbrev pub parts : Settings → List MarkEntry → List ℕ
parts settings marks =
    flat_map mark_line marks ++ (flat_map subordinate_line settings.subordinates ++ (option_map_or resolver_lines settings.resolver [] ++ served_lines settings))

abbrev pub ends : ℕ → List KeyTerm → List MarkEntry → List ℕ
ends moment keys marks = flat_map (key_end moment) keys ++ flat_map (mark_end moment) marks

-- with what has ended at a moment, or ends within 30 days of it
unfoldable pub summary : ℕ → Settings → List KeyTerm → List ℕ
summary moment settings keys =
    entity_lines settings ++ (flat_map key_line keys ++ (parts settings (entries_of settings.claims.marks) ++ ends moment keys (entries_of settings.claims.marks)))
