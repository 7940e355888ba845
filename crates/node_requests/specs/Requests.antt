-- Which request of a node a method, a path, parameters and a body are (OpenID Federation 1.0 sections 8 and 9).
use Rattle.std.specs.Prelude.{◌≡◌, ℕ, List, ◌++◌, codes, IsTrue, Some}
use Rattle.std.specs.Str.{IsUtf8}
use Rattle.jws_form.specs.Compact.{IsCompact}
use Rattle.entity_id.specs.Identifiers.{IsIdentifier}
use Rattle.entity_statement.specs.Claims.{Identifier}
use Rattle.http_messages.specs.declared.request.Method.{Method}
use Rattle.http_messages.specs.declared.request.Method.TheVariants.{Get, Post}
use Rattle.http_messages.specs.declared.request.Pair.{Pair}
use Rattle.http_messages.specs.declared.request.Request.{Request}
use Rattle.http_plain.specs.Requests.{pairs_of}
use Rattle.authority_core.specs.declared.query.ListQuery.{ListQuery}
use Rattle.node_requests.specs.declared.asked.Asked.{Asked}
use Rattle.node_requests.specs.declared.asked.Asked.TheVariants.{Configuration, Fetch, List as ListOf, HistoricalKeys, Status, Resolution as ResolutionOf, Rotation}
use Rattle.node_requests.specs.declared.kind.Kind.{Kind}
use Rattle.node_requests.specs.declared.kind.Kind.TheVariants as kind
use Rattle.node_requests.specs.declared.place.Place.{Place}
use Rattle.resolve_round.specs.declared.request.ResolveRequest.{ResolveRequest}
use Rattle.node_requests.specs.Changes.{IsAnchorChange}
use Rattle.node_requests.specs.Parameters.{at_most_once, flag_of, once, values_of}

-- the method and the path of a request
abbrev pub IsAt : Request → Method → List ℕ → Type 0
IsAt r method path = (r.method ≡ method) × (r.path ≡ path)

-- the parameter stands exactly once, with that value
abbrev pub HasOnce : List Pair → List ℕ → List ℕ → Type 0
HasOnce pairs name value = once (values_of name pairs) ≡ Some value

-- the parameter stands exactly once, and is that identifier (section 1.2)
abbrev pub NamesOnce : List Pair → List ℕ → Identifier → Type 0
NamesOnce pairs name id = HasOnce pairs name id × IsIdentifier id

-- the filters of a list of subordinates (section 8.2.1)
pub record IsListQuery (pairs : List Pair) (query : ListQuery) : Type 0 where
  pub types : query.types ≡ values_of (codes "entity_type") pairs
  pub trust_marked : flag_of (values_of (codes "trust_marked") pairs) ≡ Some query.trust_marked
  pub mark_type : at_most_once (values_of (codes "trust_mark_type") pairs) ≡ Some query.mark_type
  pub intermediate : flag_of (values_of (codes "intermediate") pairs) ≡ Some query.intermediate

-- the entity that is to be resolved, the trust anchor, and the entity types that are wanted, in order (section 8.3.1)
pub record IsResolution (pairs : List Pair) (resolution : ResolveRequest) : Type 0 where
  pub sub : NamesOnce pairs (codes "sub") resolution.sub
  pub anchor : NamesOnce pairs (codes "trust_anchor") resolution.anchor
  pub types : resolution.types ≡ values_of (codes "entity_type") pairs

-- at that place the request is this one: the node's configuration (section 9), a statement (section 8.1), the list of subordinates
-- (section 8.2), its historical keys (section 8.7), the status of a trust mark (section 8.4); and where the node resolves, a resolved
-- entity (section 8.3), or other keys for a trust anchor
abbrev pub AsksFor : Place → Request → Asked → Type 0
AsksFor place r Configuration = IsAt r Get (place.path ++ codes "/.well-known/openid-federation")
AsksFor place r (Fetch sub) = IsAt r Get (place.path ++ codes "/fetch") × HasOnce r.pairs (codes "sub") sub
AsksFor place r (ListOf query) = IsAt r Get (place.path ++ codes "/list") × IsListQuery r.pairs query
AsksFor place r HistoricalKeys = IsAt r Get (place.path ++ codes "/historical-keys")
AsksFor place r (Status mark) = IsAt r Post (place.path ++ codes "/trust-mark-status") × HasOnce (pairs_of r.body) (codes "trust_mark") mark
AsksFor place r (ResolutionOf resolution) = IsAt r Get (place.path ++ codes "/resolve") × IsResolution r.pairs resolution × IsTrue place.resolves
AsksFor place r (Rotation change) = IsAt r Post (place.path ++ codes "/anchor-keys") × IsAnchorChange r.body change × IsTrue place.resolves

-- it is none of them
abbrev pub AsksNothing : Place → Request → Type 0
AsksNothing place r = (asked : Asked) → ¬ AsksFor place r asked

-- its kind
abbrev pub kind_of : Asked → Kind
kind_of Configuration = kind.Configuration
kind_of (Fetch sub) = kind.Fetch
kind_of (ListOf query) = kind.List
kind_of HistoricalKeys = kind.HistoricalKeys
kind_of (Status mark) = kind.Status
kind_of (ResolutionOf resolution) = kind.Resolve
kind_of (Rotation change) = kind.AnchorKeys

-- what those who answer ask of its texts: a trust mark is UTF-8, and the body that states other keys is the text of its parts
abbrev pub IsFormed : Asked → Type 0
IsFormed (Status mark) = IsUtf8 mark
IsFormed (Rotation change) = IsCompact change.body.whole change.body
IsFormed asked = Unit {0}
