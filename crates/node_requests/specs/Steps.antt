-- What the parts of reading a request know of one another; no public clause cites it.
use Rattle.std.specs.Prelude.{◌≡◌, ℕ, List, [], ◌∷◌, codes, bytes_eq, Bool, false, Option, Some, None, option_map, if◌then◌else◌}
use Rattle.std.specs.Option.{option_map_or}
use Rattle.std.specs.Str.{IsUtf8}
use Rattle.fed_base.specs.Values.{◌>>=◌}
use Rattle.fed_json.specs.declared.tree.Json.{Json}
use Rattle.fed_json.specs.declared.tree.Member.{Member}
use Rattle.fed_json.specs.Reading.{tree_in}
use Rattle.fed_json.specs.Trees.{as_object, count_below, find}
use Rattle.jws_form.specs.declared.compact.Compact.{Compact}
use Rattle.jwk_set.specs.declared.jwk.Jwk.{Jwk}
use Rattle.jwk_set.specs.declared.set.JwkSet.{JwkSet}
use Rattle.entity_id.specs.Identifiers.{identifier_of}
use Rattle.entity_statement.specs.Claims.{Identifier}
use Rattle.entity_statement.specs.Forms.{identifier}
use Rattle.http_messages.specs.declared.request.Method.{Method}
use Rattle.http_messages.specs.declared.request.Method.TheVariants.{Get, Post}
use Rattle.http_messages.specs.declared.request.Pair.{Pair}
use Rattle.http_messages.specs.declared.request.Request.{Request}
use Rattle.http_plain.specs.Requests.{pairs_of}
use Rattle.node_config.specs.Subordinates.{keys_of}
use Rattle.authority_core.specs.declared.query.ListQuery.{ListQuery}
use Rattle.node_requests.specs.declared.asked.Asked.{Asked}
use Rattle.node_requests.specs.declared.asked.Asked.TheVariants as asked
use Rattle.node_requests.specs.declared.change.Stated.{Stated}
use Rattle.node_requests.specs.declared.kind.Kind.{Kind}
use Rattle.node_requests.specs.declared.kind.Kind.TheVariants as kind
use Rattle.node_requests.specs.declared.parameters.Found.{Found}
use Rattle.node_requests.specs.declared.parameters.Found.TheVariants.{Absent, Once, Again}
use Rattle.resolve_round.specs.declared.request.ResolveRequest.{ResolveRequest}
use Rattle.node_requests.specs.Changes.{IsAnchorChange, StatesNone, anchor_keys_type, epoch_limit}
use Rattle.node_requests.specs.Parameters.{at_most_once, flag_of, once, values_of}

-- ---- parameters

-- the value of a pair is UTF-8
abbrev pub HasUtf8Value : Pair → Type 0
HasUtf8Value pair = IsUtf8 pair.value

-- how often a parameter stands, and its value where it stands once
abbrev pub IsFound : Found → List (List ℕ) → Type 0
IsFound Absent values = values ≡ []
IsFound (Once value) values = values ≡ value.now ∷ []
IsFound Again values = (v : List ℕ) × (w : List ℕ) × (vs : List (List ℕ)) × (values ≡ v ∷ w ∷ vs)

-- the identifier that a parameter is which stands exactly once
abbrev pub identifier_once : List (List ℕ) → Option Identifier
identifier_once values = once values >>= identifier_of

-- ---- the kind

-- the kind of a request by its method and what stands behind the node's path
abbrev pub kind_named : Method → List ℕ → Kind
kind_named Get rest =
    if bytes_eq rest (codes "/.well-known/openid-federation") then kind.Configuration
    else (if bytes_eq rest (codes "/fetch") then kind.Fetch
    else (if bytes_eq rest (codes "/list") then kind.List
    else (if bytes_eq rest (codes "/historical-keys") then kind.HistoricalKeys
    else (if bytes_eq rest (codes "/resolve") then kind.Resolve else kind.Other))))
kind_named Post rest =
    if bytes_eq rest (codes "/trust-mark-status") then kind.Status
    else (if bytes_eq rest (codes "/anchor-keys") then kind.AnchorKeys else kind.Other)

-- the kind, where a node has it
abbrev pub kind_had : Bool → Kind → Kind
kind_had resolves kind.Resolve = if resolves then kind.Resolve else kind.Other
kind_had resolves kind.AnchorKeys = if resolves then kind.AnchorKeys else kind.Other
kind_had resolves k = k

abbrev pub kind_at : Bool → Method → List ℕ → Kind
kind_at resolves method rest = kind_had resolves (kind_named method rest)

-- ---- what is asked, by its kind

abbrev pub fetch_in : List Pair → Option Asked
fetch_in pairs = option_map asked.Fetch (once (values_of (codes "sub") pairs))

abbrev pub status_in : List ℕ → Option Asked
status_in body = option_map asked.Status (once (values_of (codes "trust_mark") (pairs_of body)))

unfoldable pub query_in : List Pair → Option ListQuery
query_in pairs =
    flag_of (values_of (codes "trust_marked") pairs) >>= λ trust_marked.
    flag_of (values_of (codes "intermediate") pairs) >>= λ intermediate.
    at_most_once (values_of (codes "trust_mark_type") pairs) >>= λ mark_type.
    Some (record {
      types = values_of (codes "entity_type") pairs;
      trust_marked = trust_marked;
      mark_type = mark_type;
      intermediate = intermediate;
    })

unfoldable pub resolution_in : List Pair → Option ResolveRequest
resolution_in pairs =
    identifier_once (values_of (codes "sub") pairs) >>= λ sub.
    identifier_once (values_of (codes "trust_anchor") pairs) >>= λ anchor.
    Some (record { sub = sub; anchor = anchor; types = values_of (codes "entity_type") pairs })

-- the body asks for these other keys, or for none
abbrev pub IsRotation : List ℕ → Option Asked → Type 0
IsRotation body None = StatesNone body
IsRotation body (Some (asked.Rotation change)) = IsAnchorChange body change
IsRotation body (Some other) = ⊥

-- a request of that kind asks for this
abbrev pub IsAskedBy : Kind → Request → Option Asked → Type 0
IsAskedBy kind.Configuration r o = o ≡ Some asked.Configuration
IsAskedBy kind.Fetch r o = o ≡ fetch_in r.pairs
IsAskedBy kind.List r o = o ≡ option_map asked.List (query_in r.pairs)
IsAskedBy kind.HistoricalKeys r o = o ≡ Some asked.HistoricalKeys
IsAskedBy kind.Status r o = o ≡ status_in r.body
IsAskedBy kind.Resolve r o = o ≡ option_map asked.Resolution (resolution_in r.pairs)
IsAskedBy kind.AnchorKeys r o = IsRotation r.body o
IsAskedBy kind.Other r o = o ≡ None

-- ---- other keys for a trust anchor

-- the keys of a set
abbrev pub told_keys : JwkSet → List Jwk
told_keys set = set.keys

-- what the claims of such a text state, the key set by its keys
pub record StatedClaims : Type 0 where
  pub anchor : Identifier
  pub epoch : ℕ
  pub keys : List Jwk

abbrev pub told_stated : Stated → StatedClaims
told_stated s = record { anchor = s.anchor; epoch = s.epoch; keys = told_keys s.keys }

-- the header's type is the one of such a text
abbrev pub has_type : Option (List ℕ) → Bool
has_type typ = option_map_or (λ t. bytes_eq t anchor_keys_type) typ false

-- the payload of such a text
unfoldable pub payload_in : Compact → Option Json
payload_in c = if has_type c.typ then tree_in c.payload else None

-- its claims, one by one
abbrev pub anchor_at : List Member → Option Identifier
anchor_at members = find (codes "anchor") members >>= identifier

abbrev pub epoch_at : List Member → Option ℕ
epoch_at members = find (codes "epoch") members >>= count_below epoch_limit

abbrev pub keys_at : List Member → Option (List Jwk)
keys_at members = find (codes "jwks") members >>= keys_of

unfoldable pub claims_of : List Member → Option StatedClaims
claims_of members =
    anchor_at members >>= λ anchor.
    epoch_at members >>= λ epoch.
    keys_at members >>= λ keys.
    Some (record { anchor = anchor; epoch = epoch; keys = keys })

abbrev pub claims_in : Json → Option StatedClaims
claims_in tree = as_object tree >>= claims_of

unfoldable pub stated_in : Compact → Option StatedClaims
stated_in c = payload_in c >>= claims_in
