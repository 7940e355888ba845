-- How a request that came is handled.
use Rattle.std.specs.Prelude.{Result, Ok, Err}
use Rattle.http_messages.specs.declared.read.ReadEnd.{ReadEnd}
use Rattle.http_messages.specs.declared.read.ReadEnd.TheVariants.{Memory}
use Rattle.http_messages.specs.declared.request.Incoming.{Incoming}
use Rattle.http_messages.specs.declared.request.Incoming.TheVariants.{Asked as Request, NotARequest}
use Rattle.node_requests.specs.declared.asked.Asked.{Asked}
use Rattle.node_requests.specs.declared.asked.Asked.TheVariants as asked
use Rattle.node_requests.specs.declared.change.AnchorChange.{AnchorChange}
use Rattle.node_requests.specs.declared.kind.Kind.{Kind}
use Rattle.node_requests.specs.declared.kind.Kind.TheVariants as kind
use Rattle.node_requests.specs.declared.place.Place.{Place}
use Rattle.resolve_round.specs.declared.request.ResolveRequest.{ResolveRequest}
use Rattle.node_requests.specs.Requests.{AsksFor, AsksNothing, kind_of as kind_asked}
use Rattle.fed_resolver.specs.declared.outcome.Outcome.{Outcome}
use Rattle.fed_serve.specs.Rotations.{Dealing}

pub data Handling : Type 0 where
  -- memory was wanting before the request was known
  unread : Handling
  -- the bytes are no request of this node
  not_asked : Handling
  -- the node answers as an authority
  issued : (asked : Asked) → Handling
  -- it resolves by one call, which had this outcome
  resolved : (resolution : ResolveRequest) (outcome : Outcome) → Handling
  -- other keys for a trust anchor are dealt with so
  dealt : (change : AnchorChange) (dealing : Dealing) → Handling

-- the kind of a request
abbrev pub kind_of : Handling → Kind
kind_of unread = kind.Other
kind_of not_asked = kind.Other
kind_of (issued asked) = kind_asked asked
kind_of (resolved resolution outcome) = kind.Resolve
kind_of (dealt change dealing) = kind.AnchorKeys

-- an authority answers it; the others are a resolver's
abbrev pub IsIssued : Asked → Type 0
IsIssued (asked.Resolution resolution) = ⊥
IsIssued (asked.Rotation change) = ⊥
IsIssued other = Unit {0}

-- what came is a request for this at that place
abbrev pub Wants : Place → Result Incoming ReadEnd → Asked → Type 0
Wants place (Ok (Request r)) asked = AsksFor place r asked
Wants place came asked = ⊥

-- what came is no request there: the bytes are none, or the method, the path, the parameters or the body aren't those of one
abbrev pub WantsNothing : Place → Result Incoming ReadEnd → Type 0
WantsNothing place (Ok (Request r)) = AsksNothing place r
WantsNothing place (Ok NotARequest) = Unit {0}
WantsNothing place came = ⊥

-- memory may be wanting before the request is known
abbrev pub MayBeUnread : Result Incoming ReadEnd → Type 0
MayBeUnread (Ok (Request r)) = Unit {0}
MayBeUnread (Err Memory) = Unit {0}
MayBeUnread came = ⊥

-- what came is handled so at that place; what didn't come whole isn't handled
abbrev pub Handles : Place → Result Incoming ReadEnd → Handling → Type 0
Handles place came unread = MayBeUnread came
Handles place came not_asked = WantsNothing place came
Handles place came (issued asked) = Wants place came asked × IsIssued asked
Handles place came (resolved resolution outcome) = Wants place came (asked.Resolution resolution)
Handles place came (dealt change dealing) = Wants place came (asked.Rotation change)
