-- Batches of connections: a desk for each connection, and one pass that takes in what the passes of all desks have seen and done.
use Rattle.std.specs.Prelude.{◌≡◌, ◌-◌, ℕ, List, [], ◌∷◌, ◌++◌, length, map, min, All, Bool, true, false, Option, Some, None, IfSome, Result, Err}
use Rattle.fed_base.specs.Ledgers.{plain_count}
use Rattle.fed_base.specs.declared.ledger.Plain.{Plain}
use Rattle.fed_ports.specs.Exchanges.{Exchange}
use Rattle.fed_ports.specs.Lists.{Added, Gave}
use Rattle.fed_ports.specs.Times.{ClockAt, IsOneReading}
use Rattle.http_plain.specs.declared.link.HttpLink.{HttpLink}
use Rattle.http_plain.specs.declared.route.Route.{Route}
use Rattle.http_plain.specs.Links.{Listening, link_calls, link_network, link_routes}
use Rattle.turn_log.specs.Groups.{AreJoined, IsSame, known}
use Rattle.statement_shelf.specs.Passes.{CommonsKnown, IsShelfCall}
use Rattle.statement_shelf.specs.declared.calls.ShelfCall.TheVariants.{Purge}
use Rattle.statement_shelf.specs.declared.calls.ShelfReply.{ShelfReply}
use Rattle.fed_serve.specs.Resolutions.{call_at}
use Rattle.fed_serve.specs.declared.desk.Desk.{Desk}
use Rattle.fed_serve.specs.declared.node.Node.{Node}
use Rattle.fed_serve.specs.declared.served.Served.{Served}
use Rattle.fed_serve.specs.declared.serving.ServeFault.{ServeFault}
use Rattle.fed_serve.specs.declared.serving.ServeFault.TheVariants.{Worn}
use Rattle.fed_serve.specs.Desks.{AreServedAt, IsServedAt, Views, views_of}
use Rattle.http_plain.specs.Networks.{NetworkAt}
use Rattle.fed_serve.specs.Moments.{PeerAt}
use Rattle.resolve_call.specs.Exchanged.{link_gave}
use Rattle.resolver_service.specs.Passes.{AreShared, HasNoCalls}

-- ---- one moment

-- how far serving has come: the network, and what the pass knows of the shared objects
pub record Progress (P : Type 0) : Type 0 where
  pub net : NetworkAt P
  pub known : CommonsKnown

-- the same with the clock
pub record Standing (P : Type 0) : Type 0 where
  pub progress : Progress P
  pub clock : ClockAt

abbrev pub progress : {P : Type 0} → NetworkAt P → CommonsKnown → Progress P
progress net known = record { net = net; known = known }

abbrev pub standing : {P : Type 0} → NetworkAt P → CommonsKnown → ClockAt → Standing P
standing net known clock = record { progress = progress net known; clock = clock }

-- ---- passes

-- other passes were joined to one, one after the other
abbrev pub JoinedInTurn : CommonsKnown → List CommonsKnown → CommonsKnown → Type 0
JoinedInTurn first [] now = now ≡ first
JoinedInTurn first (other ∷ others) now = (next : CommonsKnown) × AreJoined first other next × JoinedInTurn next others now

-- ---- desks

-- a shared object was worn
abbrev pub is_worn : Option (Result Served ServeFault) → Bool
is_worn (Some (Err (Worn count))) = true
is_worn result = false

-- the peer, where there is one
abbrev pub peers_of : {P : Type 0} → Option P → List P
peers_of None = []
peers_of (Some peer) = peer ∷ []

module _ {P L C G : Type 0} where
  -- the peers that are at these desks, in order
  abbrev pub peers_at : List (Desk P L C G) → List P
  peers_at [] = []
  peers_at (desk ∷ desks) = peers_of desk.peer ++ peers_at desks

  -- what the pass of a desk knows
  abbrev pub known_at : Desk P L C G → CommonsKnown
  known_at desk = known desk.pass

  -- the peers at these desks were settled, in order; no shared object was worn; and the passes were joined to one
  pub record AreEnded (desks : List (Desk P L C G)) (before now : Progress P) : Type 0 where
    pub unworn : All (λ desk. is_worn desk.result ≡ false) desks
    pub settled : Added before.net.settled (peers_at desks) now.net.settled
    pub joined : JoinedInTurn before.known (map known_at desks) now.known

  -- the next callers were accepted, one for each desk, each served there, and then settled
  pub record ServesDesks (views : Views P L C G) (node : Node) (desks : List (Desk P L C G)) (before now : Progress P) : Type 0 where
    pub peers : List P
    pub served : List (Desk P L C G)
    pub accepted : Gave before.net.callers peers now.net.callers
    pub all : length peers ≡ length desks
    pub each : AreServedAt (IsServedAt views node) peers desks served
    pub ended : AreEnded served before now
    -- else the network is as before
    pub port : now.net.port ≡ before.net.port
    pub exchanges : now.net.exchanges ≡ before.net.exchanges
    pub faults : now.net.faults ≡ before.net.faults

-- ---- batches

-- how peers, clocks and networks are seen: a network's exchanges, where it tells them, how often a call of it has failed, and how it
-- listens
pub record ServiceViews (P N C : Type 0) : Type 0 where
  pub peer : P → PeerAt
  pub clock : C → ClockAt
  pub exchanges : N → Option (List Exchange)
  pub faults : N → ℕ
  pub listens : N → Listening P

abbrev pub service_views : {P N C : Type 0} → (P → PeerAt) → (C → ClockAt) → (N → Option (List Exchange)) → (N → ℕ) → (N → Listening P) → ServiceViews P N C
service_views peer clock exchanges faults listens = record { peer = peer; clock = clock; exchanges = exchanges; faults = faults; listens = listens }

-- the same at desks that get pages over a network of their own
abbrev pub at_desks : {P N C : Type 0} → ServiceViews P N C → Views P (HttpLink N) C Plain
at_desks views =
    views_of views.peer views.clock (λ known link ledger. call_at known None (link_calls link) (views.faults (link_network link)) (plain_count ledger)) (link_gave views.exchanges views.listens)

-- what a resolver serves with: the node, and where it reaches hosts
pub record Setup (P N C : Type 0) : Type 0 where
  pub views : ServiceViews P N C
  pub node : Node
  pub routes : List Route

abbrev pub setup : {P N C : Type 0} → ServiceViews P N C → Node → List Route → Setup P N C
setup views node routes = record { views = views; node = node; routes = routes }

-- a batch: the desks as they were made, and how serving stood before and after
pub record Batch (P N C : Type 0) : Type 0 where
  pub before : Standing P
  pub desks : List (Desk P (HttpLink N) C Plain)
  pub now : Standing P

module _ {P N C : Type 0} where
  -- a desk at which nobody was served yet: it has no peer, its pass was split off and has made no call, its link goes by the routes and had
  -- no call, over a network that had no exchange, its ledger has counted nothing, and its clock wasn't read
  pub record IsNewDesk (views : ServiceViews P N C) (routes : List Route) (split : CommonsKnown) (desk : Desk P (HttpLink N) C Plain) : Type 0 where
    pub free : desk.peer ≡ None
    pub pass : HasNoCalls split (known desk.pass)
    pub routed : link_routes desk.link ≡ routes
    pub silent : IfSome (views.exchanges (link_network desk.link)) (λ told. told ≡ [])
    pub uncalled : (at_desks views).call (known desk.pass) desk.link desk.steps.ledger ≡ call_at (known desk.pass) None 0 0 0
    pub unread : (views.clock desk.clock).count ≡ 0

  -- the clock was read once, and what was stale at that moment dropped from the cache; desks were made, with a pass for each that was split
  -- from the one pass, which has shared with them alone, and a connection was served at each; and their passes were joined to it
  pub record IsBatch (s : Setup P N C) (b : Batch P N C) : Type 0 where
    pub clock : IsOneReading b.before.clock b.now.clock
    pub dropped : ShelfReply
    pub purged : CommonsKnown
    pub purge : IsShelfCall (Purge b.now.clock.last) dropped b.before.progress.known purged
    pub new : All (IsNewDesk s.views s.routes purged) b.desks
    pub split : CommonsKnown
    pub same : IsSame purged split
    pub shared : AreShared purged (split ∷ map known_at b.desks)
    pub serves : ServesDesks (at_desks s.views) s.node b.desks (progress b.before.progress.net split) b.now.progress

  -- batches, one after the other
  abbrev pub AreBatches : Setup P N C → Standing P → List (Batch P N C) → Standing P → Type 0
  AreBatches s before [] now = now ≡ before
  AreBatches s before (b ∷ batches) now = (b.before ≡ before) × IsBatch s b × AreBatches s b.now batches now

  -- of so many connections: each batch has as many desks as there are workers, and no more than connections are left; at last so many are
  abbrev pub IsSized : ℕ → ℕ → List (Batch P N C) → ℕ → Type 0
  IsSized workers connections [] left = left ≡ connections
  IsSized workers connections (b ∷ batches) left =
      (length b.desks ≡ min workers connections) × IsSized workers (connections - min workers connections) batches left

  -- so many connections were served, by so many workers at most at once
  abbrev pub ServesAll : Setup P N C → ℕ → ℕ → Standing P → Standing P → Type 0
  ServesAll s workers connections before now = (batches : List (Batch P N C)) × IsSized workers connections batches 0 × AreBatches s before batches now
