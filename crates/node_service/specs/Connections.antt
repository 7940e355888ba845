-- Connections that are accepted, served and settled, one after the other.
use Rattle.std.specs.Prelude.{◌≡◌, ◌<◌, ℕ, List, [], ◌∷◌, length, map, Option, Some, None, Result}
use Rattle.std.specs.List.{AllByRecursion}
use Rattle.fed_ports.specs.Lists.{Added, Gave}
use Rattle.fed_ports.specs.declared.clock.Clock.{Ghosts as ClockGhosts}
use Rattle.fed_ports.specs.declared.network.Network.{Ghosts as NetworkGhosts}
use Rattle.fed_ports.specs.declared.sink.Sink.{Ghosts as SinkGhosts}
use Rattle.fed_ports.specs.declared.source.Source.{Ghosts as SourceGhosts}
use Rattle.fed_ports.specs.Times.{ClockAt, clock_at}
use Rattle.authority_core.specs.Nodes.{Node as Authority}
use Rattle.resolve_reply.specs.declared.reply.Reply.{Reply}
use Rattle.resolve_round.specs.declared.trace.Trace.{Trace}
use Rattle.fed_resolver.specs.declared.outcome.Refusal.{Refusal}
use Rattle.fed_serve.specs.Resolutions.{CallAt}
use Rattle.fed_serve.specs.declared.node.Node.{Node}
use Rattle.fed_serve.specs.Moments.{PeerAt, around, peer_at}
use Rattle.fed_serve.specs.Serving.{Serves as ServesOne}
use Rattle.fed_serve.specs.declared.served.Served.{Served}
use Rattle.fed_serve.specs.declared.serving.ServeFault.{ServeFault}

-- one connection: the peer as it was accepted and as it was settled, the clock and what else a connection is served with before and after,
-- and what serving it told
pub record Connection (P A : Type 0) : Type 0 where
  pub came : P
  pub gone : P
  pub clock : ClockAt
  pub clock' : ClockAt
  pub call : CallAt
  pub call' : CallAt
  pub result : A

abbrev pub came_of : {P A : Type 0} → Connection P A → P
came_of c = c.came

abbrev pub gone_of : {P A : Type 0} → Connection P A → P
gone_of c = c.gone

-- a service at one moment: the port that it listens on, the callers to come and those that were settled, where the network tells them,
-- and the clock
pub record ServiceAt (P : Type 0) : Type 0 where
  pub port : Option ℕ
  pub callers : Option (List P)
  pub settled : Option (List P)
  pub clock : ClockAt

abbrev pub service_at : {P : Type 0} → Option ℕ → Option (List P) → Option (List P) → ClockAt → ServiceAt P
service_at port callers settled clock = record { port = port; callers = callers; settled = settled; clock = clock }

-- the same, as a network and a clock show themselves
abbrev pub service_seen : {N P C : Type 0} → NetworkGhosts N P → ClockGhosts C → N → C → ServiceAt P
service_seen network times net clock =
    service_at (network.port net) (network.callers net) (network.settled net) (clock_at (times.readings clock) (times.last clock) (times.told clock))

-- a peer as it shows itself
abbrev pub peer_seen : {P : Type 0} → SourceGhosts P → SinkGhosts P → P → PeerAt
peer_seen source sink peer = peer_at (source.left peer) (sink.held peer) (source.read_faults peer) (sink.write_faults peer)

-- the same service, where it listens on this port
abbrev pub on_port : {P : Type 0} → ℕ → ServiceAt P → ServiceAt P
on_port port service = record service { port = Some port }

-- the authority, which doesn't resolve
abbrev pub alone : Authority → Node
alone registry = record { registry = registry; resolver = None }

-- nothing is said of a link that isn't called
abbrev pub uncalled : Trace → Result Reply Refusal → Type 0
uncalled trace result = Unit {0}

-- the authority answered the one request of the connection, whose peers are seen so
abbrev pub IsAnswered : {P : Type 0} → (P → PeerAt) → Authority → Connection P (Result Served ServeFault) → Type 0
IsAnswered at node c = ServesOne (alone node) uncalled (around (at c.came) c.clock c.call) (around (at c.gone) c.clock' c.call') c.result

-- a connection with these peers and clocks was answered
abbrev pub Attends : {P A : Type 0} → (Connection P A → Type 0) → P → P → ClockAt → ClockAt → Type 0
Attends {P} {A} answered came gone clock clock' = (call : CallAt) × (call' : CallAt) × (told : A)
    × answered (record { came = came; gone = gone; clock = clock; clock' = clock'; call = call; call' = call'; result = told })

-- one clock is read by each connection in turn, and by nothing else
abbrev pub ReadInTurn : {P A : Type 0} → ClockAt → List (Connection P A) → ClockAt → Type 0
ReadInTurn before [] now = now ≡ before
ReadInTurn before (c ∷ cs) now = (c.clock ≡ before) × ReadInTurn c.clock' cs now

-- `answers` says how an authority answers a connection
module _ {P A : Type 0} (answers : Authority → Connection P A → Type 0) where
  -- these connections, the first of the callers to come, were accepted, answered and settled in order
  pub record AreServed (node : Authority) (connections : List (Connection P A)) (before now : ServiceAt P) : Type 0 where
    pub port : now.port ≡ before.port
    pub accepted : Gave before.callers (map came_of connections) now.callers
    pub answered : AllByRecursion (answers node) connections
    pub settled : Added before.settled (map gone_of connections) now.settled
    pub clocks : ReadInTurn before.clock connections now.clock

  -- so many were
  abbrev pub Serves : Authority → ℕ → ServiceAt P → ServiceAt P → Type 0
  Serves node n before now = (connections : List (Connection P A)) × (length connections ≡ n) × AreServed node connections before now

  -- fewer than so many were
  pub record ServesFewer (node : Authority) (n : ℕ) (before now : ServiceAt P) : Type 0 where
    pub count : ℕ
    pub fewer : count < n
    pub served : Serves node count before now

  -- the next connection was accepted and answered, and then dropped in place of being settled
  pub record DropsNext (node : Authority) (before now : ServiceAt P) : Type 0 where
    pub connection : Connection P A
    pub port : now.port ≡ before.port
    pub accepted : Gave before.callers (connection.came ∷ []) now.callers
    pub answered : answers node connection
    pub settled : now.settled ≡ before.settled
    pub clocks : ReadInTurn before.clock (connection ∷ []) now.clock

  -- fewer than so many were, and the next one was dropped
  pub record ServesAndDrops (node : Authority) (n : ℕ) (before now : ServiceAt P) : Type 0 where
    pub then : ServiceAt P
    pub served : ServesFewer node n before then
    pub dropped : DropsNext node then now
