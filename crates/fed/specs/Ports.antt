-- What the outside shows at one moment.
use Rattle.std.specs.Borrow.{MutBor}
use Rattle.cli_commands.specs.Runs.{Views, World, world}
use Rattle.fed_ports.specs.declared.clock.Clock.{Ghosts as ClockShows}
use Rattle.fed_ports.specs.declared.network.Network.{Ghosts as NetworkShows}
use Rattle.fed_ports.specs.declared.sink.Sink.{Ghosts as SinkShows}
use Rattle.fed_ports.specs.declared.source.Source.{Ghosts as SourceShows}
use Rattle.fed_ports.specs.declared.store.Store.{Ghosts as StoreShows}
use Rattle.fed_ports.specs.Times.{clock_at}
use Rattle.fed.specs.Authorities.{Outside, outside}
use Rattle.fed.specs.Registering.{WithInput}
use Rattle.fed.specs.Resolving.{Written}
use Rattle.fed.specs.declared.ports.Ports.{Ports}
use Rattle.fed_serve.specs.Moments.{PeerAt, peer_at}
use Rattle.http_plain.specs.Links.{listening}
use Rattle.node_service.specs.Connections.{service_at}
use Rattle.node_service.specs.Ends.{at_moment}
use Rattle.resolver_service.specs.Batches.{ServiceViews, service_views}

-- ---- a service

-- what the sink, the store, the network and the clock show of themselves
pub record NodeViews (K D N C P : Type 0) : Type 1 where
  pub sink : SinkShows K
  pub files : StoreShows D
  pub net : NetworkShows N P
  pub moments : ClockShows C

abbrev pub node_views : {K D N C P : Type 0} → SinkShows K → StoreShows D → NetworkShows N P → ClockShows C → NodeViews K D N C P
node_views sink files net moments = record { sink = sink; files = files; net = net; moments = moments }

abbrev pub node_seen : {K D N C P : Type 0} → NodeViews K D N C P → K → D → N → C → Outside P
node_seen shown out store net clock =
    outside (shown.sink.held out) (shown.sink.write_faults out)
    (at_moment (shown.files.files store)
    (service_at (shown.net.port net) (shown.net.callers net) (shown.net.settled net)
    (clock_at (shown.moments.readings clock) (shown.moments.last clock) (shown.moments.told clock)))
    (shown.files.store_faults store) (shown.net.faults net))
    (shown.net.exchanges net)

-- a peer, from what it shows
abbrev pub peer_seen : {P : Type 0} → SourceShows P → SinkShows P → P → PeerAt
peer_seen source sink peer = peer_at (source.left peer) (sink.held peer) (source.read_faults peer) (sink.write_faults peer)

-- peers, clocks and networks, from what they show
abbrev pub all_views : {P N C : Type 0} → SourceShows P → SinkShows P → NetworkShows N P → ClockShows C → ServiceViews P N C
all_views source sink shown moments =
    service_views (peer_seen source sink) (λ clock. clock_at (moments.readings clock) (moments.last clock) (moments.told clock)) shown.exchanges shown.faults
    (λ net. listening (shown.port net) (shown.callers net) (shown.settled net))

-- the outside with the input
abbrev pub with_input : {S P : Type 0} → SourceShows S → S → Outside P → WithInput P
with_input shows input outside = record { left = shows.left input; read_faults = shows.read_faults input; outside = outside }

-- the output alone
abbrev pub written_to : {K : Type 0} → SinkShows K → K → Written
written_to shows out = record { held = shows.held out; faults = shows.write_faults out }

-- ---- all ports of a call, as it finds them and as it leaves them

-- what a call leaves of five ports
abbrev pub LeftPorts : Type 0 → Type 0 → Type 0 → Type 0 → Type 0 → Type 0
LeftPorts S K D N C = MutBor S × (MutBor K × (MutBor D × (MutBor N × (MutBor C × Unit {0}))))

abbrev pub ports_found : {S K D N C P : Type 0} → NodeViews K D N C P → Ports S K D N C → Outside P
ports_found shown ports = node_seen shown ports.out.now ports.store.now ports.net.now ports.clock.now

abbrev pub ports_left : {S K D N C P : Type 0} → NodeViews K D N C P → LeftPorts S K D N C → Outside P
ports_left shown ports = node_seen shown ports.1.0.now ports.1.1.0.now ports.1.1.1.0.now ports.1.1.1.1.0.now

-- the same where the network isn't wanted
abbrev pub world_found : {S K D N C : Type 0} → Views S K D C → Ports S K D N C → World S D C
world_found shown ports = world shown ports.input.now ports.out.now ports.store.now ports.clock.now

abbrev pub world_left : {S K D N C : Type 0} → Views S K D C → LeftPorts S K D N C → World S D C
world_left shown ports = world shown ports.0.now ports.1.0.now ports.1.1.0.now ports.1.1.1.1.0.now
