-- What the ports of a resolver show at one moment.
use Rattle.fed_base.specs.declared.ledger.Ledger.{Ghosts as LedgerGhosts}
use Rattle.fed_ports.specs.declared.clock.Clock.{Ghosts as ClockGhosts}
use Rattle.fed_ports.specs.declared.link.Link.{Ghosts as LinkGhosts}
use Rattle.fed_ports.specs.declared.network.Network.{Ghosts as NetworkGhosts}
use Rattle.fed_ports.specs.declared.sink.Sink.{Ghosts as SinkGhosts}
use Rattle.fed_ports.specs.declared.source.Source.{Ghosts as SourceGhosts}
use Rattle.http_plain.specs.Networks.{listening_seen, network_seen}
use Rattle.statement_shelf.specs.Passes.{CommonsKnown}
use Rattle.fed_serve.specs.Resolutions.{call_at}
use Rattle.fed_serve.specs.Desks.{Views, views_of}
use Rattle.fed_serve.specs.Moments.{PeerAt, peer_at}
use Rattle.resolver_service.specs.Batches.{Progress, ServiceViews, Standing, progress, service_views, standing}
use Rattle.resolve_call.specs.Ports.{clock_seen}
use Rattle.resolver_service.specs.Ends.{Around, around}

-- ---- one port

abbrev pub peer_seen : {P : Type 0} → SourceGhosts P → SinkGhosts P → P → PeerAt
peer_seen source sink peer = peer_at (source.left peer) (sink.held peer) (source.read_faults peer) (sink.write_faults peer)

-- ---- several of them

-- around a service
abbrev pub around_seen : {N P C : Type 0} → NetworkGhosts N P → ClockGhosts C → N → C → Around P
around_seen shown times net clock = around (network_seen shown net) (clock_seen times clock)

-- how far serving has come, by what the pass knows
abbrev pub progress_seen : {N P : Type 0} → NetworkGhosts N P → N → CommonsKnown → Progress P
progress_seen shown net known = progress (network_seen shown net) known

abbrev pub standing_seen : {N P C : Type 0} → NetworkGhosts N P → ClockGhosts C → N → CommonsKnown → C → Standing P
standing_seen shown times net known clock = standing (network_seen shown net) known (clock_seen times clock)

-- ---- how they are seen

abbrev pub views_by : {N P C : Type 0} → NetworkGhosts N P → SourceGhosts P → SinkGhosts P → ClockGhosts C → ServiceViews P N C
views_by shown source sink times = service_views (peer_seen source sink) (clock_seen times) shown.exchanges shown.faults (listening_seen shown)

-- at desks, whose links and ledgers are any
abbrev pub desk_views : {P C L G : Type 0} → SourceGhosts P → SinkGhosts P → ClockGhosts C → LinkGhosts L → LedgerGhosts G → Views P L C G
desk_views source sink times links ledgers =
    views_of (peer_seen source sink) (clock_seen times)
    (λ known link ledger. call_at known (links.web link) (links.calls link) (links.link_faults link) (ledgers.count ledger)) links.gave
