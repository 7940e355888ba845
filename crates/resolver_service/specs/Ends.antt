-- How serving as a resolver ends.
use Rattle.std.specs.Prelude.{◌≡◌, ◌<◌, ◌⊎◌, ℕ, [], min, Option, Some, None}
use Rattle.fed_base.specs.Counts.{Rose}
use Rattle.fed_ports.specs.Stores.{Files}
use Rattle.fed_ports.specs.Times.{ClockAt}
use Rattle.node_config.specs.Nodes.{Resolver}
use Rattle.authority_core.specs.Nodes.{Node as Authority}
use Rattle.chain_climb.specs.Elements.{Ordered}
use Rattle.turn_log.specs.Groups.{IsHistory, known}
use Rattle.turn_log.specs.Runs.{call_limit}
use Rattle.statement_shelf.specs.Book.{BookStep, opened_with}
use Rattle.statement_shelf.specs.Passes.{CommonsKnown}
use Rattle.statement_shelf.specs.Shelf.{ShelfStep}
use Rattle.resolve_round.specs.Acts.{HasCounted}
use Rattle.fed_serve.specs.declared.node.Node.{Node}
use Rattle.http_plain.specs.Networks.{NetworkAt}
use Rattle.node_files.specs.Moments.{NodeAt}
use Rattle.node_files.specs.Orders.{Order}
use Rattle.node_files.specs.NodeFiles.{IsNodeOf, IsResolver}
use Rattle.resolve_call.specs.Alone.{HasSeenNothing}
use Rattle.resolver_service.specs.declared.ending.ResolverEnd.{ResolverEnd}
use Rattle.resolver_service.specs.declared.ending.ResolverEnd.TheVariants as ends
use Rattle.resolver_service.specs.Batches.{ServesAll, ServiceViews, Setup, Standing, setup, standing}
use Rattle.resolver_service.specs.Nodes.{IsNodeWith}
use Rattle.resolver_service.specs.Passes.{OwnsObjects}
use Rattle.resolver_service.specs.Precedence.{AreMadeIn, StandsBefore}
use Rattle.resolver_service.specs.Stopped.{BreaksOff, BreaksOffUnsettled, ServesSome, WantsIn, WearsIn}

-- the network and the clock at one moment
pub record Around (P : Type 0) : Type 0 where
  pub net : NetworkAt P
  pub clock : ClockAt

abbrev pub around : {P : Type 0} → NetworkAt P → ClockAt → Around P
around net clock = record { net = net; clock = clock }

-- the same with the files, where they are told, and how often the store failed
abbrev pub At : Type 0 → Type 0
At P = NodeAt (Around P)

-- around, where the network listens on this port
abbrev pub on_port : {P : Type 0} → ℕ → Around P → Around P
on_port port seen = record seen { net = record seen.net { port = Some port } }

-- the same, where the network has failed so often
abbrev pub with_faults : {P : Type 0} → ℕ → Around P → Around P
with_faults faults seen = record seen { net = record seen.net { faults = faults } }

-- no file is that of a node that resolves, where the files are told
abbrev pub HasNoNode : Order → Option Files → Type 0
HasNoNode order files = (node : Authority) → IsNodeOf files order.config node → IsResolver node → files ≡ None

-- neither the store nor the network failed
abbrev pub IsSteady : {P : Type 0} → At P → At P → Type 0
IsSteady before now = (now.store_faults ≡ before.store_faults) × (now.around.net.faults ≡ before.around.net.faults)

module _ {P N C : Type 0} where
  -- so many connections were served by this node, batch by batch, over one cache and one book: one pass has all their calls, and no others
  -- but the Purge before each batch, and it has seen of each shared object a legal list of calls, from the empty part and the configured
  -- book on
  pub record HasServed (views : ServiceViews P N C) (node : Authority) (connections : ℕ) (before now : Around P) (joined : CommonsKnown) : Type 0 where
    pub resolver : Resolver
    pub full : Node
    pub is_full : IsNodeWith node resolver full
    pub first : CommonsKnown
    pub unseen : HasSeenNothing first
    pub serves : ServesAll (setup views full resolver.routes) resolver.workers connections (standing before.net first before.clock) (standing now.net joined now.clock)
    -- on each shared object the calls of an earlier batch stand before those of a later one
    pub in_order : Ordered StandsBefore serves.0
    pub history : IsHistory ShelfStep [] BookStep (opened_with is_full.is.anchors) joined
    -- it has all of each shared object again, so that no other pass has any of it; each call that was made there is its own, and was made
    -- in one of the batches
    pub owned : OwnsObjects joined
    pub made : AreMadeIn serves.0 joined

  -- how the batch stopped that was begun: the network failed, and all who were accepted were settled; or some of them were dropped; or
  -- memory was wanting; or a shared object was worn, as the pass has seen
  abbrev pub StopsIn : Setup P N C → ℕ → Standing P → Standing P → ResolverEnd → Type 0
  StopsIn s count before now ends.NetworkFailed = BreaksOff s count before now
  StopsIn s count before now ends.Unsettled = BreaksOffUnsettled s count before now
  StopsIn s count before now ends.Memory = WantsIn s count before now
  StopsIn s count before now (ends.Worn pass) = (now.progress.known ≡ known pass) × WearsIn s count before now
  StopsIn s count before now end = ⊥

  -- fewer connections were served by this node, in whole batches, as above; then, with so many left, one was begun, and stopped so. The
  -- pass that it had at last has seen what is legal
  pub record HasStopped (views : ServiceViews P N C) (node : Authority) (connections : ℕ) (before now : Around P) (result : ResolverEnd) : Type 0 where
    pub resolver : Resolver
    pub full : Node
    pub is_full : IsNodeWith node resolver full
    pub first : CommonsKnown
    pub unseen : HasSeenNothing first
    pub left : ℕ
    pub fewer : 0 < left
    pub then : Standing P
    pub serves : ServesSome (setup views full resolver.routes) resolver.workers connections left (standing before.net first before.clock) then
    pub in_order : Ordered StandsBefore serves.0
    pub last : CommonsKnown
    pub stops : StopsIn (setup views full resolver.routes) (min resolver.workers left) then (standing now.net last now.clock) result
    pub history : IsHistory ShelfStep [] BookStep (opened_with is_full.is.anchors) last

  -- the first by the node of the file, on the port
  abbrev pub HasServedFile : ServiceViews P N C → Order → At P → At P → CommonsKnown → Type 0
  HasServedFile views order before now joined =
      (node : Authority) × IsNodeOf before.files order.config node × HasServed views node order.post.connections (on_port order.post.port before.around) now.around joined

  -- the second
  abbrev pub HasStoppedFile : ServiceViews P N C → Order → At P → At P → ResolverEnd → Type 0
  HasStoppedFile views order before now result =
      (node : Authority) × IsNodeOf before.files order.config node × HasStopped views node order.post.connections (on_port order.post.port before.around) now.around result

  -- the second, or the node of the file listened to nobody, and all is as before but for the network's faults
  abbrev pub HasFailedFile : ServiceViews P N C → Order → At P → At P → Type 0
  HasFailedFile views order before now =
      (node : Authority) × IsNodeOf before.files order.config node
      × ((now.around ≡ with_faults now.around.net.faults before.around)
      ⊎ HasStopped views node order.post.connections (on_port order.post.port before.around) now.around ends.NetworkFailed)

  -- by each end: what was done, or why not all was, and that nothing else failed
  abbrev pub EndsBy : ServiceViews P N C → Order → At P → At P → ResolverEnd → Type 0
  -- all connections were served
  EndsBy views order before now (ends.Served pass) = HasServedFile views order before now (known pass) × IsSteady before now
  -- a file isn't there or not of its form, or the node doesn't resolve; nobody was accepted, and the clock wasn't read
  EndsBy views order before now ends.Input = HasNoNode order before.files × (now.around ≡ before.around) × (now.store_faults ≡ before.store_faults)
  -- a file couldn't be read
  EndsBy views order before now ends.StoreFailed = Rose before.store_faults now.store_faults × (now.around ≡ before.around)
  -- nobody could be listened to, or the next connection not be accepted: those who were accepted before were served and settled
  EndsBy views order before now ends.NetworkFailed =
      Rose before.around.net.faults now.around.net.faults × (now.store_faults ≡ before.store_faults) × HasFailedFile views order before now
  -- the next connection couldn't be accepted: those before were served, but to settle some of them memory was wanting
  EndsBy views order before now ends.Unsettled =
      Rose before.around.net.faults now.around.net.faults × (now.store_faults ≡ before.store_faults) × HasStoppedFile views order before now ends.Unsettled
  -- memory was wanting: before the port was taken, for the desks of a batch, or to settle those who were served there
  EndsBy views order before now ends.Memory = IsSteady before now × ((now.around ≡ before.around) ⊎ HasStoppedFile views order before now ends.Memory)
  -- a shared object has counted all calls that it can, which the pass has seen; those who were accepted were served and settled
  EndsBy views order before now (ends.Worn pass) = HasCounted (known pass) call_limit × (IsSteady before now × HasStoppedFile views order before now (ends.Worn pass))

  -- how it ended; no file is changed, and no connection opened
  pub record Ends (views : ServiceViews P N C) (order : Order) (before now : At P) (result : ResolverEnd) : Type 0 where
    pub ended : EndsBy views order before now result
    pub files : now.files ≡ before.files
    pub exchanges : now.around.net.exchanges ≡ before.around.net.exchanges
