-- What holds between the steps of serving as a resolver.
use Rattle.std.specs.Prelude.{◌≡◌, ◌≤◌, ◌<◌, ◌⊎◌, ℕ, List, [], ◌∷◌, length, min, All, Bool, true, false, Option, Some, None, Result, Ok, Err}
use Rattle.fed_base.specs.Counts.{Rose}
use Rattle.fed_base.specs.declared.faults.Failed.{Failed}
use Rattle.fed_base.specs.declared.faults.Memory.{Memory as WantOfMemory}
use Rattle.fed_base.specs.declared.ledger.Plain.{Plain}
use Rattle.fed_ports.specs.Lists.{Added}
use Rattle.http_plain.specs.declared.link.HttpLink.{HttpLink}
use Rattle.http_plain.specs.declared.route.Route.{Route}
use Rattle.node_config.specs.Nodes.{Resolver}
use Rattle.authority_core.specs.Nodes.{Node as Authority}
use Rattle.turn_log.specs.Groups.{AreJoined, known}
use Rattle.turn_log.specs.Runs.{call_limit}
use Rattle.statement_shelf.specs.Passes.{CommonsKnown, IsPassOfAll, IsPurgeOfSome, IsShelfCall}
use Rattle.statement_shelf.specs.declared.calls.ShelfCall.TheVariants.{Purge}
use Rattle.statement_shelf.specs.declared.calls.ShelfReply.{ShelfReply}
use Rattle.resolve_round.specs.Acts.{HasCounted}
use Rattle.fed_serve.specs.declared.part.ResolverPart.{ResolverPart}
use Rattle.fed_serve.specs.declared.desk.Desk.{Desk}
use Rattle.fed_serve.specs.declared.node.Node.{Node}
use Rattle.fed_serve.specs.Desks.{Views}
use Rattle.node_files.specs.declared.post.Post.{Post}
use Rattle.resolver_service.specs.declared.ending.ResolverEnd.{ResolverEnd}
use Rattle.resolver_service.specs.declared.ending.ResolverEnd.TheVariants as ends
use Rattle.resolver_service.specs.declared.node.Opened.{Opened}
use Rattle.resolver_service.specs.declared.stop.Stop.{Stop}
use Rattle.resolver_service.specs.declared.stop.Stop.TheVariants as stop
use Rattle.resolver_service.specs.Batches.{Batch, IsBatch, IsNewDesk, Progress, ServiceViews, Setup, Standing, is_worn, peers_at, peers_of}
use Rattle.resolver_service.specs.Ends.{Around, HasServed, HasStopped, on_port, with_faults}
use Rattle.resolver_service.specs.Nodes.{IsNodeWith}
use Rattle.resolver_service.specs.Stopped.{AddsSome, BreaksOff, BreaksOffUnsettled, IsWornAt, ServesPart, ServesSome, WantsIn, WearsIn}

-- ---- the node

-- what was opened is the node with its part, its routes and its workers
pub record IsOpenedFrom (node : Authority) (opened : Opened) : Type 0 where
  pub resolver : Resolver
  pub is_full : IsNodeWith node resolver opened.node
  pub routes : opened.routes ≡ resolver.routes
  pub workers : opened.workers ≡ resolver.workers

-- each node that resolves has at least one worker
abbrev pub HasWorkers : Authority → Type 0
HasWorkers node = (resolver : Resolver) → node.settings.resolver ≡ Some resolver → 1 ≤ resolver.workers

-- ---- the pass

-- what was stale at the moment was dropped from the cache
abbrev pub IsPurged : ℕ → CommonsKnown → CommonsKnown → Type 0
IsPurged moment old new = (dropped : ShelfReply) × IsShelfCall (Purge moment) dropped old new

-- the same, or a part of the cache was found worn
abbrev pub StopsPurge : ℕ → CommonsKnown → CommonsKnown → Result Unit Stop → Type 0
StopsPurge moment old new (Ok done) = Unit {0}
StopsPurge moment old new (Err stop.Worn) = IsPurgeOfSome moment old new
StopsPurge moment old new (Err why) = ⊥

-- why a batch stopped: the network failed only where its count rose, which else is as before; or an object was worn, as the pass has seen
abbrev pub StopsBy : ℕ → ℕ → CommonsKnown → Result Unit Stop → Type 0
StopsBy before now known (Ok done) = now ≡ before
StopsBy before now known (Err stop.Network) = Rose before now
StopsBy before now known (Err stop.Unsettled) = Rose before now
StopsBy before now known (Err stop.Memory) = now ≡ before
StopsBy before now known (Err stop.Worn) = (now ≡ before) × HasCounted known call_limit

-- the same where the network isn't asked for anybody
abbrev pub IfWorn : CommonsKnown → Result Unit Stop → Type 0
IfWorn known (Ok done) = Unit {0}
IfWorn known (Err stop.Network) = ⊥
IfWorn known (Err stop.Unsettled) = ⊥
IfWorn known (Err stop.Memory) = Unit {0}
IfWorn known (Err stop.Worn) = HasCounted known call_limit

-- the end, by what stopped serving; a pass that is handed out knows this
abbrev pub IsEndOf : Stop → CommonsKnown → ResolverEnd → Type 0
IsEndOf stop.Network knows ends.NetworkFailed = Unit {0}
IsEndOf stop.Unsettled knows ends.Unsettled = Unit {0}
IsEndOf stop.Memory knows ends.Memory = Unit {0}
IsEndOf stop.Worn knows (ends.Worn pass) = known pass ≡ knows
IsEndOf why knows end = ⊥

-- want of memory before what else is told
abbrev pub memory_first : Result Unit Stop → Result Unit WantOfMemory → Result Unit Stop
memory_first taken (Ok done) = taken
memory_first taken (Err wanting) = Err stop.Memory

-- a failure of the network before what else is told of the desks
abbrev pub network_first : Result Unit Failed → Result Unit Stop → Result Unit Stop
network_first (Ok done) ended = ended
network_first (Err failed) (Err stop.Memory) = Err stop.Unsettled
network_first (Err failed) ended = Err stop.Network

-- what becomes of the one pass at a desk, by what stopped it so far, and whether an object was worn there: it stays; or that of the desk
-- takes its place; or both are joined
abbrev pub Takes : Result Unit Stop → Bool → CommonsKnown → CommonsKnown → CommonsKnown → Result Unit Stop → Type 0
Takes (Err why) worn old own new result = (result ≡ Err why) × (new ≡ old)
Takes (Ok done) true old own new result = (result ≡ Err stop.Worn) × (new ≡ own)
Takes (Ok done) false old own new result = (result ≡ Ok tt) × AreJoined old own new

-- the peers were settled, or memory was wanting
abbrev pub Settles : {P : Type 0} → Result Unit Stop → List P → Option (List P) → Option (List P) → Result Unit Stop → Type 0
Settles taken peers old new result = ((result ≡ taken) × Added old peers new) ⊎ ((result ≡ Err stop.Memory) × (new ≡ old))

-- ---- desks

module _ {P L C G : Type 0} where
  -- a desk of this part that is free
  pub record IsReady (part : ResolverPart) (desk : Desk P L C G) : Type 0 where
    pub peer : desk.peer ≡ None
    pub result : desk.result ≡ None
    pub pass : IsPassOfAll part.commons desk.pass

  -- a desk of this part, whether somebody was served there or not
  pub record IsDone (part : ResolverPart) (desk : Desk P L C G) : Type 0 where
    pub pass : IsPassOfAll part.commons desk.pass
    pub worn : is_worn desk.result ≡ true → HasCounted (known desk.pass) call_limit

module _ {P L C G : Type 0} where
  -- what is left of a desk is taken in, by what stopped it so far
  pub record EndsDesk (desk : Desk P L C G) (before now : Progress P) (so_far result : Result Unit Stop) : Type 0 where
    pub taken : Result Unit Stop
    pub takes : Takes so_far (is_worn desk.result) before.known (known desk.pass) now.known taken
    pub settles : Settles taken (peers_of desk.peer) before.net.settled now.net.settled result

  -- what is left of these desks is, one after the other
  abbrev pub EndInTurn : List (Desk P L C G) → Progress P → Result Unit Stop → Progress P → Result Unit Stop → Type 0
  EndInTurn [] before so_far now result = (now ≡ before) × (result ≡ so_far)
  EndInTurn (desk ∷ desks) before so_far now result =
      (then : Progress P) × (by : Result Unit Stop) × EndsDesk desk before then so_far by × EndInTurn desks then by now result

  -- how serving at these desks stopped
  abbrev pub StopsDesks : Views P L C G → Node → List (Desk P L C G) → Progress P → Progress P → Result Unit Stop → Type 0
  StopsDesks views node desks before now (Ok done) = Unit {0}
  StopsDesks views node desks before now (Err stop.Network) =
      (part : ServesPart views node desks before.net now.net) × (length part.peers < length desks) × Added before.net.settled (peers_at part.served) now.net.settled
  StopsDesks views node desks before now (Err stop.Unsettled) =
      (part : ServesPart views node desks before.net now.net) × (length part.peers < length desks) × AddsSome before.net.settled (peers_at part.served) now.net.settled
  StopsDesks views node desks before now (Err stop.Memory) =
      (part : ServesPart views node desks before.net now.net) × (length part.peers ≡ length desks) × AddsSome before.net.settled (peers_at part.served) now.net.settled
  StopsDesks views node desks before now (Err stop.Worn) =
      (part : ServesPart views node desks before.net now.net) × (length part.peers ≡ length desks) × Added before.net.settled (peers_at part.served) now.net.settled
      × IsWornAt now.known part.served

module _ {P N C : Type 0} where
  -- so many new desks, which are free
  pub record AreMade (views : ServiceViews P N C) (part : ResolverPart) (routes : List Route) (split : CommonsKnown) (desks : List (Desk P (HttpLink N) C Plain)) : Type 0 where
    pub ready : All (IsReady part) desks
    pub new : All (IsNewDesk views routes split) desks

  -- a batch of so many connections was served
  abbrev pub IsServedBatch : ℕ → Setup P N C → Standing P → Standing P → Type 0
  IsServedBatch count s before now = (b : Batch P N C) × (length b.desks ≡ count) × (b.before ≡ before) × (b.now ≡ now) × IsBatch s b

  -- how one stopped
  abbrev pub StopsBatch : Setup P N C → ℕ → Standing P → Standing P → Result Unit Stop → Type 0
  StopsBatch s count before now (Ok done) = Unit {0}
  StopsBatch s count before now (Err stop.Network) = BreaksOff s count before now
  StopsBatch s count before now (Err stop.Unsettled) = BreaksOffUnsettled s count before now
  StopsBatch s count before now (Err stop.Memory) = WantsIn s count before now
  StopsBatch s count before now (Err stop.Worn) = WearsIn s count before now

  -- fewer than so many connections were served in whole batches, and then one stopped
  abbrev pub StopsAfter : Setup P N C → ℕ → ℕ → Standing P → Standing P → Result Unit Stop → Type 0
  StopsAfter s workers connections before now (Ok done) = Unit {0}
  StopsAfter s workers connections before now (Err why) =
      (left : ℕ) × (0 < left) × (then : Standing P) × ServesSome s workers connections left before then × StopsBatch s (min workers left) then now (Err why)

  -- ---- the end

  -- how serving by this node ended, once the port was taken
  abbrev pub EndsServing : ServiceViews P N C → Authority → ℕ → Around P → Around P → ResolverEnd → Type 0
  EndsServing views node connections before now (ends.Served pass) = HasServed views node connections before now (known pass) × (now.net.faults ≡ before.net.faults)
  EndsServing views node connections before now ends.NetworkFailed = Rose before.net.faults now.net.faults × HasStopped views node connections before now ends.NetworkFailed
  EndsServing views node connections before now ends.Unsettled = Rose before.net.faults now.net.faults × HasStopped views node connections before now ends.Unsettled
  EndsServing views node connections before now ends.Memory = (now.net.faults ≡ before.net.faults) × HasStopped views node connections before now ends.Memory
  EndsServing views node connections before now (ends.Worn pass) =
      HasCounted (known pass) call_limit × (now.net.faults ≡ before.net.faults) × HasStopped views node connections before now (ends.Worn pass)
  EndsServing views node connections before now end = ⊥

  -- how it ended, once its files were read
  abbrev pub EndsOn : ServiceViews P N C → Authority → Post → Around P → Around P → ResolverEnd → Type 0
  EndsOn views node post before now ends.NetworkFailed =
      Rose before.net.faults now.net.faults
      × ((now ≡ with_faults now.net.faults before) ⊎ HasStopped views node post.connections (on_port post.port before) now ends.NetworkFailed)
  EndsOn views node post before now ends.Memory =
      (now.net.faults ≡ before.net.faults) × ((now ≡ before) ⊎ HasStopped views node post.connections (on_port post.port before) now ends.Memory)
  EndsOn views node post before now end = EndsServing views node post.connections (on_port post.port before) now end
