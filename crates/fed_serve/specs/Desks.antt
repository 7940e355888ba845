-- Desks: what each serves its peer with, and what serving at many of them at once does.
use Rattle.std.specs.Prelude.{◌≡◌, ◌<◌, List, [], ◌∷◌, length, Option, Some, None, IfSome, Result, OnOk, OnErr}
use Rattle.fed_base.specs.declared.faults.Failed.{Failed}
use Rattle.fed_ports.specs.Causes.{HasCause}
use Rattle.fed_ports.specs.Lists.{Gave}
use Rattle.fed_ports.specs.Times.{ClockAt}
use Rattle.http_plain.specs.Networks.{NetworkAt}
use Rattle.turn_log.specs.Groups.{known}
use Rattle.statement_shelf.specs.Passes.{CommonsKnown, IsPassOfAll}
use Rattle.resolve_round.specs.Acts.{IsKept}
use Rattle.resolve_round.specs.Walking.{Giving}
use Rattle.fed_resolver.specs.Calls.{GaveAll}
use Rattle.fed_serve.specs.Resolutions.{CallAt}
use Rattle.fed_serve.specs.declared.desk.Desk.{Desk}
use Rattle.fed_serve.specs.declared.node.Node.{Node}
use Rattle.fed_serve.specs.declared.served.Served.{Served}
use Rattle.fed_serve.specs.declared.serving.ServeFault.{ServeFault}
use Rattle.fed_serve.specs.Moments.{Around, PeerAt, around}
use Rattle.fed_serve.specs.Serving.{Serves}

-- how peers and clocks are seen, and shared objects, links and ledgers together; and what a link says of one call
pub record Views (P L C G : Type 0) : Type 1 where
  pub peer : P → PeerAt
  pub clock : C → ClockAt
  pub call : CommonsKnown → L → G → CallAt
  pub gave : Giving L

-- the desks and their network at one moment
pub record DesksAt (P D : Type 0) : Type 0 where
  pub net : NetworkAt P
  pub desks : List D

abbrev pub desks_at : {P D : Type 0} → NetworkAt P → List D → DesksAt P D
desks_at net desks = record { net = net; desks = desks }

module _ {P L C G : Type 0} where
  abbrev pub views_of : (P → PeerAt) → (C → ClockAt) → (CommonsKnown → L → G → CallAt) → Giving L → Views P L C G
  views_of peer clock call gave = record { peer = peer; clock = clock; call = call; gave = gave }

  -- ---- one desk

  -- all that a connection is served with at the desk, with this peer
  abbrev pub around_at : Views P L C G → P → Desk P L C G → Around
  around_at views peer desk = around (views.peer peer) (views.clock desk.clock) (views.call (known desk.pass) desk.link desk.steps.ledger)

  -- its pass is one of the node's shared objects
  abbrev pub HasPass : Node → Desk P L C G → Type 0
  HasPass node desk = IfSome node.resolver (λ part. IsPassOfAll part.commons desk.pass)

  -- it has neither a peer nor a result
  pub record IsFree (node : Node) (desk : Desk P L C G) : Type 0 where
    pub peer : desk.peer ≡ None
    pub result : desk.result ≡ None
    pub pass : HasPass node desk

  -- it has this peer, and is as before otherwise
  abbrev pub IsTaken : P → Desk P L C G → Desk P L C G → Type 0
  IsTaken peer before now = now ≡ record before { peer = Some peer }

  -- the peer that came was served there: one connection, from its acceptance on, with the pass, the link, the clock and the ledger of the
  -- desk, which then has the peer as it stands and what was answered
  pub record IsServedAt (views : Views P L C G) (node : Node) (came : P) (old new : Desk P L C G) : Type 0 where
    pub gone : P
    pub peer : new.peer ≡ Some gone
    pub told : Result Served ServeFault
    pub result : new.result ≡ Some told
    pub serves : Serves node (GaveAll views.gave old.link new.link) (around_at views came old) (around_at views gone new) told
    pub kept : IfSome node.resolver (λ part. IsKept part.commons old.pass new.pass)

module _ {P D : Type 0} where
  -- ---- many desks

  -- these peers were served at the first desks, in order, and the other desks are as they were
  abbrev pub AreServedAt : (P → D → D → Type 0) → List P → List D → List D → Type 0
  AreServedAt serves [] old new = new ≡ old
  AreServedAt serves (peer ∷ peers) (desk ∷ old) (served ∷ new) = serves peer desk served × AreServedAt serves peers old new
  AreServedAt serves (peer ∷ peers) old new = ⊥

  -- `serves` says what serving a peer makes of its desk
  pub record ServesMany (serves : P → D → D → Type 0) (before now : DesksAt P D) (result : Result Unit Failed) : Type 0 where
    -- the peers that were accepted, in order, which are the first of the callers where the network tells them
    pub peers : List P
    pub accepted : Gave before.net.callers peers now.net.callers
    -- each was served at its desk
    pub served : AreServedAt serves peers before.desks now.desks
    -- there is one for each desk exactly where no call failed
    pub all : OnOk result (length peers ≡ length before.desks)
    pub fewer : OnErr result (length peers < length before.desks)
    -- the network failed only where its count rose, and always where it grew
    pub cause : HasCause before.net.faults now.net.faults result
    -- it listens as before, opened nothing and settled nobody
    pub port : now.net.port ≡ before.net.port
    pub exchanges : now.net.exchanges ≡ before.net.exchanges
    pub settled : now.net.settled ≡ before.net.settled
