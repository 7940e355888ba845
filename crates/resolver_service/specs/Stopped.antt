-- Batches that stopped: whole ones were served, and then one was begun and not served to its end.
use Rattle.std.specs.Prelude.{◌≡◌, ◌<◌, ◌⊎◌, ℕ, List, [], ◌∷◌, length, All, true, Option}
use Rattle.fed_base.specs.declared.ledger.Plain.{Plain}
use Rattle.fed_ports.specs.Lists.{Added, Gave}
use Rattle.fed_ports.specs.Times.{IsOneReading}
use Rattle.http_plain.specs.declared.link.HttpLink.{HttpLink}
use Rattle.turn_log.specs.Groups.{known}
use Rattle.statement_shelf.specs.Passes.{CommonsKnown, IsPurgeOfSome, IsShelfCall}
use Rattle.statement_shelf.specs.declared.calls.ShelfCall.TheVariants.{Purge}
use Rattle.statement_shelf.specs.declared.calls.ShelfReply.{ShelfReply}
use Rattle.fed_serve.specs.declared.desk.Desk.{Desk}
use Rattle.fed_serve.specs.declared.node.Node.{Node}
use Rattle.fed_serve.specs.Desks.{AreServedAt, IsServedAt, Views}
use Rattle.http_plain.specs.Networks.{NetworkAt}
use Rattle.resolver_service.specs.Batches.{AreBatches, Batch, IsNewDesk, IsSized, Setup, Standing, at_desks, is_worn, peers_at}

-- ---- peers

-- these are some of the others, in their order
abbrev pub AreSomeOf : {A : Type 0} → List A → List A → Type 0
AreSomeOf some [] = some ≡ []
AreSomeOf {A} some (x ∷ xs) = AreSomeOf some xs ⊎ ((rest : List A) × (some ≡ x ∷ rest) × AreSomeOf rest xs)

-- some of these were added behind what was held, in their order, where that is told
abbrev pub AddsSome : {A : Type 0} → Option (List A) → List A → Option (List A) → Type 0
AddsSome {A} old items new = (some : List A) × AreSomeOf some items × Added old some new

-- ---- desks

module _ {P L C G : Type 0} where
  -- the next callers were accepted, and each served at one of the desks, from the first on; else the network is as before, but for its
  -- faults and for those that were settled
  pub record ServesPart (views : Views P L C G) (node : Node) (desks : List (Desk P L C G)) (before now : NetworkAt P) : Type 0 where
    pub peers : List P
    pub served : List (Desk P L C G)
    pub accepted : Gave before.callers peers now.callers
    pub each : AreServedAt (IsServedAt views node) peers desks served
    pub port : now.port ≡ before.port
    pub exchanges : now.exchanges ≡ before.exchanges

  -- this is known at one of the desks where a shared object was worn
  abbrev pub IsWornAt : CommonsKnown → List (Desk P L C G) → Type 0
  IsWornAt knows [] = ⊥
  IsWornAt knows (desk ∷ desks) = ((is_worn desk.result ≡ true) × (known desk.pass ≡ knows)) ⊎ IsWornAt knows desks

-- ---- a batch that was begun

module _ {P : Type 0} where
  -- the clock was read once, and nobody accepted
  pub record IsIdle (before now : Standing P) : Type 0 where
    pub clock : IsOneReading before.clock now.clock
    pub net : now.progress.net ≡ before.progress.net

  -- the same, and of the cache, from which is dropped what is stale at that moment, a part was found worn
  pub record HasWornPart (before now : Standing P) : Type 0 where
    pub idle : IsIdle before now
    pub purge : IsPurgeOfSome now.clock.last before.progress.known now.progress.known

module _ {P N C : Type 0} where
  -- the clock was read once, and what was stale at that moment dropped from the cache; so many desks were made, with a pass for each that
  -- was split from the one pass; and the next callers were accepted and served there
  pub record IsBegun (s : Setup P N C) (count : ℕ) (before now : Standing P) : Type 0 where
    pub clock : IsOneReading before.clock now.clock
    pub dropped : ShelfReply
    pub purged : CommonsKnown
    pub purge : IsShelfCall (Purge now.clock.last) dropped before.progress.known purged
    pub desks : List (Desk P (HttpLink N) C Plain)
    pub many : length desks ≡ count
    pub new : All (IsNewDesk s.views s.routes purged) desks
    pub serves : ServesPart (at_desks s.views) s.node desks before.progress.net now.progress.net

  -- fewer were accepted than there are desks; each was served, and then all of them were settled, in order
  pub record BreaksOff (s : Setup P N C) (count : ℕ) (before now : Standing P) : Type 0 where
    pub begun : IsBegun s count before now
    pub fewer : length begun.serves.peers < count
    pub settled : Added before.progress.net.settled (peers_at begun.serves.served) now.progress.net.settled

  -- the same, but some were dropped in place of being settled
  pub record BreaksOffUnsettled (s : Setup P N C) (count : ℕ) (before now : Standing P) : Type 0 where
    pub begun : IsBegun s count before now
    pub fewer : length begun.serves.peers < count
    pub settled : AddsSome before.progress.net.settled (peers_at begun.serves.served) now.progress.net.settled

  -- one was accepted for each desk and served there, but some were dropped in place of being settled
  pub record IsUnsettled (s : Setup P N C) (count : ℕ) (before now : Standing P) : Type 0 where
    pub begun : IsBegun s count before now
    pub all : length begun.serves.peers ≡ count
    pub settled : AddsSome before.progress.net.settled (peers_at begun.serves.served) now.progress.net.settled

  -- one was accepted for each desk and served there, and all were settled; at one of the desks a shared object was worn, and that desk's
  -- pass is the one from then on
  pub record HasWornDesk (s : Setup P N C) (count : ℕ) (before now : Standing P) : Type 0 where
    pub begun : IsBegun s count before now
    pub all : length begun.serves.peers ≡ count
    pub settled : Added before.progress.net.settled (peers_at begun.serves.served) now.progress.net.settled
    pub pass : IsWornAt now.progress.known begun.serves.served

  -- memory was wanting: for the desks, or to settle those who were served
  abbrev pub WantsIn : Setup P N C → ℕ → Standing P → Standing P → Type 0
  WantsIn s count before now = IsIdle before now ⊎ IsUnsettled s count before now

  -- a shared object was worn: found so before anybody was accepted, or at a desk
  abbrev pub WearsIn : Setup P N C → ℕ → Standing P → Standing P → Type 0
  WearsIn s count before now = HasWornPart before now ⊎ HasWornDesk s count before now

  -- ---- whole batches before it

  -- so many connections of so many are left, and the others were served
  abbrev pub ServesSome : Setup P N C → ℕ → ℕ → ℕ → Standing P → Standing P → Type 0
  ServesSome s workers connections left before now = (batches : List (Batch P N C)) × IsSized workers connections batches left × AreBatches s before batches now
