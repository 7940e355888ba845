-- What a network shows at one moment.
use Rattle.std.specs.Prelude.{ℕ, List, Option}
use Rattle.fed_ports.specs.declared.network.Network.{Ghosts as NetworkGhosts}
use Rattle.fed_ports.specs.Exchanges.{Exchange}
use Rattle.http_plain.specs.Links.{Listening, listening}

-- the port that it listens on; its exchanges, the callers to come and those that were settled, where it tells them; and how often a call
-- has failed
pub record NetworkAt (P : Type 0) : Type 0 where
  pub port : Option ℕ
  pub exchanges : Option (List Exchange)
  pub callers : Option (List P)
  pub settled : Option (List P)
  pub faults : ℕ

abbrev pub network_at : {P : Type 0} → Option ℕ → Option (List Exchange) → Option (List P) → Option (List P) → ℕ → NetworkAt P
network_at port exchanges callers settled faults = record { port = port; exchanges = exchanges; callers = callers; settled = settled; faults = faults }

abbrev pub network_seen : {N P : Type 0} → NetworkGhosts N P → N → NetworkAt P
network_seen shown net = network_at (shown.port net) (shown.exchanges net) (shown.callers net) (shown.settled net) (shown.faults net)

-- how a network listens
abbrev pub listening_seen : {N P : Type 0} → NetworkGhosts N P → N → Listening P
listening_seen shown net = listening (shown.port net) (shown.callers net) (shown.settled net)
