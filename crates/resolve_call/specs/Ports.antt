-- What a clock shows at one moment, and all that is around one call.
use Rattle.std.specs.Prelude.{ℕ, List, Option}
use Rattle.fed_ports.specs.declared.clock.Clock.{Ghosts as ClockGhosts}
use Rattle.fed_ports.specs.declared.network.Network.{Ghosts as NetworkGhosts}
use Rattle.fed_ports.specs.Exchanges.{Exchange}
use Rattle.fed_ports.specs.Times.{ClockAt, clock_at}

abbrev pub clock_seen : {C : Type 0} → ClockGhosts C → C → ClockAt
clock_seen shown clock = clock_at (shown.readings clock) (shown.last clock) (shown.told clock)

-- the clock and the network around a call at one moment: the exchanges, where these are told, and how often the network failed
pub record Around : Type 0 where
  pub clock : ClockAt
  pub exchanges : Option (List Exchange)
  pub faults : ℕ

abbrev pub around : ClockAt → Option (List Exchange) → ℕ → Around
around clock exchanges faults = record { clock = clock; exchanges = exchanges; faults = faults }

abbrev pub call_seen : {N P C : Type 0} → NetworkGhosts N P → ClockGhosts C → N → C → Around
call_seen shown times net clock = around (clock_seen times clock) (shown.exchanges net) (shown.faults net)
