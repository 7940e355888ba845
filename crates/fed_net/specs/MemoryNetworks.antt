-- What a network in memory tells.
use Rattle.std.specs.Prelude.{◌≡◌, ◌++◌, ℕ, true, List, [], ◌∷◌, map, take, Option, Some, None, IsSome, cond, option_map, slice_get}
use Rattle.fed_ports.specs.Exchanges.{Exchange}
use Rattle.fed_net.specs.declared.memory_connection.Connection.{Connection}
use Rattle.fed_net.specs.declared.memory_connections.Connections.{Connections}

-- what was sent, and as much of the answer as was received
abbrev pub exchange_of : Connection → Exchange
exchange_of c = record { to = c.to; sent = c.sent.items; received = take c.received c.answer; ended = c.ended; failed = c.failed }

abbrev pub last_of : Option Connection → List Exchange
last_of None = []
last_of (Some c) = exchange_of c ∷ []

-- the exchanges in order, the last one behind the others, until there was no room for one more
abbrev pub told_of : Connections → Option (List Exchange)
told_of cs = cond cs.silent None (Some (map exchange_of cs.done.items ++ last_of cs.last))

-- the last connection is open
abbrev pub IsOpen : Connections → Type 0
IsOpen cs = (cs.open ≡ true) × IsSome cs.last

-- the bytes that were sent on the connection of that number, where there is one
abbrev pub sent_of : List Exchange → ℕ → Option (List ℕ)
sent_of told number = option_map (λ x. x.sent) (slice_get told number)
