-- What a network was asked for, whatever it answered.
use Rattle.std.specs.Prelude.{◌≡◌, ◌≤◌, ◌⊎◌, ℕ, List, [], ◌∷◌, length, map, take, Option, None, option_map}
use Rattle.fed_ports.specs.declared.address.Address.{Address}
use Rattle.fed_ports.specs.Exchanges.{Exchange, change_last, with_sent}
use Rattle.fed_ports.specs.Lists.{Added}

-- where an exchange went and what was sent
abbrev pub asking : Exchange → Address × List ℕ
asking x = (x.to, x.sent)

abbrev pub asked_of : Option (List Exchange) → Option (List (Address × List ℕ))
asked_of told = option_map (map asking) told

-- so many bytes of the message were sent on the open connection
abbrev pub SentPart : Option (List Exchange) → List ℕ → Option (List Exchange) → Type 0
SentPart old message new = (n : ℕ) × (n ≤ length message) × (asked_of new ≡ asked_of (option_map (change_last (with_sent (take n message))) old))

-- one exchange was added, of this address, by which so many bytes of the message were sent, or exchanges are told no longer
abbrev pub AsksPart : Option (List Exchange) → Option (List Exchange) → Address → List ℕ → Type 0
AsksPart old new to message = ((n : ℕ) × (n ≤ length message) × Added (asked_of old) ((to, take n message) ∷ []) (asked_of new)) ⊎ (new ≡ None)
