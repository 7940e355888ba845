-- What a network tells of the connections that were asked for.
use Rattle.std.specs.Prelude.{◌≡◌, ◌⊎◌, ℕ, ◌||◌, Bool, true, false, List, [], ◌∷◌, ◌++◌, Option, None, option_map}
use Rattle.fed_ports.specs.Lists.{Added}
use Rattle.fed_ports.specs.declared.address.Address.{Address}

-- one connection: where to, the bytes that were sent and received, whether the end came, and whether a call failed
pub record Exchange : Type 0 where
  pub to : Address
  pub sent : List ℕ
  pub received : List ℕ
  pub ended : Bool
  pub failed : Bool

abbrev pub fresh : Address → Exchange
fresh to = record { to = to; sent = []; received = []; ended = false; failed = false }

abbrev pub with_sent : List ℕ → Exchange → Exchange
with_sent bytes x = record { to = x.to; sent = x.sent ++ bytes; received = x.received; ended = x.ended; failed = x.failed }

abbrev pub with_received : List ℕ → Bool → Exchange → Exchange
with_received bytes ended x = record { to = x.to; sent = x.sent; received = x.received ++ bytes; ended = x.ended || ended; failed = x.failed }

abbrev pub with_failure : Exchange → Exchange
with_failure x = record { to = x.to; sent = x.sent; received = x.received; ended = x.ended; failed = true }

-- the list with its last item changed
unfoldable pub change_last : {A : Type 0} → (A → A) → List A → List A
change_last f [] = []
change_last f (x ∷ []) = f x ∷ []
change_last f (x ∷ y ∷ ys) = x ∷ change_last f (y ∷ ys)

-- the exchange of the open connection, which is the last, changed so, where the exchanges are told
abbrev pub Changed : Option (List Exchange) → (Exchange → Exchange) → Option (List Exchange) → Type 0
Changed old change new = new ≡ option_map (change_last change) old

-- an open that failed added its exchange, or the exchanges are told no longer: there was no room for one more
abbrev pub AddedOrSilent : Option (List Exchange) → Exchange → Option (List Exchange) → Type 0
AddedOrSilent old x new = Added old (x ∷ []) new ⊎ (new ≡ None)
