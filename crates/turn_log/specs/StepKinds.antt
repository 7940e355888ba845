-- What each kind of step tells the seat that makes it, and makes of its view.
use Rattle.std.specs.Prelude.{◌≡◌, ◌≢◌, ◌≤◌, ℕ, true, false, List, ◌∷◌, length, Some, None}
use Rattle.atomic_table.specs.Table.{Step, rest}
use Rattle.turn_log.specs.Runs.{IsPrefix, Runs, IsLegal, call_limit}
use Rattle.turn_log.specs.Places.{places_below}
use Rattle.turn_log.specs.Shares.{IsWhole}
use Rattle.turn_log.specs.Views.{IsOwn, Knows, committed, view}
use Rattle.turn_log.specs.declared.view.Stored.{Stored}
use Rattle.turn_log.specs.declared.view.View.{View}

module _ {X C R : Type 0} where
  -- the turn was taken, and what lies in the slot with it: the value, in the state that the view names now
  abbrev pub IsTaken : Knows X C R → Knows X C R → Type 0
  IsTaken m m' = (c : Stored X C R) × (x : X) × (c.value ≡ Some x) × (m' ≡ (view m.0.seen m.0.mine m.0.share m.0.alone m.0.first true false (Some x), (0, c) ∷ m.1))

  -- take the turn: from 0 to 1, and a failed try changes nothing
  abbrev pub Takes : Step (Stored X C R) → Knows X C R → ℕ → Knows X C R → Type 0
  Takes st m found m' =
      (found ≡ 0 → (c : Stored X C R) × (x : X) × (c.value ≡ Some x) × (m' ≡ (view m.0.seen m.0.mine m.0.share m.0.alone m.0.first true false (Some x), (0, c) ∷ m.1)))
      × (found ≢ 0 → m' ≡ m)

  -- load the count: all calls are seen, which lead to the state that a holder of the turn names
  abbrev pub Counts : (X → C → R → X → Type 0) → Step (Stored X C R) → Knows X C R → ℕ → Knows X C R → Type 0
  Counts steps st m found m' =
      (log : List (C × R)) × (length log ≡ found) × (length log ≤ call_limit) × IsPrefix m.0.seen log
      × ((f x : X) → m.0.holds ≡ true → m.0.first ≡ Some f → m.0.now ≡ Some x → Runs steps f log x)
      × (m.0.alone ≡ true → m.0.mine ≡ places_below (length log))
      × (IsWhole m.0.share → m.0.mine ≡ places_below (length log))
      × (m' ≡ (view log m.0.mine m.0.share m.0.alone m.0.first m.0.holds true m.0.now, m.1))

  -- commit an event: the list and the own places grow by the call in the hands
  abbrev pub Commits : Step (Stored X C R) → Knows X C R → ℕ → Knows X C R → Type 0
  Commits st m found m' = m' ≡ (committed m.0 m.1, m.1)

  -- release the turn, and give what is in the hands back to the slot
  abbrev pub Releases : Step (Stored X C R) → Knows X C R → ℕ → Knows X C R → Type 0
  Releases st m found m' = m' ≡ (view m.0.seen m.0.mine m.0.share m.0.alone m.0.first false false None, rest m.1)

  -- what the rule says of a view: what was seen is legal; of two lists that were joined the shorter is a prefix of the longer; it holds no
  -- more units than there are; and where it has all of the object, each call that was seen is its own
  pub record Facts (steps : X → C → R → X → Type 0) (v : View X C R) : Type 0 where
    pub own : IsOwn v
    pub legal : (f : X) → v.first ≡ Some f → IsLegal steps f v.seen
    pub behind : length v.less ≤ length v.seen → IsPrefix v.less v.seen
    pub limited : v.share.units ≤ v.share.total
    pub covered : IsWhole v.share → v.mine ≡ places_below (length v.seen)

  -- learn after a join: a load that tells these facts and changes nothing
  abbrev pub Learns : (X → C → R → X → Type 0) → Step (Stored X C R) → Knows X C R → ℕ → Knows X C R → Type 0
  Learns steps st m found m' = Facts steps m.0 × (m' ≡ m)
