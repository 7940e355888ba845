-- What holds between any two steps of any threads, line by line.
use Rattle.std.specs.Prelude.{◌≡◌, ◌≢◌, ◌<◌, ◌≤◌, ℕ, true, List, [], ◌∷◌, length, map, Some}
use mathlib.Core.Option.{Option as Maybe, some}
use lib.ListN.{get_elem?}
use Rattle.atomic_table.specs.Table.{State}
use Rattle.turn_log.specs.Runs.{IsPrefix, Runs, call_limit}
use Rattle.turn_log.specs.Places.{IsIn, places_below}
use Rattle.turn_log.specs.Rule.{TurnInvariant, share_in}
use Rattle.turn_log.specs.Shares.{IsWhole, all_of}
use Rattle.turn_log.specs.declared.view.Stored.{Stored}
use Rattle.turn_log.specs.declared.view.View.{View}

module _ {X C R : Type 0} where
  -- the seat of this number has this view
  abbrev pub HasView : State (Stored X C R) (View X C R) → ℕ → View X C R → Type 0
  HasView s id v = get_elem? s.views id ≡ some v

  -- the seat of this number holds the turn
  abbrev pub HoldsTurn : State (Stored X C R) (View X C R) → ℕ → Type 0
  HoldsTurn s id = (v : View X C R) × HasView s id v × (v.holds ≡ true)

  pub record Between (steps : X → C → R → X → Type 0) (s : State (Stored X C R) (View X C R)) : Type 0 where
    -- there is one legal list, which leaves the state `now`
    pub log : List (C × R)
    pub first : X
    pub now : X
    pub legal : Runs steps first log now
    -- its length is word 0, at most 2^62, and word 1 is 0 or 1
    pub turn : ℕ
    pub words : s.words ≡ length log ∷ turn ∷ []
    pub room : length log ≤ call_limit
    pub bit : turn < 2
    -- word 1 is 1 exactly where a view holds the turn, and then one does
    pub some_holds : turn ≡ 1 → (id : ℕ) × HoldsTurn s id
    pub turn_taken : (id : ℕ) → HoldsTurn s id → turn ≡ 1
    pub one_holds : (id other : ℕ) → HoldsTurn s id → HoldsTurn s other → id ≡ other
    -- every `seen` begins the list
    pub seen : (id : ℕ) (v : View X C R) → HasView s id v → IsPrefix v.seen log
    -- the places in all `mine` are below word 0, and no place stands in two
    pub places : (id : ℕ) (v : View X C R) (p : ℕ) → HasView s id v → IsIn p v.mine → p < length log
    pub apart : (id other : ℕ) (v w : View X C R) (p : ℕ) → HasView s id v → HasView s other w → IsIn p v.mine → IsIn p w.mine → id ≡ other
    -- there is one slot, and a value that lies in it is in the state that the list leaves
    pub home : Maybe (Stored X C R)
    pub slot : s.homes ≡ home ∷ []
    pub lies_in_state : (c : Stored X C R) → home ≡ some c → c.value ≡ Some now
    -- while nobody holds the turn, the value lies in the slot
    pub lies : ((id : ℕ) → HoldsTurn s id → ⊥) → (c : Stored X C R) × (home ≡ some c)
    -- a view that holds the turn names the state that the list leaves
    pub named : (id : ℕ) (v : View X C R) → HasView s id v → v.holds ≡ true → v.now ≡ Some now
    -- one that also has loaded the count since it took the turn has seen the whole list
    pub whole : (id : ℕ) (v : View X C R) → HasView s id v → v.holds ≡ true → v.fresh ≡ true → v.seen ≡ log
    -- the shares of all views together are the whole; where one holds the whole, each other holds nothing, and has no place
    pub shares : IsWhole (all_of (map share_in s.views))
    pub sole : (id other : ℕ) (v w : View X C R) → HasView s id v → HasView s other w → IsWhole v.share → id ≢ other → (w.share.units ≡ 0) × ((p : ℕ) → IsIn p w.mine → ⊥)
    -- such a view has each place below word 0
    pub covered : (id : ℕ) (v : View X C R) → HasView s id v → IsWhole v.share → v.mine ≡ places_below (length log)
    -- a view that is alone is the one view, and each place below word 0 stands in its `mine`
    pub one_view : (id : ℕ) (v : View X C R) → HasView s id v → v.alone ≡ true → length s.views ≡ 1
    pub all_mine : (id : ℕ) (v : View X C R) (p : ℕ) → HasView s id v → v.alone ≡ true → p < length log → IsIn p v.mine

  -- the rule keeps all of it
  abbrev pub KeepsBetween : (X → C → R → X → Type 0) → Type 0
  KeepsBetween steps = (s : State (Stored X C R) (View X C R)) → TurnInvariant steps s → Between steps s
