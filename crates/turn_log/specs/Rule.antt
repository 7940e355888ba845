-- The rule of an object that threads call in turns. Word 0 counts the calls, word 1 is the turn, and the slot holds the value.
use Rattle.std.specs.Prelude.{◌≡◌, ◌⊎◌, ◌<◌, ◌≤◌, ℕ, true, List, [], ◌∷◌, length, map, Some}
use mathlib.Core.Option.{Option as Maybe, some, none}
use lib.ListN.{get_elem?}
use Rattle.atomic_table.specs.Table.{State}
use Rattle.turn_log.specs.Runs.{IsPrefix, Runs, call_limit}
use Rattle.turn_log.specs.Places.{IsIn, Rising, places_below}
use Rattle.turn_log.specs.Shares.{IsWhole, all_of}
use Rattle.turn_log.specs.declared.view.Share.{Share}
use Rattle.turn_log.specs.declared.view.Stored.{Stored}
use Rattle.turn_log.specs.declared.view.View.{View}

module _ {X C R : Type 0} where
  -- what the rule says of the view of the seat `by`, of so many
  pub record ViewInvariant (log : List (C × R)) (first now : X) (turn holder : ℕ) (owner : ℕ → ℕ) (count by : ℕ) (v : View X C R) : Type 0 where
    -- it names the state in which the object began, if it names one
    pub origin : (x : X) → v.first ≡ Some x → x ≡ first
    -- it has seen a prefix of the list
    pub begins : IsPrefix v.seen log
    pub behind : IsPrefix v.less log
    -- where it holds the turn, it is the one that does, and names the state that the list leaves
    pub turn_is : v.holds ≡ true → (turn ≡ 1) × (by ≡ holder) × (v.now ≡ Some now)
    -- where it has loaded the count since it took the turn, it has seen the whole list
    pub whole : v.holds ≡ true → v.fresh ≡ true → v.seen ≡ log
    -- its places rise, lie in what it has seen, and have this seat as their owner
    pub places : (p : ℕ) → IsIn p v.mine → (p < length v.seen) × (owner p ≡ by)
    pub rising : Rising v.mine
    -- there are units; where it holds none, no place is its own
    pub units : 0 < v.share.total
    pub spent : v.share.units ≡ 0 → (p : ℕ) → IsIn p v.mine → ⊥
    -- where it is alone, it is the only one, and all places are its own
    pub only : v.alone ≡ true → (count ≡ 1) × (v.mine ≡ places_below (length log))

  abbrev pub share_in : View X C R → Share
  share_in v = v.share

  -- the turn is free, or the seat of this number holds it
  abbrev pub Held : List (View X C R) → ℕ → ℕ → Type 0
  Held views turn holder = (turn ≡ 0) ⊎ ((turn ≡ 1) × (v : View X C R) × (get_elem? views holder ≡ some v) × (v.holds ≡ true))

  -- each place of the list is its owner's
  abbrev pub Placed : List (View X C R) → List (C × R) → (ℕ → ℕ) → Type 0
  Placed views log owner = (p : ℕ) → p < length log → (v : View X C R) × (get_elem? views (owner p) ≡ some v) × IsIn p v.mine

  -- what holds between any two steps, in the form that each step keeps
  pub record TurnInvariant (steps : X → C → R → X → Type 0) (s : State (Stored X C R) (View X C R)) : Type 0 where
    -- the list of all calls, which leads from the first state to the one now
    pub log : List (C × R)
    pub first : X
    pub now : X
    pub runs : Runs steps first log now
    -- the words are its length, which is limited, and the turn; there is one slot
    pub turn : ℕ
    pub words : s.words ≡ length log ∷ turn ∷ []
    pub room : length log ≤ call_limit
    pub home : Maybe (Stored X C R)
    pub homes : s.homes ≡ home ∷ []
    -- the seat that holds the turn, if one does; then the slot is empty, and else the value in the state now lies there
    pub holder : ℕ
    pub held : Held s.views turn holder
    pub out : turn ≡ 1 → home ≡ none
    pub free : turn ≡ 0 → (c : Stored X C R) × (home ≡ some c) × (c.value ≡ Some now)
    -- each place has one owner, whose view has it; each view is as said above
    pub owner : ℕ → ℕ
    pub placed : Placed s.views log owner
    -- all shares together are the whole
    pub shares : IsWhole (all_of (map share_in s.views))
    pub each : (by : ℕ) (v : View X C R) → get_elem? s.views by ≡ some v → ViewInvariant log first now turn holder owner (length s.views) by v
