-- What the rule keeps of a pass, and what the steps make of it.
use Rattle.std.specs.Prelude.{◌≡◌, ◌<◌, ℕ, Bool, true, false, List, [], ◌∷◌, ◌++◌, length, Some, None}
use Rattle.std.specs.declared.option.Option.{Option}
use Rattle.std.specs.declared.snapshot.Snapshot.{Snapshot}
use Rattle.atomic_table.specs.Table.{Me}
use Rattle.turn_log.specs.Places.{IsIn, Rising, longer, merged, shorter}
use Rattle.turn_log.specs.Shares.{added, halved, no_share, whole_share}
use Rattle.turn_log.specs.declared.view.Share.{Share}
use Rattle.turn_log.specs.declared.view.Stored.{Stored}
use Rattle.turn_log.specs.declared.view.View.{View}

-- a view, and what its seat has in its hands
abbrev pub Knows : Type 0 → Type 0 → Type 0 → Type 0
Knows X C R = Me (Stored X C R) (View X C R)

-- the call that was made last, with its reply
abbrev pub event_in : {C R : Type 0} → Option (Snapshot C) → Option (Snapshot R) → List (C × R)
event_in {C} {R} (Some c) (Some r) = (c.value, r.value) ∷ []
event_in {C} {R} (Some c) None = []
event_in {C} {R} None r = []

module _ {X C R : Type 0} where
  -- a view by its eight fields, of which none was joined
  abbrev pub view : List (C × R) → List ℕ → Share → Bool → Option X → Bool → Bool → Option X → View X C R
  view s m p a f h k n = record { seen = s; mine = m; share = p; alone = a; first = f; holds = h; fresh = k; now = n; less = [] }

  -- the view of an object's first pass, which has seen nothing, has all of the object and is alone
  abbrev pub first_view : X → View X C R
  first_view x = view [] [] whole_share true (Some x) false false None

  -- what a split leaves: the same with half the share, and not alone any more
  abbrev pub kept_by_split : View X C R → View X C R
  kept_by_split v = view v.seen v.mine (halved v.share) false v.first v.holds v.fresh v.now

  -- what a split gives: the same was seen, and no call made; the other half of the share
  abbrev pub given_by_split : View X C R → View X C R
  given_by_split v = view v.seen [] (halved v.share) false v.first false false None

  -- what a join leaves: the longer list, and the places and shares of both
  abbrev pub joined_view : View X C R → View X C R → View X C R
  joined_view v w = record {
    seen = longer v.seen w.seen;
    mine = merged v.mine w.mine;
    share = added v.share w.share;
    alone = false;
    first = v.first;
    holds = false;
    fresh = false;
    now = None;
    less = shorter v.seen w.seen;
  }

  -- what a join leaves of the other view
  abbrev pub spent_view : View X C R
  spent_view = view [] [] no_share false None false false None

  -- the call of what is in the hands
  abbrev pub event_of : List (ℕ × Stored X C R) → List (C × R)
  event_of [] = []
  event_of (x ∷ xs) = event_in x.1.call x.1.reply

  -- the value of what is in the hands
  abbrev pub value_of : List (ℕ × Stored X C R) → Option X
  value_of [] = None
  value_of (x ∷ xs) = x.1.value

  -- the view once the call in the hands is committed
  abbrev pub committed : View X C R → List (ℕ × Stored X C R) → View X C R
  committed v held = view (v.seen ++ event_of held) (v.mine ++ length v.seen ∷ []) v.share v.alone v.first true true (value_of held)

  -- the own places rise, and each lies in what was seen
  pub record IsOwn (v : View X C R) : Type 0 where
    pub rising : Rising v.mine
    pub within : (p : ℕ) → IsIn p v.mine → p < length v.seen

module _ {S X C R : Type 0} where
  -- the pass doesn't hold the turn, and has nothing in its hands
  pub record IsIdle (m : Me S (View X C R)) : Type 0 where
    pub hands : m.1 ≡ []
    pub holds : m.0.holds ≡ false
