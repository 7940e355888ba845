-- A pass as its caller sees it, and what the calls of an object do to it.
use Rattle.std.specs.Prelude.{◌≡◌, ◌<◌, ℕ, Bool, true, List, [], ◌∷◌, ◌++◌, length, Some}
use Rattle.atomic_table.specs.Seated.{TableId}
use Rattle.turn_log.specs.Runs.{Account, IsLegal, IsPrefix, call_limit}
use Rattle.turn_log.specs.Places.{IsIn, places_below, longer, merged}
use Rattle.turn_log.specs.Shares.{added, halved, whole_share}
use Rattle.turn_log.specs.declared.pass.PassSeat.{PassSeat}

-- nothing was seen, and all of the object is held
abbrev pub unused : {C R : Type 0} → Account C R
unused {C} {R} = record { seen = []; mine = []; share = whole_share }

-- the same was seen, and no call is the own; half the share
abbrev pub untaken : {C R : Type 0} → Account C R → Account C R
untaken {C} {R} a = record { seen = a.seen; mine = []; share = halved a.share }

-- the same with half the share
abbrev pub lent : {C R : Type 0} → Account C R → Account C R
lent {C} {R} a = record a { share = halved a.share }

-- the same was seen, and the same calls are the own, whatever the share
pub record IsSameBut {C R : Type 0} (old new : Account C R) : Type 0 where
  pub seen : new.seen ≡ old.seen
  pub mine : new.mine ≡ old.mine

module _ {S X C R : Type 0} where
  -- what the pass has seen, which calls were its own, and its share
  abbrev pub account : PassSeat S X C R → Account C R
  account pass = record { seen = pass.seat.me.0.seen; mine = pass.seat.me.0.mine; share = pass.seat.me.0.share }

  -- the pass is the only one of its object
  abbrev pub is_alone : PassSeat S X C R → Bool
  is_alone pass = pass.seat.me.0.alone

  -- the pass is the only one, and each call of the object is its own
  abbrev pub OwnsAll : PassSeat S X C R → Type 0
  OwnsAll pass = (is_alone pass ≡ true) × ((account pass).mine ≡ places_below (length (account pass).seen))

  -- the pass is of this object, which began in this state, and has seen a legal prefix of its calls
  pub record IsPassOf (steps : X → C → R → X → Type 0) (object : TableId) (first : X) (pass : PassSeat S X C R) : Type 0 where
    pub table : pass.seat.table_id ≡ object
    pub origin : pass.seat.me.0.first ≡ Some first
    pub legal : IsLegal steps first (account pass).seen

  -- one call more: what is seen now begins with all that was seen before and ends with the call, whose place is the caller's own
  pub record Extends (old : PassSeat S X C R) (call : C) (reply : R) (new : PassSeat S X C R) : Type 0 where
    pub between : List (C × R)
    pub room : length ((account old).seen ++ between) < call_limit
    pub seen : (account new).seen ≡ ((account old).seen ++ between) ++ (call, reply) ∷ []
    pub mine : (account new).mine ≡ (account old).mine ++ length ((account old).seen ++ between) ∷ []
    pub alone : is_alone new ≡ is_alone old
    pub whole : is_alone old ≡ true → (account new).mine ≡ places_below (length (account new).seen)
    pub share : (account new).share ≡ (account old).share

  -- no call: the object has counted all calls that it can count, and they were all seen
  pub record IsWorn (old : PassSeat S X C R) (count : ℕ) (new : PassSeat S X C R) : Type 0 where
    pub counted : count ≡ call_limit
    pub all : length (account new).seen ≡ call_limit
    pub seen : IsPrefix (account old).seen (account new).seen
    pub mine : (account new).mine ≡ (account old).mine
    pub alone : is_alone new ≡ is_alone old
    pub share : (account new).share ≡ (account old).share

module _ {C R : Type 0} where
  -- each call that was seen is the caller's own
  abbrev pub OwnsSeen : Account C R → Type 0
  OwnsSeen a = a.mine ≡ places_below (length a.seen)

  -- one call more: what is seen now is all that was seen before, then calls of others, and last this call, whose place is the caller's own;
  -- there was room for it
  pub record EndsInCall (old new : Account C R) (call : C × R) : Type 0 where
    pub between : List (C × R)
    pub room : length (old.seen ++ between) < call_limit
    pub seen : new.seen ≡ (old.seen ++ between) ++ call ∷ []
    pub mine : new.mine ≡ old.mine ++ length (old.seen ++ between) ∷ []

  -- the longer of what two had seen, and the places of both, which had none in common; and the shares of both
  pub record IsJoined (old other new : Account C R) : Type 0 where
    pub seen : new.seen ≡ longer old.seen other.seen
    pub mine : new.mine ≡ merged old.mine other.mine
    pub share : new.share ≡ added old.share other.share
    pub begins : IsPrefix old.seen new.seen
    pub begins_other : IsPrefix other.seen new.seen
    pub apart : (place : ℕ) → IsIn place old.mine → IsIn place other.mine → ⊥
