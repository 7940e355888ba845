-- What a caller knows of eight objects of one kind and one of another, and what its calls add.
use Rattle.std.specs.Prelude.{◌≡◌, ◌≢◌, ◌<◌, ℕ, Bool, true, List}
use Rattle.std.specs.declared.snapshot.Snapshot.{Snapshot}
use Rattle.turn_log.specs.Runs.{Adds, IsAccount, IsLegal}
use Rattle.turn_log.specs.Gains.{Known}
use Rattle.turn_log.specs.Passes.{account, is_alone, untaken, unused, EndsInCall, IsJoined, IsSameBut, OwnsAll, OwnsSeen}
use Rattle.turn_log.specs.Shares.{halved}
use Rattle.turn_log.specs.Objects.{first_state, IsOf}
use Rattle.turn_log.specs.Parts.{AllOwned, ArePasses, account_at, alone_at}
use Rattle.turn_log.specs.declared.kept.KeptTable.{KeptTable}
use Rattle.turn_log.specs.declared.pass.PassSeat.{PassSeat}
use Rattle.turn_log.specs.declared.group.Group.{Group}

-- how many parts there are
abbrev pub part_count : ℕ
part_count = 8

module _ {C R D Q : Type 0} where
  -- on this part these calls were added, and none on another object
  pub record AddsOnPart (old : Known C R D Q) (at : ℕ) (calls : List (C × R)) (new : Known C R D Q) : Type 0 where
    pub here : Adds (old.part at) (new.part at) calls
    pub elsewhere : (p : ℕ) → p ≢ at → new.part p ≡ old.part p
    pub book : new.book ≡ old.book

  -- on the book these calls were added, and none on a part
  pub record AddsOnBook (old : Known C R D Q) (calls : List (D × Q)) (new : Known C R D Q) : Type 0 where
    pub here : Adds old.book new.book calls
    pub parts : (p : ℕ) → new.part p ≡ old.part p

  -- of each object the same was seen, and the same calls are the own
  pub record IsSame (old new : Known C R D Q) : Type 0 where
    pub parts : (p : ℕ) → IsSameBut (old.part p) (new.part p)
    pub book : IsSameBut old.book new.book

  -- half the share of each object is left
  pub record AreHalved (old new : Known C R D Q) : Type 0 where
    pub parts : (p : ℕ) → p < part_count → (new.part p).share ≡ halved (old.part p).share
    pub book : new.book.share ≡ halved old.book.share

  -- of each object the same was seen, and no call made; half the share
  pub record IsUntaken (old new : Known C R D Q) : Type 0 where
    pub parts : (p : ℕ) → p < part_count → new.part p ≡ untaken (old.part p)
    pub book : new.book ≡ untaken old.book

  -- of each object the longer list, and the places and shares of both
  pub record AreJoined (old other new : Known C R D Q) : Type 0 where
    pub parts : (p : ℕ) → p < part_count → IsJoined (old.part p) (other.part p) (new.part p)
    pub book : IsJoined old.book other.book new.book

module _ {X C R Y D Q : Type 0} where
  -- the calls that were seen are legal, from the state in which each object began, and the own places among them rise
  pub record IsHistory (part_steps : X → C → R → X → Type 0) (first : X) (book_steps : Y → D → Q → Y → Type 0) (opened : Y) (known : Known C R D Q) : Type 0 where
    pub parts_legal : (p : ℕ) → p < part_count → IsLegal part_steps first (known.part p).seen
    pub book_legal : IsLegal book_steps opened known.book.seen
    pub parts_own : (p : ℕ) → p < part_count → IsAccount (known.part p)
    pub book_own : IsAccount known.book

module _ {S X C R T Y D Q : Type 0} where
  -- what was seen of each object, and which calls were the caller's own
  abbrev pub known : Group (PassSeat S X C R) (PassSeat T Y D Q) → Known C R D Q
  known pass = record { part = account_at pass.parts.items; book = account pass.book }

  -- the caller's pass on this part is the only one
  abbrev pub is_alone_on : Group (PassSeat S X C R) (PassSeat T Y D Q) → ℕ → Bool
  is_alone_on pass = alone_at pass.parts.items

  -- of each object the pass is the only one where it was before
  pub record StaysAlone (old new : Group (PassSeat S X C R) (PassSeat T Y D Q)) : Type 0 where
    pub parts : (p : ℕ) → is_alone_on new p ≡ is_alone_on old p
    pub book : is_alone new.book ≡ is_alone old.book

  -- this call is the last that was seen of this part; a caller who is alone there has seen its own calls only
  pub record EndsOnPart (old : Group (PassSeat S X C R) (PassSeat T Y D Q)) (at : ℕ) (call : C × R) (new : Group (PassSeat S X C R) (PassSeat T Y D Q)) : Type 0 where
    pub here : EndsInCall ((known old).part at) ((known new).part at) call
    pub whole : is_alone_on old at ≡ true → OwnsSeen ((known new).part at)

  -- the same of the book
  pub record EndsOnBook (old : Group (PassSeat S X C R) (PassSeat T Y D Q)) (call : D × Q) (new : Group (PassSeat S X C R) (PassSeat T Y D Q)) : Type 0 where
    pub here : EndsInCall (known old).book (known new).book call
    pub whole : is_alone old.book ≡ true → OwnsSeen (known new).book

  -- the caller is the only one, and each call on the nine is its own
  pub record OwnsEach (pass : Group (PassSeat S X C R) (PassSeat T Y D Q)) : Type 0 where
    pub parts_owned : AllOwned pass.parts.items
    pub book_owned : OwnsAll pass.book

  -- nothing was seen of any object
  pub record IsUnused (pass : Group (PassSeat S X C R) (PassSeat T Y D Q)) : Type 0 where
    pub parts_unused : (p : ℕ) → (known pass).part p ≡ unused
    pub book_unused : (known pass).book ≡ unused

module _ {S V X Q T W Y U : Type 0} where
  -- the state in which the book began
  abbrev pub opened : Group (KeptTable S V (Snapshot X) Q) (KeptTable T W (Snapshot Y) U) → Y
  opened nine = first_state nine.book

module _ {S V X C R Q T W Y D P U : Type 0} where
  -- each pass is of its object, and the parts began in this state
  pub record AreOf (part_steps : X → C → R → X → Type 0) (first : X) (book_steps : Y → D → P → Y → Type 0) (nine : Group (KeptTable S V (Snapshot X) Q) (KeptTable T W (Snapshot Y) U)) (pass : Group (PassSeat S X C R) (PassSeat T Y D P)) : Type 0 where
    pub parts_of : ArePasses part_steps first nine.parts.items pass.parts.items
    pub book_of : IsOf book_steps nine.book pass.book
