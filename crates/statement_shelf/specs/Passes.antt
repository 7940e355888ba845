-- What a pass knows of the parts of the cache and of the book, and what calls add to it.
use Rattle.std.specs.Prelude.{◌≡◌, ◌<◌, ℕ, zero, suc, List, [], ◌∷◌, length, sum, slice_get, Some, ⊤}
use Rattle.std.specs.declared.snapshot.Snapshot.{Snapshot}
use Rattle.turn_log.specs.Runs.{Adds, call_limit}
use Rattle.turn_log.specs.Gains.{Known}
use Rattle.turn_log.specs.Groups.{AddsOnPart, AreOf, EndsOnPart, known, opened}
use Rattle.turn_log.specs.declared.kept.KeptTable.{KeptTable}
use Rattle.turn_log.specs.declared.pass.PassSeat.{PassSeat}
use Rattle.turn_log.specs.declared.group.Group.{Group}
use Rattle.statement_shelf.specs.Entries.{Part, part_count, part_of}
use Rattle.statement_shelf.specs.Shelf.{ShelfStep}
use Rattle.statement_shelf.specs.Book.{Book, BookStep}
use Rattle.statement_shelf.specs.declared.calls.ShelfCall.{ShelfCall}
use Rattle.statement_shelf.specs.declared.calls.ShelfCall.TheVariants.{Look, Put, Prove, Purge}
use Rattle.statement_shelf.specs.declared.calls.ShelfReply.{ShelfReply}
use Rattle.statement_shelf.specs.declared.calls.ShelfReply.TheVariants.{Dropped}
use Rattle.statement_shelf.specs.declared.calls.BookCall.{BookCall}
use Rattle.statement_shelf.specs.declared.calls.BookReply.{BookReply}
use Rattle.statement_shelf.specs.declared.commons.SharedCommons.{SharedCommons}

-- the nine objects that callers share
abbrev pub AllCommons : Type 0 → Type 0 → Type 0 → Type 0 → Type 0 → Type 0 → Type 0
AllCommons S V Q T W U = SharedCommons (Group (KeptTable S V (Snapshot Part) Q) (KeptTable T W (Snapshot Book) U))

-- what a caller holds of them
abbrev pub CommonsPass : Type 0 → Type 0 → Type 0
CommonsPass S T = Group (PassSeat S Part ShelfCall ShelfReply) (PassSeat T Book BookCall BookReply)

-- what is known of the nine objects
abbrev pub CommonsKnown : Type 0
CommonsKnown = Known ShelfCall ShelfReply BookCall BookReply

module _ {S T : Type 0} where
  -- the calls on a part, and on the book, that a pass has seen, in their order
  abbrev pub seen_of_part : ℕ → CommonsPass S T → List (ShelfCall × ShelfReply)
  seen_of_part p pass = ((known pass).part p).seen

  abbrev pub seen_of_book : CommonsPass S T → List (BookCall × BookReply)
  seen_of_book pass = (known pass).book.seen

module _ {S V Q T W U : Type 0} where
  -- the book as it was opened
  abbrev pub opened_book : AllCommons S V Q T W U → Book
  opened_book commons = opened commons.nine

  -- the pass is of these objects: it has seen a legal list of each, from empty parts and the opened book on
  abbrev pub IsPassOfAll : AllCommons S V Q T W U → CommonsPass S T → Type 0
  IsPassOfAll commons pass = AreOf ShelfStep [] BookStep commons.nine pass

-- the one Purge on a part, where the numbers that were dropped from the first parts on are these
abbrev pub purge_at : ℕ → List ℕ → ℕ → List (ShelfCall × ShelfReply)
purge_at moment [] p = []
purge_at moment (n ∷ counts) zero = (Purge moment, Dropped n) ∷ []
purge_at moment (n ∷ counts) (suc p) = purge_at moment counts p

-- the first parts were purged in turn, each of them dropped so many, and no other call was made
pub record ArePurged (moment : ℕ) (counts : List ℕ) (old new : CommonsKnown) : Type 0 where
  pub parts : (p : ℕ) → Adds (old.part p) (new.part p) (purge_at moment counts p)
  pub book : new.book ≡ old.book

-- all parts were purged, and dropped so many together
abbrev pub IsPurgeOfAll : ℕ → ℕ → CommonsKnown → CommonsKnown → Type 0
IsPurgeOfAll moment n old new = (counts : List ℕ) × (length counts ≡ part_count) × (sum counts ≡ n) × ArePurged moment counts old new

-- the parts before one that is worn were purged
abbrev pub IsPurgeOfSome : ℕ → CommonsKnown → CommonsKnown → Type 0
IsPurgeOfSome moment old new = (counts : List ℕ) × (length counts < part_count) × ArePurged moment counts old new × (length (new.part (length counts)).seen ≡ call_limit)

-- a call on the cache: on the part of its URL, or a Purge on each part
abbrev pub IsShelfCall : ShelfCall → ShelfReply → CommonsKnown → CommonsKnown → Type 0
IsShelfCall (Look url moment) reply old new = AddsOnPart old (part_of url) ((Look url moment, reply) ∷ []) new
IsShelfCall (Put url text until) reply old new = AddsOnPart old (part_of url) ((Put url text until, reply) ∷ []) new
IsShelfCall (Prove url seal) reply old new = AddsOnPart old (part_of url) ((Prove url seal, reply) ∷ []) new
IsShelfCall (Purge moment) (Dropped n) old new = IsPurgeOfAll moment n old new
IsShelfCall (Purge moment) reply old new = ⊥

-- no call on a part that is worn
abbrev pub IsWornPart : ℕ → CommonsKnown → CommonsKnown → Type 0
IsWornPart p old new = AddsOnPart old p [] new × (length (new.part p).seen ≡ call_limit)

abbrev pub IsWornCall : ShelfCall → CommonsKnown → CommonsKnown → Type 0
IsWornCall (Look url moment) old new = IsWornPart (part_of url) old new
IsWornCall (Put url text until) old new = IsWornPart (part_of url) old new
IsWornCall (Prove url seal) old new = IsWornPart (part_of url) old new
IsWornCall (Purge moment) old new = IsPurgeOfSome moment old new

module _ {S T : Type 0} where
  -- of each of the first parts the Purge is the last call that was seen, and dropped so many
  abbrev pub PurgesEnd : ℕ → List ℕ → CommonsPass S T → CommonsPass S T → Type 0
  PurgesEnd moment counts old new = (p n : ℕ) → slice_get counts p ≡ Some n → EndsOnPart old p (Purge moment, Dropped n) new

  -- a call on the cache is the last call that was seen: of the part of its URL, or a Purge of each part
  abbrev pub EndsShelfCall : ShelfCall → ShelfReply → CommonsPass S T → CommonsPass S T → Type 0
  EndsShelfCall (Look url moment) reply old new = EndsOnPart old (part_of url) (Look url moment, reply) new
  EndsShelfCall (Put url text until) reply old new = EndsOnPart old (part_of url) (Put url text until, reply) new
  EndsShelfCall (Prove url seal) reply old new = EndsOnPart old (part_of url) (Prove url seal, reply) new
  EndsShelfCall (Purge moment) (Dropped n) old new = (counts : List ℕ) × (length counts ≡ part_count) × (sum counts ≡ n) × PurgesEnd moment counts old new
  EndsShelfCall (Purge moment) reply old new = ⊥

  -- a Purge that met a worn part is the last call that was seen of each part before it, none of which was worn
  abbrev pub EndsWornCall : ShelfCall → CommonsPass S T → CommonsPass S T → Type 0
  EndsWornCall (Purge moment) old new = (counts : List ℕ) × (length counts < part_count) × PurgesEnd moment counts old new × (length (seen_of_part (length counts) new) ≡ call_limit)
  EndsWornCall call old new = ⊤
