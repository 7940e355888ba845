-- The calls on the cache and on the book that a resolver makes, as its pass gains them and as its trace tells them.
use Rattle.std.specs.Prelude.{◌≡◌, ◌<◌, ◌⊎◌, ℕ, List, [], ◌∷◌, ◌++◌, length, nat_eq, if◌then◌else◌}
use Rattle.std.specs.declared.snapshot.Snapshot.{Snapshot}
use Rattle.turn_log.specs.Runs.{call_limit}
use Rattle.turn_log.specs.Gains.{Gains}
use Rattle.turn_log.specs.Groups.{OwnsEach, part_count}
use Rattle.turn_log.specs.declared.kept.KeptTable.{KeptTable}
use Rattle.turn_log.specs.declared.group.Group.{Group}
use Rattle.chain_climb.specs.Elements.{Among}
use Rattle.statement_shelf.specs.Book.{Book}
use Rattle.statement_shelf.specs.Entries.{Part, part_of}
use Rattle.statement_shelf.specs.Passes.{CommonsKnown, CommonsPass, IsPassOfAll}
use Rattle.statement_shelf.specs.declared.calls.ShelfCall.{ShelfCall}
use Rattle.statement_shelf.specs.declared.calls.ShelfCall.TheVariants.{Look, Put, Prove, Purge}
use Rattle.statement_shelf.specs.declared.calls.ShelfReply.{ShelfReply}
use Rattle.statement_shelf.specs.declared.calls.ShelfReply.TheVariants as reply
use Rattle.statement_shelf.specs.declared.calls.BookCall.{BookCall}
use Rattle.statement_shelf.specs.declared.calls.BookReply.{BookReply}
use Rattle.statement_shelf.specs.declared.commons.SharedCommons.{SharedCommons}
use Rattle.resolve_round.specs.declared.halt.Halt.{Halt}
use Rattle.resolve_round.specs.declared.halt.Halt.TheVariants as halt
use Rattle.resolve_round.specs.declared.trace.Event.{Event}
use Rattle.resolve_round.specs.declared.trace.Event.TheVariants.{Shelf, Book as OnBook}
use Rattle.resolve_round.specs.Traces.{IsWork, ShelfEvent}

-- a call on the part of this URL, as a call on the part of this number
abbrev pub told_there : ℕ → List ℕ → ShelfEvent → List ShelfEvent
told_there p url e = if nat_eq (part_of url) p then e ∷ [] else []

-- the call of an event on a part of the cache, and on the book
abbrev pub on_part : ℕ → Event → List ShelfEvent
on_part p (Shelf (Look url moment) r) = told_there p url (Look url moment, r)
on_part p (Shelf (Put url text until) r) = told_there p url (Put url text until, r)
on_part p (Shelf (Prove url seal) r) = told_there p url (Prove url seal, r)
on_part p (Shelf (Purge moment) r) = []
on_part p (OnBook call r) = []

abbrev pub on_book : Event → List (BookCall × BookReply)
on_book (Shelf call r) = []
on_book (OnBook call r) = (call, r) ∷ []

-- the calls that a pass gained are these events, object by object and in order
abbrev pub GainsEvents : CommonsKnown → CommonsKnown → List Event → Type 0
GainsEvents old new events = Gains on_part on_book old new events

-- Looks, Puts and Proves were added to the events, and are the calls that the pass gained
pub record Continues (old new : List Event) (before after : CommonsKnown) : Type 0 where
  pub more : List Event
  pub are : new ≡ old ++ more
  pub works : (event : Event) → Among event more → IsWork event
  pub gains : GainsEvents before after more

-- a Look, a Put or a Prove
abbrev pub IsWorkCall : ShelfCall → Type 0
IsWorkCall (Look url moment) = Unit {0}
IsWorkCall (Put url text until) = Unit {0}
IsWorkCall (Prove url seal) = Unit {0}
IsWorkCall (Purge moment) = ⊥

-- a reply to such a call
abbrev pub CanReply : ShelfCall → ShelfReply → Type 0
CanReply (Look url moment) (reply.Hit proven) = Unit {0}
CanReply (Look url moment) reply.Miss = Unit {0}
CanReply (Look url moment) reply.Memory = Unit {0}
CanReply (Put url text until) reply.Done = Unit {0}
CanReply (Put url text until) reply.Memory = Unit {0}
CanReply (Prove url seal) reply.Done = Unit {0}
CanReply (Prove url seal) reply.Gone = Unit {0}
CanReply call r = ⊥

-- the call was added to the events with its reply
pub record IsRecorded (old : List Event) (call : ShelfCall) (new : List Event) : Type 0 where
  pub answer : ShelfReply
  pub is : new ≡ old ++ Shelf call answer ∷ []
  pub can : CanReply call answer

-- one of the nine objects has counted so many calls
abbrev pub HasCounted : CommonsKnown → ℕ → Type 0
HasCounted known n = (length known.book.seen ≡ n) ⊎ ((p : ℕ) × (p < part_count) × (length (known.part p).seen ≡ n))

-- a worn object is one that has counted all that it can
abbrev pub IsHalt : CommonsKnown → Halt → Type 0
IsHalt known (halt.Worn count) = (count ≡ call_limit) × HasCounted known count
IsHalt known halt.Memory = Unit {0}

module _ {S V Q T W U : Type 0} where
  -- the pass stays one of these objects, and where it was alone it still owns each call
  pub record IsKept (commons : SharedCommons (Group (KeptTable S V (Snapshot Part) Q) (KeptTable T W (Snapshot Book) U))) (old new : CommonsPass S T) : Type 0 where
    pub of : IsPassOfAll commons new
    pub whole : OwnsEach old → OwnsEach new
