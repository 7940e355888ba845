-- What a Look adds to the events.
use Rattle.std.specs.Prelude.{◌≡◌, ◌⊎◌, ℕ, List, [], ◌∷◌, ◌++◌, Option, Some, None}
use Rattle.statement_shelf.specs.declared.calls.Proven.{Proven}
use Rattle.statement_shelf.specs.declared.calls.ShelfCall.TheVariants.{Look}
use Rattle.statement_shelf.specs.declared.calls.ShelfReply.{ShelfReply}
use Rattle.statement_shelf.specs.declared.calls.ShelfReply.TheVariants.{Hit, Miss}
use Rattle.resolve_round.specs.declared.trace.Event.{Event}
use Rattle.resolve_round.specs.declared.trace.Event.TheVariants.{Shelf}
use Rattle.resolve_round.specs.Acts.{CanReply}

-- the Look was added with the reply that told this, or nothing
abbrev pub reply_of : Option Proven → ShelfReply
reply_of None = Miss
reply_of (Some proven) = Hit proven

abbrev pub HasLooked : List Event → List ℕ → ℕ → List Event → Option Proven → Type 0
HasLooked old url moment new told = new ≡ old ++ Shelf (Look url moment) (reply_of told) ∷ []

-- nothing was added, or a Look with some reply
abbrev pub HasTriedLook : List Event → List ℕ → ℕ → List Event → Type 0
HasTriedLook old url moment new = (new ≡ old) ⊎ ((r : ShelfReply) × (new ≡ old ++ Shelf (Look url moment) r ∷ []))

-- the event is a Look with a reply of it
abbrev pub CanTell : Event → Type 0
CanTell (Shelf (Look url moment) r) = CanReply (Look url moment) r
CanTell event = ⊥

-- the reply of the event tells this
abbrev pub TellsReply : Event → Option Proven → Type 0
TellsReply (Shelf call r) told = r ≡ reply_of told
TellsReply event told = ⊥
