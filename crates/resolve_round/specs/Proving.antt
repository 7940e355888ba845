-- What Proves of tested pairs add to the events.
use Rattle.std.specs.Prelude.{◌≡◌, ◌⊎◌, ℕ, List, [], ◌∷◌, ◌++◌, get_or, true, Option, Some, None}
use Rattle.sealed.specs.Seals.{Pair}
use Rattle.chain_climb.specs.Elements.{Among}
use Rattle.statement_shelf.specs.declared.calls.ShelfCall.TheVariants.{Prove}
use Rattle.statement_shelf.specs.declared.calls.ShelfReply.{ShelfReply}
use Rattle.resolve_round.specs.declared.trace.Check.{Check}
use Rattle.resolve_round.specs.declared.trace.Event.{Event}
use Rattle.resolve_round.specs.declared.trace.Event.TheVariants.{Shelf}
use Rattle.resolve_round.specs.Told.{SomePlaces}
use Rattle.resolve_round.specs.Traces.{pair_in}

-- the event is a Prove of a good check among these
abbrev pub IsGoodProve : List Check → Event → Type 0
IsGoodProve checks event =
    (url : List ℕ) × (check : Check) × (r : ShelfReply) × Among check checks × (check.good ≡ true) × (event ≡ Shelf (Prove url (pair_in check)) r)

-- Proves of good checks were added to the events, and nothing else
pub record AddsProves (checks : List Check) (old new : List Event) : Type 0 where
  pub more : List Event
  pub are : new ≡ old ++ more
  pub proves : (event : Event) → Among event more → IsGoodProve checks event

-- the pair was proved under the URL by an event that was added
pub record ProvedIn (old new : List Event) (url : List ℕ) (pair : Pair) : Type 0 where
  pub before : List Event
  pub answer : ShelfReply
  pub after : List Event
  pub stands : new ≡ (old ++ before) ++ Shelf (Prove url pair) answer ∷ after

-- each good check of the text among these was proved under the URL so
abbrev pub ProvesEach : List Check → List ℕ → List ℕ → List Event → List Event → Type 0
ProvesEach checks url text old new = (check : Check) → Among check checks → check.good ≡ true → check.text ≡ text → ProvedIn old new url (pair_in check)

-- an earlier event had placed the text under the URL, and nothing was added, or each good check of it was proved there so
abbrev pub IsProvedThere : List Check → List ℕ → List ℕ → List Event → List Event → List Event → Type 0
IsProvedThere checks url text earlier old new = (SomePlaces url text earlier × (new ≡ old)) ⊎ ProvesEach checks url text old new

-- the pair of a check, where it is good and of this text
abbrev pub IsGoodSeal : Check → List ℕ → Option Pair → Type 0
IsGoodSeal check text None = check.good ≡ true → ¬ (check.text ≡ text)
IsGoodSeal check text (Some seal) = (check.good ≡ true) × (check.text ≡ text) × (seal ≡ pair_in check)

-- the good check of the text was proved under the URL, or nothing was added for a check that is none
abbrev pub ProvesOne : Check → List ℕ → List ℕ → List Event → List Event → Type 0
ProvesOne check url text old new =
    (IsGoodSeal check text None × (new ≡ old)) ⊎ ((r : ShelfReply) × (check.good ≡ true) × (new ≡ old ++ Shelf (Prove url (pair_in check)) r ∷ []))

-- the check at a place was, or wasn't, as it is such a one
pub record ProvesAt (checks : List Check) (at : ℕ) (url text : List ℕ) (old new : List Event) : Type 0 where
  pub check : Check
  pub there : check ≡ get_or checks at check
  pub proves : ProvesOne check url text old new
