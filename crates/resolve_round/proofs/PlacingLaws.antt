-- What the test of a placed text means.
use Rattle.std.proofs.Common.{◌≡◌, ℕ, List, [], ◌∷◌, Bool, true, false, ◌||◌, refl, sym, inl, inr, bytes_eq, true≢false}
use Rattle.std.specs.List.{list_any}
use Rattle.fed_json.proofs.Order.{equal-bytes_eq}
use Rattle.statement_shelf.specs.declared.calls.ShelfCall.TheVariants.{Look, Put, Prove, Purge}
use Rattle.statement_shelf.specs.declared.calls.ShelfReply.TheVariants.{Hit, Miss, Done, Gone, Dropped, Memory}
use Rattle.resolve_round.specs.declared.trace.Event.{Event}
use Rattle.resolve_round.specs.declared.trace.Event.TheVariants.{Shelf, Book}
use Rattle.resolve_round.specs.Placing.{places_text, some_placed}
use Rattle.resolve_round.specs.Told.{Places, SomePlaces}
use Rattle.resolve_round.proofs.HintLaws.{and-left, and-right}

places-is : (url text : List ℕ) (event : Event) → places_text url text event ≡ true → Places url text event
places-is url text (Shelf (Look at moment) (Hit proven)) is = (equal-bytes_eq at url (and-left (bytes_eq at url) _ is), equal-bytes_eq proven.text text (and-right (bytes_eq at url) _ is))
places-is url text (Shelf (Look at moment) Miss) is = absurd (true≢false (sym is))
places-is url text (Shelf (Look at moment) Done) is = absurd (true≢false (sym is))
places-is url text (Shelf (Look at moment) Gone) is = absurd (true≢false (sym is))
places-is url text (Shelf (Look at moment) (Dropped n)) is = absurd (true≢false (sym is))
places-is url text (Shelf (Look at moment) Memory) is = absurd (true≢false (sym is))
places-is url text (Shelf (Put at put until) r) is = (equal-bytes_eq at url (and-left (bytes_eq at url) _ is), equal-bytes_eq put text (and-right (bytes_eq at url) _ is))
places-is url text (Shelf (Prove at seal) r) is = absurd (true≢false (sym is))
places-is url text (Shelf (Purge moment) r) is = absurd (true≢false (sym is))
places-is url text (Book call r) is = absurd (true≢false (sym is))

placed_by : (b : Bool) (url text : List ℕ) (e : Event) (events : List Event) → places_text url text e ≡ b → (list_any (places_text url text) events ≡ true → SomePlaces url text events)
    → (b || list_any (places_text url text) events) ≡ true → SomePlaces url text (e ∷ events)
placed_by true url text e events is later any = (e, inl refl, places-is url text e is)
placed_by false url text e events is later any = let rest = later any in (rest.0, inr rest.1, rest.2)

-- one of the events places it
pub placed-some : (url text : List ℕ) (events : List Event) → some_placed url text events ≡ true → SomePlaces url text events
unfolding some_placed
placed-some url text [] any = absurd (true≢false (sym any))
placed-some url text (e ∷ events) any = placed_by (places_text url text e) url text e events refl (placed-some url text events) any
