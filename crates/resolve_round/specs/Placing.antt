-- Which events place a text on the cache, as a test.
use Rattle.std.specs.Prelude.{ℕ, List, bytes_eq, Bool, false, ◌&&◌}
use Rattle.std.specs.List.{list_any}
use Rattle.statement_shelf.specs.declared.calls.ShelfCall.TheVariants.{Look, Put}
use Rattle.statement_shelf.specs.declared.calls.ShelfReply.TheVariants as reply
use Rattle.resolve_round.specs.declared.trace.Event.{Event}
use Rattle.resolve_round.specs.declared.trace.Event.TheVariants.{Shelf}

-- the event is a hit of the text at the URL, or puts it there
abbrev pub places_text : List ℕ → List ℕ → Event → Bool
places_text url text (Shelf (Look at moment) (reply.Hit proven)) = bytes_eq at url && bytes_eq proven.text text
places_text url text (Shelf (Put at put until) r) = bytes_eq at url && bytes_eq put text
places_text url text event = false

-- one of these events does
unfoldable pub some_placed : List ℕ → List ℕ → List Event → Bool
some_placed url text events = list_any (places_text url text) events
