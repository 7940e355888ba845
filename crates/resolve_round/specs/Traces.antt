-- What the events of a trace are, and those that a round calls for.
use Rattle.std.specs.Prelude.{◌+◌, ℕ, List, [], ◌∷◌, map, filter_map, min, flat_map, Option, Some, None, if◌then◌else◌, ◌++◌}
use Rattle.std.specs.Option.{option_and_then}
use Rattle.sealed.specs.Seals.{Pair}
use Rattle.entity_statement.specs.Use.{current_at}
use Rattle.chain_climb.specs.Climbs.{Need}
use Rattle.statement_shelf.specs.declared.calls.ShelfCall.{ShelfCall}
use Rattle.statement_shelf.specs.declared.calls.ShelfCall.TheVariants.{Look, Put, Prove}
use Rattle.statement_shelf.specs.declared.calls.ShelfReply.{ShelfReply}
use Rattle.statement_shelf.specs.declared.calls.ShelfReply.TheVariants as reply
use Rattle.resolve_round.specs.declared.trace.Ask.{Ask}
use Rattle.resolve_round.specs.declared.trace.Got.{Got}
use Rattle.resolve_round.specs.declared.trace.Got.TheVariants.{Hit, Fetched, Fault}
use Rattle.resolve_round.specs.declared.trace.Check.{Check}
use Rattle.resolve_round.specs.declared.trace.Event.{Event}
use Rattle.resolve_round.specs.declared.trace.Event.TheVariants.{Shelf}
use Rattle.resolve_round.specs.declared.trace.Search.{Search}
use Rattle.resolve_round.specs.Pages.{named_statement}
use Rattle.resolve_round.specs.Courses.{Course, Stop, asked, document_in, fetched, finished, found, out_of_calls, out_of_paths}

-- a call on the shelf with its reply
abbrev pub ShelfEvent : Type 0
ShelfEvent = ShelfCall × ShelfReply

-- a Look, a Put or a Prove
abbrev pub IsWork : Event → Type 0
IsWork (Shelf (Look url moment) r) = Unit {0}
IsWork (Shelf (Put url text until) r) = Unit {0}
IsWork (Shelf (Prove url seal) r) = Unit {0}
IsWork event = ⊥

abbrev pub look_in : Event → Option ShelfEvent
look_in (Shelf (Look url moment) r) = Some (Look url moment, r)
look_in event = None

-- what a Put puts
pub record Kept : Type 0 where
  pub url : List ℕ
  pub text : List ℕ
  pub until : ℕ

abbrev pub put_in : Event → Option Kept
put_in (Shelf (Put url text until) r) = Some (record { url = url; text = text; until = until })
put_in event = None

-- the Looks of some events, and what their Puts put
abbrev pub looks_in : List Event → List ShelfEvent
looks_in events = filter_map look_in events

abbrev pub puts_in : List Event → List Kept
puts_in events = filter_map put_in events

-- what a Look replied where this was got
abbrev pub reply_before : Got → ShelfReply
reply_before (Hit proven) = reply.Hit proven
reply_before (Fetched page) = reply.Miss
reply_before Fault = reply.Miss

abbrev pub look_for : ℕ → Ask → ShelfEvent
look_for t ask = (Look ask.url t, reply_before ask.got)

-- the Look for a page that could not be asked for any more
abbrev pub look_at_end : ℕ → Stop → List ShelfEvent
look_at_end t finished = []
look_at_end t (found path) = []
look_at_end t (out_of_calls page) = (Look page.url t, reply.Miss) ∷ []
look_at_end t (out_of_paths path) = []

-- the Looks that a round calls for: one for each ask, before the link is called, in a round that looks
abbrev pub looks_of : ℕ → Course → List ShelfEvent
looks_of t course = if course.looks then map (look_for t) course.search.asks ++ look_at_end t course.stop else []

-- a page is kept until it ends, or for the age from the moment on
abbrev pub kept_until : ℕ → ℕ → ℕ → ℕ
kept_until t age exp = min (t + age) exp

-- what is kept of a fetched page: a document that reads as a statement with the names that were asked for, and is current
abbrev pub kept_text : ℕ → ℕ → Need → List ℕ → Option Kept
kept_text t age page text =
    option_and_then (λ s. if current_at s.iat s.exp t then Some (record { url = page.url; text = text; until = kept_until t age s.exp }) else None)
    (named_statement page text)

abbrev pub kept_of : ℕ → ℕ → (Need × Ask) → Option Kept
kept_of t age (page, ask) = option_and_then (kept_text t age page) (option_and_then document_in (fetched ask.got))

-- the Puts that a round calls for
abbrev pub puts_of : ℕ → ℕ → Course → List Kept
puts_of t age course = filter_map (kept_of t age) (asked course)

-- the pair of a check
abbrev pub pair_in : Check → Pair
pair_in check = record { text = check.text; public = check.public }

-- all asks of some searches
abbrev pub asks_in : List Search → List Ask
asks_in searches = flat_map (λ s. s.asks) searches
