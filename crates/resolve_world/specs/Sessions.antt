-- One call of the resolver as a session among others: what it did, and with what it replied.
use Rattle.std.specs.Prelude.{◌≡◌, ◌<◌, ℕ, List, [], ◌∷◌, map, nat_eq, Bool, Option, Some, None, Result, Ok, Err, if◌then◌else◌}
use Rattle.std.specs.List.{filter_map}
use Rattle.fed_ports.specs.declared.page.Page.{Page}
use Rattle.sealed.specs.Seals.{Pair}
use Rattle.entity_statement.specs.Claims.{Identifier}
use Rattle.chain_check.specs.Chains.{Texts}
use Rattle.chain_climb.specs.Elements.{Among}
use Rattle.statement_shelf.specs.declared.calls.AnchorKeys.{AnchorKeys}
use Rattle.statement_shelf.specs.declared.calls.ShelfCall.{ShelfCall}
use Rattle.statement_shelf.specs.declared.calls.ShelfCall.TheVariants.{Look, Put, Prove, Purge}
use Rattle.statement_shelf.specs.declared.calls.ShelfReply.{ShelfReply}
use Rattle.statement_shelf.specs.Entries.{part_count, part_of}
use Rattle.statement_shelf.specs.Passes.{CommonsKnown}
use Rattle.resolve_reply.specs.declared.reply.Reply.{Reply}
use Rattle.resolve_reply.specs.Replies.{chain_of}
use Rattle.resolve_round.specs.declared.trace.Ask.{Ask}
use Rattle.resolve_round.specs.declared.trace.Got.TheVariants.{Hit, Fetched, Fault}
use Rattle.resolve_round.specs.declared.trace.Check.{Check}
use Rattle.resolve_round.specs.declared.trace.Event.{Event}
use Rattle.resolve_round.specs.declared.trace.Event.TheVariants.{Shelf, Book}
use Rattle.resolve_round.specs.declared.trace.Trace.{Trace}
use Rattle.resolve_round.specs.Traces.{asks_in, pair_in}
use Rattle.fed_resolver.specs.declared.outcome.Outcome.{Outcome}
use Rattle.fed_resolver.specs.declared.outcome.Refusal.{Refusal}
use Rattle.fed_resolver.specs.Told.{Situation}
use Rattle.fed_resolver.specs.Worlds.{Happening, IsWorld, book_calls, gets, on_book, on_shelf, replies, shelf_calls, tests}

-- ---- what a session did

-- a page that was got at a URL, or a fault
pub record Fetch : Type 0 where
  pub url : List ℕ
  pub page : Option Page

-- a test of a signature
pub record Test : Type 0 where
  pub pair : Pair
  pub good : Bool

-- a reply up to an anchor, at a moment, with a chain
pub record Replied : Type 0 where
  pub anchor : Identifier
  pub moment : ℕ
  pub chain : Texts

-- what a happening is of this session: its call on the cache or on the book, its page or fault, its test, its reply
abbrev pub event_by : ℕ → Happening → Option Event
event_by session (on_shelf s part call answer) = if nat_eq s session then Some (Shelf call answer) else None
event_by session (on_book s call answer) = if nat_eq s session then Some (Book call answer) else None
event_by session happening = None

abbrev pub fetch_by : ℕ → Happening → Option Fetch
fetch_by session (gets s url page) = if nat_eq s session then Some (record { url = url; page = page }) else None
fetch_by session happening = None

abbrev pub test_by : ℕ → Happening → Option Test
test_by session (tests s pair good) = if nat_eq s session then Some (record { pair = pair; good = good }) else None
test_by session happening = None

abbrev pub reply_by : ℕ → Happening → Option Replied
reply_by session (replies s anchor moment chain) = if nat_eq s session then Some (record { anchor = anchor; moment = moment; chain = chain }) else None
reply_by session happening = None

-- ---- what a trace tells

-- the page or the fault that an ask got of the link; a text of the cache is none
abbrev pub fetch_in : Ask → Option Fetch
fetch_in ask = elim ask.got [
  | Hit proven ↦ None
  | Fetched page ↦ Some (record { url = ask.url; page = Some page })
  | Fault ↦ Some (record { url = ask.url; page = None })
]

abbrev pub test_in : Check → Test
test_in check = record { pair = pair_in check; good = check.good }

-- a Look, a Put or a Prove, on the part of its URL
abbrev pub IsOnItsPart : ℕ → ShelfCall → Type 0
IsOnItsPart part (Look url moment) = part ≡ part_of url
IsOnItsPart part (Put url text until) = part ≡ part_of url
IsOnItsPart part (Prove url seal) = part ≡ part_of url
IsOnItsPart part (Purge moment) = ⊥

-- the session did what the trace tells, and nothing else but to reply: each kind in its order
pub record Does (session : ℕ) (happenings : List Happening) (trace : Trace) : Type 0 where
  pub events : filter_map (event_by session) happenings ≡ trace.events
  pub parts : (part : ℕ) (call : ShelfCall) (answer : ShelfReply) → Among (on_shelf session part call answer) happenings → IsOnItsPart part call
  pub fetches : filter_map (fetch_by session) happenings ≡ filter_map fetch_in (asks_in trace.searches)
  pub tests : filter_map (test_by session) happenings ≡ map test_in trace.checks

-- it replied where the result is a reply, once, up to the requested anchor and at the call's moment, with the chain that the reply's claim
-- `trust_chain` carries (OpenID Federation 1.0 section 8.3.2)
abbrev pub RepliesBy : Situation → Result Reply Refusal → List Replied → Type 0
RepliesBy here (Ok reply) replied =
    (chain : Texts) × (chain_of reply.claims ≡ Some chain) × (replied ≡ record { anchor = here.request.anchor; moment = here.moment; chain = chain } ∷ [])
RepliesBy here (Err refusal) replied = replied ≡ []

-- ---- the world of a call

-- this is a world in which the call is this session: the calls of all sessions on each object are those that the call's pass has seen
pub record IsWorldOf (anchors : List AnchorKeys) (here : Situation) (seen : CommonsKnown) (outcome : Outcome) (session : ℕ) (happenings : List Happening) : Type 0 where
  pub world : IsWorld anchors happenings
  pub does : Does session happenings outcome.trace
  pub replied : RepliesBy here outcome.result (filter_map (reply_by session) happenings)
  pub parts : (p : ℕ) → p < part_count → shelf_calls p happenings ≡ (seen.part p).seen
  pub book : book_calls happenings ≡ seen.book.seen

-- there is one
abbrev pub HasWorld : List AnchorKeys → Situation → CommonsKnown → Outcome → Type 0
HasWorld anchors here seen outcome = (session : ℕ) × (happenings : List Happening) × IsWorldOf anchors here seen outcome session happenings
