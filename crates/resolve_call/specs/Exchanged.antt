-- What the asks of a call's rounds got from a network, exchange by exchange.
use Rattle.std.specs.Prelude.{◌≡◌, ◌⊎◌, ℕ, List, [], ◌∷◌, Option, Result, Err}
use Rattle.fed_ports.specs.Exchanges.{Exchange}
use Rattle.http_plain.specs.declared.link.HttpLink.{HttpLink}
use Rattle.http_plain.specs.declared.route.Route.{Route}
use Rattle.http_plain.specs.Links.{Gets, GotOrLeft, Leaves, Listening, link_network, link_routes}
use Rattle.resolve_reply.specs.declared.reply.Reply.{Reply}
use Rattle.resolve_round.specs.declared.trace.Ask.{Ask}
use Rattle.resolve_round.specs.declared.trace.Got.{Got}
use Rattle.resolve_round.specs.declared.trace.Got.TheVariants.{Hit, Fetched, Fault}
use Rattle.resolve_round.specs.Walking.{Giving}
use Rattle.fed_resolver.specs.declared.outcome.Refusal.{Refusal}
use Rattle.fed_resolver.specs.declared.outcome.Refusal.TheVariants.{Memory, Worn}

-- what was got at a URL, by the exchanges before and after it: a text of the cache adds none; a page is that of the URL, of the routes and
-- of the one exchange that was added; after a fault at most one was added, of the URL's address
abbrev pub ExchangedFor : List Route → List ℕ → Got → Option (List Exchange) → Option (List Exchange) → Type 0
ExchangedFor routes url (Hit proven) old new = new ≡ old
ExchangedFor routes url (Fetched page) old new = Gets routes url old new page
ExchangedFor routes url Fault old new = Leaves routes url old new

-- the exchanges that were added are those of these asks, in order, and no others
abbrev pub Exchanged : List Route → List Ask → Option (List Exchange) → Option (List Exchange) → Type 0
Exchanged routes [] old new = new ≡ old
Exchanged routes (ask ∷ asks) old new =
    (mid : Option (List Exchange)) × ExchangedFor routes ask.url ask.got old mid × Exchanged routes asks mid new

-- the same, and one exchange more at most, of a page for which memory was wanting
pub record BrokeOff (routes : List Route) (asks : List Ask) (old new : Option (List Exchange)) : Type 0 where
  pub mid : Option (List Exchange)
  pub before : Exchanged routes asks old mid
  pub last : (new ≡ mid) ⊎ ((url : List ℕ) × Leaves routes url mid new)

-- the exchanges of a call, by its result
abbrev pub ExchangedBy : List Route → List Ask → Option (List Exchange) → Option (List Exchange) → Result Reply Refusal → Type 0
ExchangedBy routes asks old new (Err Memory) = BrokeOff routes asks old new
ExchangedBy routes asks old new (Err (Worn count)) = BrokeOff routes asks old new
ExchangedBy routes asks old new result = Exchanged routes asks old new

-- what a link over a network, whose exchanges are told so and which listens so, says of one call
abbrev pub link_gave : {N P : Type 0} → (N → Option (List Exchange)) → (N → Listening P) → Giving (HttpLink N)
link_gave exchanges listens old new url result =
    (link_routes new ≡ link_routes old) × GotOrLeft (link_routes old) url (exchanges (link_network old)) (exchanges (link_network new)) result
    × (listens (link_network new) ≡ listens (link_network old))
