-- What a link gave while asks were added to a round.
use Rattle.std.specs.Prelude.{◌≡◌, ◌⊎◌, ℕ, List, [], ◌∷◌, ◌++◌, Result, Ok, Err}
use Rattle.fed_ports.specs.declared.link.LinkFault.{LinkFault}
use Rattle.fed_ports.specs.declared.link.LinkFault.TheVariants.{Failed, Memory}
use Rattle.fed_ports.specs.declared.page.Page.{Page}
use Rattle.resolve_round.specs.declared.trace.Ask.{Ask}
use Rattle.resolve_round.specs.declared.trace.Got.{Got}
use Rattle.resolve_round.specs.declared.trace.Got.TheVariants.{Hit, Fetched, Fault}
use Rattle.resolve_round.specs.declared.trace.Trace.{Trace}
use Rattle.resolve_round.specs.declared.trace.Search.{Search}

-- what a link says of one call: how it stood before and after it, the URL, and the answer
abbrev pub Giving : Type 0 → Type 1
Giving L = L → L → List ℕ → Result Page LinkFault → Type 0

-- what was got at a URL is what the link gave; a text of the cache isn't asked of the link
abbrev pub GaveGot : {L : Type 0} → Giving L → List ℕ → Got → L → L → Type 0
GaveGot gave url (Hit proven) old new = new ≡ old
GaveGot gave url (Fetched page) old new = gave old new url (Ok page)
GaveGot gave url Fault old new = gave old new url (Err Failed)

-- the link gave what these asks got, one after the other, and nothing else
abbrev pub GaveEach : {L : Type 0} → Giving L → List Ask → L → L → Type 0
GaveEach gave [] old new = new ≡ old
GaveEach {L} gave (ask ∷ asks) old new = (mid : L) × GaveGot gave ask.url ask.got old mid × GaveEach gave asks mid new

-- the asks that were added got what the link gave meanwhile
pub record Walked {L : Type 0} (gave : Giving L) (old new : L) (before after : List Ask) : Type 0 where
  pub more : List Ask
  pub are : after ≡ before ++ more
  pub gave_each : GaveEach gave more old new

-- the same, and for one call more, at most, memory was wanting
pub record Stumbled {L : Type 0} (gave : Giving L) (old new : L) (before after : List Ask) : Type 0 where
  pub at : L
  pub walked : Walked gave old at before after
  pub last : (new ≡ at) ⊎ ((url : List ℕ) × gave at new url (Err Memory))

-- the asks of the round that was added got what the link gave meanwhile
pub record WalkedRound {L : Type 0} (gave : Giving L) (old new : L) (before after : Trace) : Type 0 where
  pub search : Search
  pub added : after.searches ≡ before.searches ++ search ∷ []
  pub gave_each : GaveEach gave search.asks old new

-- no round was added, and the link gave nothing; or the asks of the one that was added got what it gave, and for one call more, at
-- most, memory was wanting
pub record StumbledRound {L : Type 0} (gave : Giving L) (old new : L) (before after : Trace) : Type 0 where
  pub search : Search
  pub added : after.searches ≡ before.searches ++ search ∷ []
  pub stumbled : Stumbled gave old new [] search.asks

abbrev pub StumblesOnce : {L : Type 0} → Giving L → L → L → Trace → Trace → Type 0
StumblesOnce gave old new before after = ((after.searches ≡ before.searches) × (new ≡ old)) ⊎ StumbledRound gave old new before after
