-- What the trace of a call tells of its searches: what was hit, put and proved on the cache, and which pairs were tested.
use Rattle.std.specs.Prelude.{◌≡◌, ◌⊎◌, ◌+◌, ℕ, List, [], ◌∷◌, ◌++◌, length, map, MatchBool, true, Some, slice_index_or}
use Rattle.jwk_set.specs.declared.jwk.Jwk.{Jwk}
use Rattle.sealed.specs.Seals.{IsSealed, IsUnsealed, Pair}
use Rattle.sealed.specs.Tests.{key_in}
use Rattle.entity_statement.specs.Claims.{Claims}
use Rattle.entity_statement.specs.Signed.{statement_of}
use Rattle.chain_check.specs.Chains.{Texts, statements_of}
use Rattle.chain_check.specs.Judging.{seal_keys, seal_place}
use Rattle.fed_base.specs.Places.{HoldsBelow}
use Rattle.fed_ports.specs.declared.page.Page.{Page}
use Rattle.chain_climb.specs.Climbs.{Need}
use Rattle.chain_climb.specs.Elements.{Among, NoneTwice}
use Rattle.statement_shelf.specs.declared.calls.Proven.{Proven}
use Rattle.statement_shelf.specs.declared.calls.ShelfCall.TheVariants.{Look, Put, Prove}
use Rattle.statement_shelf.specs.declared.calls.ShelfReply.{ShelfReply}
use Rattle.statement_shelf.specs.declared.calls.ShelfReply.TheVariants as reply
use Rattle.resolve_round.specs.declared.trace.Ask.{Ask}
use Rattle.resolve_round.specs.declared.trace.Got.TheVariants.{Hit}
use Rattle.resolve_round.specs.declared.trace.Check.{Check}
use Rattle.resolve_round.specs.declared.trace.Event.{Event}
use Rattle.resolve_round.specs.declared.trace.Event.TheVariants.{Shelf}
use Rattle.resolve_round.specs.declared.trace.Search.{Search}
use Rattle.resolve_round.specs.declared.trace.Trace.{Trace}
use Rattle.resolve_round.specs.Courses.{Counts, document_in, fetched, text_got}
use Rattle.resolve_round.specs.Traces.{Kept, asks_in, kept_text, pair_in, puts_in}

-- ---- texts

-- the call obtained the text at the URL
abbrev pub Obtained : List Search → List ℕ → List ℕ → Type 0
Obtained searches url text = (ask : Ask) × Among ask (asks_in searches) × (ask.url ≡ url) × (text_got ask.got ≡ Some text)

-- the call fetched the text at the URL
abbrev pub FetchedText : List Search → List ℕ → List ℕ → Type 0
FetchedText searches url text = (ask : Ask) × Among ask (asks_in searches) × (ask.url ≡ url) × ((page : Page) × (fetched ask.got ≡ Some page) × (document_in page ≡ Some text))

-- ---- checks

-- a statement that the call obtained gives its subject keys, of which the text names this one
abbrev pub NamedByStatement : List Search → List ℕ → List ℕ → Type 0
NamedByStatement searches text public =
    (url : List ℕ) × (other : List ℕ) × (s : Claims) × Obtained searches url other × (statement_of other ≡ Some s) × (key_in s.keys text ≡ Some public)

-- the check is of a text that the call obtained, under the key that the text names in a set that has a say, and it was answered so
pub record IsCheck (searches : List Search) (keys : List Jwk) (check : Check) : Type 0 where
  pub url : List ℕ
  pub obtained : Obtained searches url check.text
  pub named : NamedByStatement searches check.text check.public ⊎ (key_in keys check.text ≡ Some check.public)
  pub answer : MatchBool check.good (IsSealed (pair_in check)) (IsUnsealed (pair_in check))

-- each check is one, and no pair is tested twice
pub record AreChecks (trace : Trace) : Type 0 where
  pub each : (check : Check) → Among check trace.checks → IsCheck trace.searches trace.keys.keys check
  pub once : NoneTwice (map pair_in trace.checks)

-- ---- proofs on the shelf

-- a Hit of these events shows the pair as proved
abbrev pub ShownByHit : List Event → Pair → Type 0
ShownByHit events pair =
    (url : List ℕ) × (moment : ℕ) × (proven : Proven) × Among (Shelf (Look url moment) (reply.Hit proven)) events
    × (proven.text ≡ pair.text) × Among pair.public proven.keys

-- a good check is of the pair
abbrev pub TestedGood : List Check → Pair → Type 0
TestedGood checks pair = (check : Check) × Among check checks × (pair_in check ≡ pair) × (check.good ≡ true)

-- each Prove is of a pair that is known to verify
abbrev pub ProvesAreKnown : Trace → Type 0
ProvesAreKnown trace =
    (url : List ℕ) (seal : Pair) (r : ShelfReply) → Among (Shelf (Prove url seal) r) trace.events → TestedGood trace.checks seal ⊎ ShownByHit trace.events seal

-- after this event the text may stand on the shelf under the URL: it was hit there, or was put there
abbrev pub Places : List ℕ → List ℕ → Event → Type 0
Places url text (Shelf (Look at moment) (reply.Hit proven)) = (at ≡ url) × (proven.text ≡ text)
Places url text (Shelf (Put at put until) r) = (at ≡ url) × (put ≡ text)
Places url text event = ⊥

-- one of these events places it
abbrev pub SomePlaces : List ℕ → List ℕ → List Event → Type 0
SomePlaces url text events = (event : Event) × Among event events × Places url text event

-- the pair is proved under a URL at which its text was obtained, and where some event places the text there, behind such an event
pub record IsProved (trace : Trace) (pair : Pair) : Type 0 where
  pub url : List ℕ
  pub obtained : Obtained trace.searches url pair.text
  pub before : List Event
  pub answer : ShelfReply
  pub after : List Event
  pub stands : trace.events ≡ before ++ Shelf (Prove url pair) answer ∷ after
  pub placed : SomePlaces url pair.text trace.events → SomePlaces url pair.text before

-- what was hit is what a Look replied
abbrev pub HitsAreLooks : Trace → Type 0
HitsAreLooks trace =
    (url : List ℕ) (proven : Proven) → Among (record { url = url; got = Hit proven }) (asks_in trace.searches)
    → (moment : ℕ) × Among (Shelf (Look url moment) (reply.Hit proven)) trace.events

-- what was put is a page that the call fetched, with the end that it is kept until by this age
abbrev pub PutsAreFetched : ℕ → Trace → Type 0
PutsAreFetched age trace =
    (kept : Kept) → Among kept (puts_in trace.events)
    → FetchedText trace.searches kept.url kept.text
    × ((page : Need) × (kept_text trace.moment age page kept.text ≡ Some kept))

-- ---- no proved pair is tested again

-- a Hit showed the pair, and it had not been proved before it
pub record ShownUnproved (events : List Event) (pair : Pair) : Type 0 where
  pub url : List ℕ
  pub moment : ℕ
  pub proven : Proven
  pub before : List Event
  pub after : List Event
  pub stands : events ≡ before ++ Shelf (Look url moment) (reply.Hit proven) ∷ after
  pub shows : (proven.text ≡ pair.text) × Among pair.public proven.keys
  pub unproved : (at : List ℕ) (r : ShelfReply) → ¬ Among (Shelf (Prove at pair) r) before

-- no such pair is tested
abbrev pub TestsNothingProved : Trace → Type 0
TestsNothingProved trace = (check : Check) → Among check trace.checks → ¬ ShownUnproved trace.events (pair_in check)

-- ---- what stands in the trace

-- each Look is of the call's moment
abbrev pub LooksAreNow : Trace → Type 0
LooksAreNow trace = (url : List ℕ) (moment : ℕ) (r : ShelfReply) → Among (Shelf (Look url moment) r) trace.events → moment ≡ trace.moment

-- what the trace tells is true at every moment, where pages are kept for this age
pub record IsTrueSoFar (age : ℕ) (trace : Trace) : Type 0 where
  pub looks : LooksAreNow trace
  pub hits : HitsAreLooks trace
  pub puts : PutsAreFetched age trace
  pub proves : ProvesAreKnown trace
  pub checks : AreChecks trace
  -- each round counts its asks
  pub counts : (search : Search) → Among search trace.searches → Counts search
  -- no pair was tested that a hit had shown as proved
  pub untested : TestsNothingProved trace

-- each good check was proved on the cache
abbrev pub ProvesGood : Trace → Type 0
ProvesGood trace = (check : Check) → Among check trace.checks → check.good ≡ true → IsProved trace (pair_in check)

-- ---- what a reply stands on

-- the trace shows that the text is sealed by the key of the set that its header names: its pair was tested and good, or a hit showed it as
-- proved
pub record ShownSealed (trace : Trace) (keys : List Jwk) (text : List ℕ) : Type 0 where
  pub public : List ℕ
  pub named : key_in keys text ≡ Some public
  pub known : TestedGood trace.checks (record { text = text; public = public }) ⊎ ShownByHit trace.events (record { text = text; public = public })

-- it shows each seal that a chain needs: the leaf's by its own keys, and each text's by its superior's
abbrev pub ShowsSeals : Trace → Texts → Type 0
ShowsSeals trace chain =
    HoldsBelow (λ i. ShownSealed trace (seal_keys (statements_of chain) trace.keys.keys i) (slice_index_or chain (seal_place i) [])) (length chain + 1)
