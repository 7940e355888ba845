-- What a test of a pair adds to a trace.
use Rattle.std.specs.Prelude.{◌≡◌, ◌⊎◌, ℕ, List, ◌++◌, length, Bool, true, false, Some}
use Rattle.jwk_set.specs.declared.jwk.Jwk.{Jwk}
use Rattle.sealed.specs.Seals.{Pair}
use Rattle.sealed.specs.declared.tested.Tested.{Tested}
use Rattle.sealed.specs.declared.tested.Tested.TheVariants.{Yes, No}
use Rattle.sealed.specs.Tests.{key_in}
use Rattle.resolve_round.specs.declared.trace.Check.{Check}
use Rattle.resolve_round.specs.declared.trace.Search.{Search}
use Rattle.resolve_round.specs.declared.trace.Trace.{Trace}
use Rattle.resolve_round.specs.Knowing.{HoldsSoFar, IsKnownGood, with_search}
use Rattle.resolve_round.specs.Told.{NamedByStatement, Obtained, ProvesGood}
use Rattle.resolve_round.specs.Traces.{looks_in, puts_in}
use Rattle.fed_base.specs.Counts.{counted}

-- the check of a pair with this answer
abbrev pub check_of : Pair → Bool → Check
check_of pair good = record { text = pair.text; public = pair.public; good = good }

-- the text verifies
abbrev pub is_yes : Tested → Bool
is_yes (Yes seal) = true
is_yes (No miss) = false

-- so many checks more were counted as were added
pub record CountsChecks (old new : List Check) (before now : ℕ) : Type 0 where
  pub more : List Check
  pub are : new ≡ old ++ more
  pub counts : now ≡ counted (length more) before

-- the text was obtained at the URL, and names the key in a set that has a say
pub record MayTest (searches : List Search) (keys : List Jwk) (url : List ℕ) (pair : Pair) : Type 0 where
  pub obtained : Obtained searches url pair.text
  pub named : NamedByStatement searches pair.text pair.public ⊎ (key_in keys pair.text ≡ Some pair.public)

-- nothing but checks and Proves was added
pub record OnlyTests (old new : Trace) : Type 0 where
  pub moment : new.moment ≡ old.moment
  pub epoch : new.epoch ≡ old.epoch
  pub keys : new.keys ≡ old.keys
  pub bounds : new.bounds ≡ old.bounds
  pub searches : new.searches ≡ old.searches
  pub looks : looks_in new.events ≡ looks_in old.events
  pub puts : puts_in new.events ≡ puts_in old.events

-- what is known to verify stays known
abbrev pub KeepsKnown : Trace → Trace → Type 0
KeepsKnown old new = (pair : Pair) → IsKnownGood old pair → IsKnownGood new pair

-- what the trace tells stays true
abbrev pub StaysTrue : List ℕ → Pair → Trace → Trace → Type 0
StaysTrue url pair old new =
    (age : ℕ) (search : Search) → MayTest (with_search old search).searches old.keys.keys url pair → HoldsSoFar age search old → HoldsSoFar age search new

-- each good check is still proved
abbrev pub StaysProved : List ℕ → Pair → Trace → Trace → Type 0
StaysProved url pair old new =
    (search : Search) → Obtained (with_search old search).searches url pair.text → ProvesGood (with_search old search) → ProvesGood (with_search new search)

-- the same, where the text was obtained at the URL and reads as a statement whose keys it names
abbrev pub KeepsTrue : List ℕ → List ℕ → Trace → Trace → Type 0
KeepsTrue url text old new = (age : ℕ) (search : Search) → Obtained (with_search old search).searches url text → HoldsSoFar age search old → HoldsSoFar age search new

abbrev pub KeepsGood : List ℕ → List ℕ → Trace → Trace → Type 0
KeepsGood url text old new = (search : Search) → Obtained (with_search old search).searches url text → ProvesGood (with_search old search) → ProvesGood (with_search new search)
