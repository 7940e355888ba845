-- What a call of the link adds to a round.
use Rattle.std.specs.Prelude.{◌≡◌, ◌+◌, ℕ, List, [], ◌∷◌, ◌++◌, Bool, Option, IfSome, if◌then◌else◌}
use Rattle.fed_ports.specs.Webs.{Web, page_in}
use Rattle.resolve_round.specs.declared.trace.Ask.{Ask}
use Rattle.resolve_round.specs.declared.trace.Got.{Got}
use Rattle.resolve_round.specs.declared.trace.Got.TheVariants.{Hit, Fetched, Fault}
use Rattle.resolve_round.specs.declared.trace.Search.{Search}
use Rattle.resolve_round.specs.Courses.{is_call, is_fault, is_hit}

-- one more where this holds
abbrev pub one_if : Bool → ℕ → ℕ
one_if b n = if b then n + 1 else n

-- the round with an ask more, which is counted
abbrev pub with_ask : Search → Ask → Search
with_ask search ask =
    record search {
      asks = search.asks ++ ask ∷ [];
      hits = one_if (is_hit ask) search.hits;
      calls = one_if (is_call ask) search.calls;
      faults = one_if (is_fault ask) search.faults;
    }

-- what was fetched is the web's, where the link tells it
abbrev pub IsOfWeb : Option Web → List ℕ → Got → Type 0
IsOfWeb web url (Fetched page) = IfSome web (λ w. page ≡ page_in w url)
IsOfWeb web url Fault = Unit {0}
IsOfWeb web url (Hit proven) = ⊥

-- the URL was asked of the link
pub record HasFetched (web : Option Web) (old : Search) (url : List ℕ) (new : Search) : Type 0 where
  pub got : Got
  pub is : new ≡ with_ask old (record { url = url; got = got })
  pub of_web : IsOfWeb web url got
