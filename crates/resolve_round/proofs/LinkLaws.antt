-- What calls of the link count.
use Rattle.std.proofs.Common.{◌≡◌, ◌≤◌, ◌<◌, ◌+◌, ℕ, zero, suc, List, [], ◌∷◌, min, cond, Option, Some, None, Result, Ok, Err, refl, sym, ap, ◌∙◌, subst, inl, inr, ⊎_elim, ◌⊎◌, arith}
use Rattle.std.specs.Prelude.{IfSome}
use Rattle.std.proofs.lemmas.List.Sums.{sum_by-le-sum_by}
use Rattle.fed_base.specs.Counts.{Rose, counted, last_count, next_count}
use Rattle.fed_ports.specs.declared.page.Page.{Page}
use Rattle.fed_ports.specs.declared.link.LinkFault.{LinkFault}
use Rattle.fed_ports.specs.declared.link.LinkFault.TheVariants.{Failed, Memory}
use Rattle.fed_ports.specs.Webs.{HasLinkCause, LinkCounted, Serves, Web, page_in}
use Rattle.chain_climb.proofs.Elements.{among-split}
use Rattle.statement_shelf.specs.declared.calls.Proven.{Proven}
use Rattle.resolve_round.specs.declared.halt.Halt.{Halt}
use Rattle.resolve_round.specs.declared.halt.Halt.TheVariants as halt
use Rattle.resolve_round.specs.declared.trace.Ask.{Ask}
use Rattle.resolve_round.specs.declared.trace.Got.{Got}
use Rattle.resolve_round.specs.declared.trace.Got.TheVariants.{Hit, Fetched, Fault}
use Rattle.resolve_round.specs.declared.trace.Search.{Search}
use Rattle.resolve_round.specs.Asking.{IsOfWeb, with_ask}
use Rattle.resolve_round.specs.Courses.{Counts, is_call, is_fault}
use Rattle.resolve_round.specs.Linking.{FetchesOf, LinkSeen, TriesBy, TriesLink, UsesLink}

-- an ask of this
abbrev an_ask : List ℕ → Got → Ask
an_ask url got = record { url = url; got = got }

-- ---- counts

-- rounds are equal where their parts are
pub same-search : (a b : Search) → a.leaf ≡ b.leaf → a.asks ≡ b.asks → a.hits ≡ b.hits → a.calls ≡ b.calls → a.paths ≡ b.paths → a.faults ≡ b.faults → a.ended ≡ b.ended → a ≡ b
same-search a b leaf asks hits calls paths faults ended =
    let e : record { leaf = a.leaf; asks = a.asks; hits = a.hits; calls = a.calls; paths = a.paths; faults = a.faults; ended = a.ended }
    ≡ record { leaf = b.leaf; asks = b.asks; hits = b.hits; calls = b.calls; paths = b.paths; faults = b.faults; ended = b.ended } = cc in e

-- so many steps, and then so many
pub counted-then : (front back all : ℕ) (count : ℕ) → all ≡ front + back → counted all count ≡ counted back (counted front count)
counted-then front zero all count is = let same : all ≡ front = omega (arith, is) in ap (λ n. counted n count) same
counted-then front (suc back) zero count is = absurd (omega (arith, is))
counted-then front (suc back) (suc all) count is = ap next_count (counted-then front back all count (omega (arith, is)))

next_lower : (a b most : ℕ) → a ≤ b → min (a + 1) most ≤ min (b + 1) most
next_lower a b most low = omega (arith, low)

pub counted-lower : (steps a b : ℕ) → a ≤ b → counted steps a ≤ counted steps b
counted-lower zero a b low = low
counted-lower (suc steps) a b low = next_lower (counted steps a) (counted steps b) last_count (counted-lower steps a b low)

fault_by : (url : List ℕ) (got : Got) → cond (is_fault (an_ask url got)) 1 0 ≤ cond (is_call (an_ask url got)) 1 0
fault_by url (Hit proven) = omega arith
fault_by url (Fetched page) = omega arith
fault_by url Fault = omega arith

fault_call : (ask : Ask) → cond (is_fault ask) 1 0 ≤ cond (is_call ask) 1 0
fault_call ask = fault_by ask.url ask.got

-- a fault is a call
pub few-faults : (search : Search) → Counts search → search.faults ≤ search.calls
few-faults search counts =
    let few = sum_by-le-sum_by (λ ask. cond (is_fault ask) 1 0) (λ ask. cond (is_call ask) 1 0) search.asks fault_call in
    let faults = counts.faults in
    let calls = counts.calls in
    omega (arith, few, faults, calls)

-- ---- no call, and calls one after the other

pub uses-none : (seen : LinkSeen) (search now : Search) → now ≡ search → UsesLink 0 seen seen search now
uses-none seen search now same =
    subst (UsesLink 0 seen seen search) (sym same)
    (record {
      calls = 0;
      calls_are = omega arith;
      called = refl;
      faults = 0;
      faults_are = omega arith;
      later = omega arith;
      failed = omega arith;
      shown = λ less. absurd (omega (arith, less));
      web = refl;
      fetched = λ of. of;
    })

compare : (b c : ℕ) → (b < c) ⊎ (c ≤ b)
compare zero zero = inr (omega arith)
compare zero (suc c) = inl (omega arith)
compare (suc b) zero = inr (omega arith)
compare (suc b) (suc c) = ⊎_elim (λ l. inl (omega (arith, l))) (λ r. inr (omega (arith, r))) (compare b c)

some_more : (m n a b c : ℕ) → a < c → (a < b → 0 < m) → (b < c → 0 < n) → 0 < m + n
some_more m n a b c less first later =
    ⊎_elim (λ l. let more = later l in omega (arith, more))
    (λ r. let ahead : a < b = omega (arith, less, r) in let more = first ahead in omega (arith, more))
    (compare b c)

pub uses-then : (extra : ℕ) (a b c : LinkSeen) (first mid last : Search) → UsesLink 0 a b first mid → UsesLink extra b c mid last → UsesLink extra a c first last
uses-then extra a b c first mid last one two = record {
  calls = one.calls + two.calls;
  calls_are = let p = one.calls_are in let q = two.calls_are in omega (arith, p, q);
  called = two.called ∙ ap (counted (two.calls + extra)) one.called ∙ sym (counted-then (one.calls + 0) (two.calls + extra) (one.calls + two.calls + extra) a.calls (omega arith));
  faults = one.faults + two.faults;
  faults_are = let p = one.faults_are in let q = two.faults_are in omega (arith, p, q);
  later = let p = one.later in let q = two.later in omega (arith, p, q);
  failed =
      let p = counted-lower two.faults (counted one.faults a.faults) b.faults one.failed in
      let q = two.failed in
      let e = counted-then one.faults two.faults (one.faults + two.faults) a.faults refl in
      omega (arith, p, q, e);
  shown = λ less. some_more one.faults two.faults a.faults b.faults c.faults less one.shown two.shown;
  web = two.web ∙ one.web;
  fetched = λ of. subst (λ w. FetchesOf w last) one.web (two.fetched (subst (λ w. FetchesOf w mid) (sym one.web) (one.fetched of)));
}

pub tries-then : (a b c : LinkSeen) (first mid last : Search) → UsesLink 0 a b first mid → TriesLink b c mid last → TriesLink a c first last
tries-then a b c first mid last one (inl two) = inl (uses-then 0 a b c first mid last one two)
tries-then a b c first mid last one (inr two) = inr (uses-then 1 a b c first mid last one two)

ask_hit : (url at : List ℕ) (got : Page) (proven : Proven) → an_ask at (Fetched got) ≡ an_ask url (Hit proven) → ⊥
ask_hit url at got proven same = let e : Fetched got ≡ Hit proven = ap (λ (a : Ask). a.got) same in cc e

-- a text of the cache is no call
pub uses-hit : (seen : LinkSeen) (search now : Search) (url : List ℕ) (proven : Proven) → now ≡ with_ask search (an_ask url (Hit proven)) → UsesLink 0 seen seen search now
uses-hit seen search now url proven is =
    subst (UsesLink 0 seen seen search) (sym is)
    (record {
      calls = 0;
      calls_are = omega arith;
      called = refl;
      faults = 0;
      faults_are = omega arith;
      later = omega arith;
      failed = omega arith;
      shown = λ less. absurd (omega (arith, less));
      web = refl;
      fetched = λ earlier at got among.
          ⊎_elim (λ old. earlier at got old)
          (λ last. absurd (⊎_elim (λ same. ask_hit url at got proven same) (λ none. absurd none) last))
          (among-split (an_ask at (Fetched got)) search.asks (an_ask url (Hit proven) ∷ []) among);
    })

-- as the round counts, whatever broke it off
pub tries-by : (old new : LinkSeen) (before after : Search) (cause : Halt) → UsesLink 0 old new before after → TriesBy old new before after cause
tries-by old new before after (halt.Worn count) used = used
tries-by old new before after halt.Memory used = inl used

-- ---- one call

ask_url : (url at : List ℕ) (page got : Page) → an_ask at (Fetched got) ≡ an_ask url (Fetched page) → (at ≡ url) × (got ≡ page)
ask_url url at page got same = let e : Fetched got ≡ Fetched page = ap (λ (a : Ask). a.got) same in (ap (λ (a : Ask). a.url) same, cc e)

fetched_page : (web : Option Web) (search : Search) (url : List ℕ) (page : Page) → IsOfWeb web url (Fetched page) → FetchesOf web search → FetchesOf web (with_ask search (an_ask url (Fetched page)))
fetched_page web search url page of earlier at got among =
    ⊎_elim (λ old. earlier at got old)
    (λ last. ⊎_elim
    (λ same. let parts = ask_url url at page got same in
    subst (λ u. IfSome web (λ w. got ≡ page_in w u)) (sym parts.0) (subst (λ p. IfSome web (λ w. p ≡ page_in w url)) (sym parts.1) of))
    (λ none. absurd none) last)
    (among-split (an_ask at (Fetched got)) search.asks (an_ask url (Fetched page) ∷ []) among)

ask_fault : (url at : List ℕ) (got : Page) → an_ask at (Fetched got) ≡ an_ask url Fault → ⊥
ask_fault url at got same = let e : Fetched got ≡ Fault = ap (λ (a : Ask). a.got) same in cc e

fetched_fault : (web : Option Web) (search : Search) (url : List ℕ) → FetchesOf web search → FetchesOf web (with_ask search (an_ask url Fault))
fetched_fault web search url earlier at got among =
    ⊎_elim (λ old. earlier at got old)
    (λ last. absurd (⊎_elim (λ same. ask_fault url at got same) (λ none. absurd none) last))
    (among-split (an_ask at (Fetched got)) search.asks (an_ask url Fault ∷ []) among)

module _ (old new : LinkSeen) (before after : Search) (url : List ℕ) (calls : new.calls ≡ next_count old.calls) (web : new.web ≡ old.web) where
  -- a page came
  pub uses-page : (page : Page) → after ≡ with_ask before (an_ask url (Fetched page)) → IsOfWeb old.web url (Fetched page) → new.faults ≡ old.faults → UsesLink 0 old new before after
  uses-page page is of same =
      subst (UsesLink 0 old new before) (sym is)
      (record {
        calls = 1;
        calls_are = refl;
        called = calls;
        faults = 0;
        faults_are = omega arith;
        later = omega (arith, same);
        failed = omega (arith, same);
        shown = λ less. absurd (omega (arith, less, same));
        web = web;
        fetched = fetched_page old.web before url page of;
      })

  -- the link failed
  pub uses-fault : after ≡ with_ask before (an_ask url Fault) → old.faults ≤ new.faults → Rose old.faults new.faults → UsesLink 0 old new before after
  uses-fault is later rose =
      subst (UsesLink 0 old new before) (sym is)
      (record {
        calls = 1;
        calls_are = refl;
        called = calls;
        faults = 1;
        faults_are = refl;
        later = later;
        failed = rose;
        shown = λ less. omega arith;
        web = web;
        fetched = fetched_fault old.web before url;
      })

  -- memory was wanting
  pub uses-memory : after ≡ before → new.faults ≡ old.faults → UsesLink 1 old new before after
  uses-memory is same =
      subst (UsesLink 1 old new before) (sym is)
      (record {
        calls = 0;
        calls_are = omega arith;
        called = calls;
        faults = 0;
        faults_are = omega arith;
        later = omega (arith, same);
        failed = omega (arith, same);
        shown = λ less. absurd (omega (arith, less, same));
        web = web;
        fetched = λ of. of;
      })

-- ---- what the link answered

pub served : (web : Option Web) (url : List ℕ) (page : Page) (result : Result Page LinkFault) → Serves web url result → result ≡ Ok page → IsOfWeb web url (Fetched page)
served None url page result serves is = tt
served (Some w) url page result serves is = subst (Serves (Some w) url) is serves

module _ (before now : ℕ) (result : Result Page LinkFault) (cause : HasLinkCause before now result) where
  pub same-answered : (page : Page) → result ≡ Ok page → now ≡ before
  same-answered page is = subst (LinkCounted before now) is cause.counted

  pub rose-failed : result ≡ Err Failed → Rose before now
  rose-failed is = subst (LinkCounted before now) is cause.counted

  pub same-wanting : result ≡ Err Memory → now ≡ before
  same-wanting is = subst (LinkCounted before now) is cause.counted
