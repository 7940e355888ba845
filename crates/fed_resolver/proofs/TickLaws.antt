-- What the ledger and the link count in a whole call.
use Rattle.std.proofs.Common.{◌≡◌, ◌≤◌, ◌<◌, ◌+◌, ℕ, List, [], ◌∷◌, ◌++◌, length, Bool, Option, Some, None, Result, Ok, Err, refl, sym, ap, ap₂, ◌∙◌, subst, inl, inr, length-append, count_by, cond, arith}
use Rattle.std.proofs.lemmas.List.Sums.{sum_by-append, sum_by-cons}
use Rattle.fed_base.specs.Counts.{CountsAtMost, counted}
use Rattle.fed_ports.specs.Webs.{Web}
use Rattle.trust_mark.proofs.CountLaws.{counted-plus}
use Rattle.chain_climb.specs.Elements.{Among}
use Rattle.resolve_reply.specs.declared.reply.Reply.{Reply}
use Rattle.resolve_round.specs.declared.trace.Check.{Check}
use Rattle.resolve_round.specs.declared.trace.Search.{Search}
use Rattle.resolve_round.specs.declared.trace.Trace.{Trace}
use Rattle.resolve_round.specs.Courses.{Counts, is_fault}
use Rattle.resolve_round.specs.Traces.{asks_in}
use Rattle.resolve_round.specs.declared.halt.Halt.{Halt}
use Rattle.resolve_round.specs.declared.halt.Halt.TheVariants as halt
use Rattle.resolve_round.specs.Linking.{FetchesOf, LinkSeen}
use Rattle.resolve_round.specs.Testing.{CountsChecks}
use Rattle.resolve_round.specs.Walking.{GaveEach, Giving, Stumbled}
use Rattle.fed_resolver.specs.declared.outcome.Refusal.{Refusal}
use Rattle.fed_resolver.specs.declared.outcome.Refusal.TheVariants.{NoAnchor, NotFound, PolicyOnly, NoChain, Unavailable, Budget, Worn, Memory}
use Rattle.fed_resolver.specs.Calls.{GaveAll}
use Rattle.fed_resolver.specs.Outcomes.{IsAnswered}
use Rattle.fed_resolver.specs.Refusals.{GoesBy, WalksBy, broken_off, outcome_of}
use Rattle.fed_resolver.specs.Stretches.{Goes, GoesTo, Moment, StumbledRounds, UsesRounds, WalkedRounds}
use Rattle.fed_resolver.specs.Uses.{CountsCalls, CountsFaults, CountsSome, FetchesFrom, UsesLink, calls_made, faults_met, faults_of}

-- ---- ticks

-- checks after others
pub checks-counted : (old new : List Check) (before mid now : ℕ) → mid ≡ counted (length old) before → CountsChecks old new mid now → now ≡ counted (length new) before
checks-counted old new before mid now start counts =
    counts.counts ∙ ap (counted (length counts.more)) start ∙ counted-plus (length counts.more) (length old) before
    ∙ ap (λ n. counted n before) (sym (ap length counts.are ∙ length-append old counts.more))

pub marks-counted : (checks tests before mid now : ℕ) → mid ≡ counted checks before → now ≡ counted tests mid → now ≡ counted (checks + tests) before
marks-counted checks tests before mid now one two = two ∙ ap (counted tests) one ∙ counted-plus tests checks before

pub some-counted : (trace : Trace) (before now : ℕ) → now ≡ counted (length trace.checks) before → CountsSome trace before now
some-counted trace before now count = (0, omega arith, count ∙ ap (λ n. counted n before) (omega arith))

pub some-marks : (trace : Trace) (tests before mid now : ℕ) → mid ≡ counted (length trace.checks) before → tests ≤ 32 → CountsAtMost tests mid now → CountsSome trace before now
some-marks trace tests before mid now start few most =
    (most.steps, (let within = most.within in omega (arith, within, few)), marks-counted (length trace.checks) most.steps before mid now start most.counts)

-- ---- the link

count-append : {X : Type 0} (p : X → Bool) (xs ys : List X) → count_by p (xs ++ ys) ≡ count_by p xs + count_by p ys
count-append p xs ys = sum_by-append (λ x. cond (p x) 1 0) xs ys

pub faults-counted : (searches : List Search) → ((search : Search) → Among search searches → Counts search) → faults_met searches ≡ count_by is_fault (asks_in searches)
faults-counted [] counts = refl
faults-counted (search ∷ searches) counts =
    sum_by-cons faults_of search searches ∙ ap₂ (λ a b. a + b) (counts search (inl refl)).faults (faults-counted searches (λ s among. counts s (inr among)))
    ∙ sym (count-append is_fault search.asks (asks_in searches))

fetched-from : (web : Option Web) (searches : List Search) → ((search : Search) → Among search searches → FetchesOf web search) → FetchesFrom web searches
fetched-from None searches all = tt
fetched-from (Some web) searches all = λ search among url page there. all search among url page there

module _ (seen now : LinkSeen) (old new : Trace) (none : old.searches ≡ []) (counts : (search : Search) → Among search new.searches → Counts search) where
  all-added : (extra : ℕ) (used : UsesRounds extra seen now old.searches new.searches) → new.searches ≡ used.more
  all-added extra used = used.are ∙ ap (λ l. l ++ used.more) none

  link-calls : (extra : ℕ) → UsesRounds extra seen now old.searches new.searches → now.calls ≡ counted (calls_made new.searches + extra) seen.calls
  link-calls extra used = used.called ∙ ap (λ l. counted (calls_made l + extra) seen.calls) (sym (all-added extra used))

  link-faults : (extra : ℕ) → UsesRounds extra seen now old.searches new.searches → CountsFaults new.searches seen.faults now.faults
  link-faults extra used = record {
    at_least =
        subst (λ l. counted (faults_met l) seen.faults ≤ now.faults) (sym (all-added extra used))
        used.failed;
    shown = λ less. subst (λ n. 0 < n) (ap faults_met (sym (all-added extra used)) ∙ faults-counted new.searches counts) (used.shown less);
  }

  link-fetched : (extra : ℕ) → UsesRounds extra seen now old.searches new.searches → FetchesFrom seen.web new.searches
  link-fetched extra used = fetched-from seen.web new.searches (λ search among. used.fetched search (subst (Among search) (all-added extra used) among))

  no-more : (used : UsesRounds 0 seen now old.searches new.searches) → now.calls ≡ counted (calls_made new.searches) seen.calls
  no-more used = link-calls 0 used ∙ ap (λ n. counted n seen.calls) (omega arith)

  calls-by : (result : Result Reply Refusal) → UsesRounds 0 seen now old.searches new.searches → CountsCalls result new.searches seen.calls now.calls
  calls-by (Ok reply) used = no-more used
  calls-by (Err NoAnchor) used = no-more used
  calls-by (Err NotFound) used = no-more used
  calls-by (Err PolicyOnly) used = no-more used
  calls-by (Err NoChain) used = no-more used
  calls-by (Err Unavailable) used = no-more used
  calls-by (Err (Budget calls paths)) used = no-more used
  calls-by (Err (Worn count)) used = no-more used
  calls-by (Err Memory) used = inl (no-more used)

  -- the link was used as the outcome tells
  pub uses-all : (result : Result Reply Refusal) → UsesRounds 0 seen now old.searches new.searches → UsesLink seen.web seen.calls now.calls seen.faults now.faults (outcome_of result new)
  uses-all result used = record { calls = calls-by result used; faults = link-faults 0 used; fetched = link-fetched 0 used }

  pub uses-more : UsesRounds 1 seen now old.searches new.searches → UsesLink seen.web seen.calls now.calls seen.faults now.faults (outcome_of (Err Memory) new)
  uses-more used = record { calls = inr (link-calls 1 used); faults = link-faults 1 used; fetched = link-fetched 1 used }

pub link-by : (age : ℕ) (old new : Moment) (result : Result Reply Refusal) → old.trace.searches ≡ [] → ((search : Search) → Among search new.trace.searches → Counts search) → GoesBy age old new result
    → UsesLink old.link.web old.link.calls new.link.calls old.link.faults new.link.faults (outcome_of result new.trace)
link-by age old new (Ok reply) none counts goes = uses-all old.link new.link old.trace new.trace none counts (Ok reply) goes.used
link-by age old new (Err NoAnchor) none counts goes = uses-all old.link new.link old.trace new.trace none counts (Err NoAnchor) goes.used
link-by age old new (Err NotFound) none counts goes = uses-all old.link new.link old.trace new.trace none counts (Err NotFound) goes.used
link-by age old new (Err PolicyOnly) none counts goes = uses-all old.link new.link old.trace new.trace none counts (Err PolicyOnly) goes.used
link-by age old new (Err NoChain) none counts goes = uses-all old.link new.link old.trace new.trace none counts (Err NoChain) goes.used
link-by age old new (Err Unavailable) none counts goes = uses-all old.link new.link old.trace new.trace none counts (Err Unavailable) goes.used
link-by age old new (Err (Budget calls paths)) none counts goes = uses-all old.link new.link old.trace new.trace none counts (Err (Budget calls paths)) goes.used
link-by age old new (Err (Worn count)) none counts goes = uses-all old.link new.link old.trace new.trace none counts (Err (Worn count)) goes.used
link-by age old new (Err Memory) none counts (inl goes) = uses-all old.link new.link old.trace new.trace none counts (Err Memory) goes.used
link-by age old new (Err Memory) none counts (inr goes) = uses-more old.link new.link old.trace new.trace none counts goes.used

-- ---- by the result

pub goes-broken : (age : ℕ) (old new : Moment) (h : Halt) → GoesTo age old new h → GoesBy age old new (Err (broken_off h))
goes-broken age old new (halt.Worn count) goes = goes
goes-broken age old new halt.Memory goes = goes

pub goes-answered : (age : ℕ) (old new : Moment) (result : Result Reply Refusal) → IsAnswered result → Goes age 0 old new → GoesBy age old new result
goes-answered age old new (Ok reply) answered goes = goes
goes-answered age old new (Err NoAnchor) answered goes = goes
goes-answered age old new (Err NotFound) answered goes = goes
goes-answered age old new (Err PolicyOnly) answered goes = goes
goes-answered age old new (Err NoChain) answered goes = goes
goes-answered age old new (Err Unavailable) answered goes = goes
goes-answered age old new (Err (Budget calls paths)) answered goes = goes
goes-answered age old new (Err (Worn count)) answered goes = absurd answered
goes-answered age old new (Err Memory) answered goes = absurd answered

module _ {L : Type 0} (gave : Giving L) (old new : L) (before after : Trace) where
  pub walks-broken : (h : Halt) → StumbledRounds gave old new before after → WalksBy gave old new before after (Err (broken_off h))
  walks-broken (halt.Worn count) stumbled = stumbled
  walks-broken halt.Memory stumbled = stumbled

  pub walks-answered : (result : Result Reply Refusal) → IsAnswered result → WalkedRounds gave old new before after → WalksBy gave old new before after result
  walks-answered (Ok reply) answered walked = walked
  walks-answered (Err NoAnchor) answered walked = walked
  walks-answered (Err NotFound) answered walked = walked
  walks-answered (Err PolicyOnly) answered walked = walked
  walks-answered (Err NoChain) answered walked = walked
  walks-answered (Err Unavailable) answered walked = walked
  walks-answered (Err (Budget calls paths)) answered walked = walked
  walks-answered (Err (Worn count)) answered walked = absurd answered
  walks-answered (Err Memory) answered walked = absurd answered

  -- in a call that began without rounds
  module _ (none : before.searches ≡ []) where
    all-walked : WalkedRounds gave old new before after → GaveEach gave (asks_in after.searches) old new
    all-walked walked = subst (λ l. GaveEach gave (asks_in l) old new) (sym (walked.are ∙ ap (λ l. l ++ walked.more) none)) walked.gave_each

    all-stumbled : StumbledRounds gave old new before after → Stumbled gave old new [] (asks_in after.searches)
    all-stumbled stumbled = subst (λ l. Stumbled gave old new [] (asks_in l)) (sym (stumbled.are ∙ ap (λ l. l ++ stumbled.more) none)) stumbled.stumbled

    pub gave-all : (result : Result Reply Refusal) → WalksBy gave old new before after result → GaveAll gave old new after result
    gave-all (Ok reply) walks = all-walked walks
    gave-all (Err NoAnchor) walks = all-walked walks
    gave-all (Err NotFound) walks = all-walked walks
    gave-all (Err PolicyOnly) walks = all-walked walks
    gave-all (Err NoChain) walks = all-walked walks
    gave-all (Err Unavailable) walks = all-walked walks
    gave-all (Err (Budget calls paths)) walks = all-walked walks
    gave-all (Err (Worn count)) walks = all-stumbled walks
    gave-all (Err Memory) walks = all-stumbled walks
