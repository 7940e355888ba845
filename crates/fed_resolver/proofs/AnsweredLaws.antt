-- A call that ended before it searched, and what it begins its search with.
use Rattle.std.proofs.Common.{◌≡◌, ℕ, List, [], ◌∷◌, length, Result, Ok, Err, refl, sym, ap, ◌∙◌, subst}
use Rattle.chain_climb.specs.Elements.{Among}
use Rattle.statement_shelf.specs.Passes.{CommonsKnown}
use Rattle.statement_shelf.specs.declared.calls.AnchorKeys.{AnchorKeys}
use Rattle.statement_shelf.specs.declared.calls.BookCall.TheVariants.{Read}
use Rattle.resolve_reply.specs.declared.reply.Reply.{Reply}
use Rattle.resolve_reply.specs.declared.signer.Signer.{Signer}
use Rattle.resolve_round.specs.declared.trace.Event.TheVariants.{Book}
use Rattle.resolve_round.specs.declared.trace.Trace.{Trace}
use Rattle.resolve_round.specs.declared.halt.Halt.{Halt}
use Rattle.resolve_round.specs.Acts.{GainsEvents, IsHalt}
use Rattle.resolve_round.specs.Linking.{LinkSeen}
use Rattle.resolve_round.specs.Walking.{Giving}
use Rattle.fed_resolver.specs.declared.outcome.Refusal.{Refusal}
use Rattle.fed_resolver.specs.declared.outcome.Refusal.TheVariants.{NoAnchor, NotFound, PolicyOnly, NoChain, Unavailable, Budget, Worn, Memory}
use Rattle.fed_resolver.specs.Calls.{GaveAll, IsFresh, Resolves}
use Rattle.fed_resolver.specs.Going.{CanTakeKeys, HasRead, IsBegun, IsBlank, TakesKeys}
use Rattle.fed_resolver.specs.Refusals.{WalksBy, broken_off, outcome_of}
use Rattle.fed_resolver.specs.Told.{Situation}
use Rattle.fed_resolver.specs.Uses.{CountsAll, CountsTests, UsesLink}
use Rattle.fed_resolver.proofs.BeginLaws.{IsBare, bare-blank, bare-read, bare-true, counts-broken, part-blank, part-read, tells-broken, unlisted-all, worn-broken}
use Rattle.fed_resolver.proofs.StretchLaws.{rounds-none, stumbled-still, walked-still}
use Rattle.fed_resolver.proofs.TickLaws.{gave-all, some-counted, uses-all}
use Rattle.fed_base.specs.Counts.{counted}

-- ---- the link wasn't used

module _ (trace : Trace) (none : trace.searches ≡ []) where
  pub link-bare : (seen : LinkSeen) (result : Result Reply Refusal) → UsesLink seen.web seen.calls seen.calls seen.faults seen.faults (outcome_of result trace)
  link-bare seen result =
      uses-all seen seen trace trace none (λ search among. absurd (subst (Among search) none among)) result (rounds-none seen trace.searches trace.searches refl)

  walks-bare : {L : Type 0} → (gave : Giving L) → (l : L) (result : Result Reply Refusal) → WalksBy gave l l trace trace result
  walks-bare gave l (Ok reply) = walked-still gave l trace
  walks-bare gave l (Err NoAnchor) = walked-still gave l trace
  walks-bare gave l (Err NotFound) = walked-still gave l trace
  walks-bare gave l (Err PolicyOnly) = walked-still gave l trace
  walks-bare gave l (Err NoChain) = walked-still gave l trace
  walks-bare gave l (Err Unavailable) = walked-still gave l trace
  walks-bare gave l (Err (Budget calls paths)) = walked-still gave l trace
  walks-bare gave l (Err (Worn count)) = stumbled-still gave l trace
  walks-bare gave l (Err Memory) = stumbled-still gave l trace

  pub gave-bare : {L : Type 0} → (gave : Giving L) → (l : L) (result : Result Reply Refusal) → GaveAll gave l l trace result
  gave-bare gave l result = gave-all gave l l trace trace none result (walks-bare gave l result)

bare-count : (trace : Trace) (before : ℕ) → trace.checks ≡ [] → before ≡ counted (length trace.checks) before
bare-count trace before none = sym (ap (λ cs. counted (length cs) before) none)

-- ---- the book wasn't read

module _ (here : Situation) (signer : Signer) (trace : Trace) (blank : IsBlank here.bounds here.moment trace) (h : Halt) (refusal : Refusal) (is : refusal ≡ broken_off h) where
  pub blank-resolves : (old new : CommonsKnown) → GainsEvents old new trace.events → ((anchors : List AnchorKeys) → IsFresh anchors old trace) → IsHalt new h
      → Resolves here signer old new (outcome_of (Err refusal) trace)
  blank-resolves old new gains fresh halts =
      subst (λ r. Resolves here signer old new (outcome_of (Err r) trace)) (sym is)
      (record {
        tells = tells-broken here signer trace h (part-blank here trace blank);
        events = gains;
        worn = worn-broken new h halts;
        fresh = fresh;
        untested = (bare-true trace (bare-blank trace blank.searches blank.checks blank.events) here.age).untested;
      })

  pub blank-counts : (before : ℕ) → CountsTests here signer (outcome_of (Err refusal) trace) (Err refusal) before before
  blank-counts before =
      subst (λ r. CountsTests here signer (outcome_of (Err r) trace) (Err r) before before) (sym is)
      (counts-broken here signer trace h before before (some-counted trace before before (bare-count trace before blank.checks)))

-- ---- the book was read

module _ (here : Situation) (first mid : Trace) (blank : IsBlank here.bounds here.moment first) (read : HasRead here.request.anchor first mid) where
  mid-events : mid.events ≡ Book (Read here.request.anchor) read.answer ∷ []
  mid-events = ap (λ (t : Trace). t.events) read.is

  pub can-take : CanTakeKeys mid
  can-take = record {
    anchor = here.request.anchor;
    answer = read.answer;
    is = mid-events;
    can = read.can;
    epoch = ap (λ (t : Trace). t.epoch) read.is ∙ blank.epoch;
    unkeyed = ap (λ (t : Trace). t.keys.keys) read.is ∙ blank.keys;
  }

  module _ (last : Trace) (result : Result (Unit {0}) Refusal) (takes : TakesKeys mid last result) where
    last-moment : last.moment ≡ here.moment
    last-moment = ap (λ (t : Trace). t.moment) takes.same ∙ ap (λ (t : Trace). t.moment) read.is ∙ blank.moment_is

    last-bounds : last.bounds ≡ here.bounds
    last-bounds = ap (λ (t : Trace). t.bounds) takes.same ∙ ap (λ (t : Trace). t.bounds) read.is ∙ blank.bounds_is

    pub last-searches : last.searches ≡ []
    last-searches = ap (λ (t : Trace). t.searches) takes.same ∙ ap (λ (t : Trace). t.searches) read.is ∙ blank.searches

    last-checks : last.checks ≡ []
    last-checks = ap (λ (t : Trace). t.checks) takes.same ∙ ap (λ (t : Trace). t.checks) read.is ∙ blank.checks

    pub same-events : last.events ≡ mid.events
    same-events = ap (λ (t : Trace). t.events) takes.same

    last-events : last.events ≡ Book (Read here.request.anchor) read.answer ∷ []
    last-events = same-events ∙ mid-events

    last-bare : IsBare last
    last-bare = bare-read last (Read here.request.anchor) read.answer last-searches last-checks last-events

  -- the keys were taken
  pub taken-begun : (last : Trace) → TakesKeys mid last (Ok tt) → IsBegun here last
  taken-begun last takes = record {
    moment = last-moment last (Ok tt) takes;
    bounds = last-bounds last (Ok tt) takes;
    searches = last-searches last (Ok tt) takes;
    checks = last-checks last (Ok tt) takes;
    events = last-events last (Ok tt) takes ∙ ap (λ a. Book (Read here.request.anchor) a ∷ []) (takes.took here.request.anchor read.answer mid-events);
  }

  -- they were not
  module _ (signer : Signer) (last : Trace) (old new : CommonsKnown) (gains : GainsEvents old new mid.events) (fresh : (anchors : List AnchorKeys) → IsFresh anchors old mid) where
    fresh-last : (r : Refusal) (takes : TakesKeys mid last (Err r)) (anchors : List AnchorKeys) → IsFresh anchors old last
    fresh-last r takes anchors at epoch keys among = fresh anchors at epoch keys (subst (Among _) (same-events last (Err r) takes) among)

    gains-last : (r : Refusal) (takes : TakesKeys mid last (Err r)) → GainsEvents old new last.events
    gains-last r takes = subst (GainsEvents old new) (sym (same-events last (Err r) takes)) gains

    unlisted : (takes : TakesKeys mid last (Err NoAnchor)) (before : ℕ) → CountsAll here signer (outcome_of (Err NoAnchor) last) before before
    unlisted takes before =
        let took = takes.took here.request.anchor read.answer mid-events in
        unlisted-all here signer last (last-moment last (Err NoAnchor) takes) (last-bounds last (Err NoAnchor) takes)
        (last-events last (Err NoAnchor) takes ∙ ap (λ a. Book (Read here.request.anchor) a ∷ []) took.0)
        (ap (λ (t : Trace). t.epoch) took.1 ∙ ap (λ (t : Trace). t.epoch) read.is ∙ blank.epoch)
        (ap (λ (t : Trace). t.keys.keys) took.1 ∙ ap (λ (t : Trace). t.keys.keys) read.is ∙ blank.keys)
        (last-searches last (Err NoAnchor) takes) (last-checks last (Err NoAnchor) takes) before

    pub taken-resolves : (r : Refusal) → TakesKeys mid last (Err r) → Resolves here signer old new (outcome_of (Err r) last)
    taken-resolves NoAnchor takes = record {
      tells = (unlisted takes 0).whole;
      events = gains-last NoAnchor takes;
      worn = tt;
      fresh = fresh-last NoAnchor takes;
      untested = (bare-true last (last-bare last (Err NoAnchor) takes) here.age).untested;
    }
    taken-resolves Memory takes = record {
      tells = part-read here last read.answer [] (last-moment last (Err Memory) takes) (last-bounds last (Err Memory) takes) (last-events last (Err Memory) takes) (takes.took here.request.anchor read.answer mid-events) (λ event among. absurd among)
          (bare-true last (last-bare last (Err Memory) takes) here.age);
      events = gains-last Memory takes;
      worn = tt;
      fresh = fresh-last Memory takes;
      untested = (bare-true last (last-bare last (Err Memory) takes) here.age).untested;
    }
    taken-resolves r takes = absurd (takes.took here.request.anchor read.answer mid-events)

    pub taken-counts : (r : Refusal) → TakesKeys mid last (Err r) → (before : ℕ) → CountsTests here signer (outcome_of (Err r) last) (Err r) before before
    taken-counts NoAnchor takes before = unlisted takes before
    taken-counts Memory takes before = some-counted last before before (bare-count last before (last-checks last (Err Memory) takes))
    taken-counts r takes before = absurd (takes.took here.request.anchor read.answer mid-events)
