-- A call that has read the book, and nothing more.
use Rattle.std.proofs.Common.{◌≡◌, ℕ, List, [], ◌∷◌, ◌++◌, length, map, Err, refl, sym, ap, ◌∙◌, subst, inl, inr, ⊎_elim, arith}
use Rattle.turn_log.proofs.Gains.{gains-append}
use Rattle.chain_climb.specs.Elements.{Among, NoneTwice}
use Rattle.chain_climb.proofs.Elements.{among-split}
use Rattle.statement_shelf.specs.Passes.{CommonsKnown}
use Rattle.statement_shelf.specs.declared.calls.AnchorKeys.{AnchorKeys}
use Rattle.statement_shelf.specs.declared.calls.BookCall.{BookCall}
use Rattle.statement_shelf.specs.declared.calls.BookCall.TheVariants.{Read}
use Rattle.statement_shelf.specs.declared.calls.BookReply.{BookReply}
use Rattle.statement_shelf.specs.declared.calls.BookReply.TheVariants as book
use Rattle.statement_shelf.specs.declared.calls.ShelfCall.{ShelfCall}
use Rattle.statement_shelf.specs.declared.calls.ShelfReply.{ShelfReply}
use Rattle.resolve_reply.specs.declared.signer.Signer.{Signer}
use Rattle.resolve_round.specs.declared.trace.Check.{Check}
use Rattle.resolve_round.specs.declared.trace.Event.{Event}
use Rattle.resolve_round.specs.declared.trace.Event.TheVariants.{Shelf, Book}
use Rattle.resolve_round.specs.declared.trace.Trace.{Trace}
use Rattle.resolve_round.specs.Told.{AreChecks, IsTrueSoFar, ProvesGood}
use Rattle.resolve_round.specs.Traces.{IsWork, asks_in, pair_in, puts_in}
use Rattle.resolve_round.specs.declared.halt.Halt.{Halt}
use Rattle.resolve_round.specs.declared.halt.Halt.TheVariants as halt
use Rattle.resolve_round.specs.Acts.{Continues, GainsEvents, IsHalt, on_book, on_part}
use Rattle.fed_resolver.specs.declared.outcome.Refusal.TheVariants as refusal
use Rattle.fed_resolver.specs.Calls.{IsFresh, WornOnly}
use Rattle.fed_resolver.specs.Going.{IsBlank}
use Rattle.fed_resolver.specs.Outcomes.{Tells}
use Rattle.fed_resolver.specs.Refusals.{WholeBy, broken_off, outcome_of}
use Rattle.fed_resolver.specs.Searches.{marks_tested}
use Rattle.fed_resolver.specs.Told.{BeginsSo, GaveSome, Situation, ToldInPart, ToldWhole}
use Rattle.fed_resolver.specs.Uses.{CountsAll, CountsSome, CountsTests}
use Rattle.fed_base.specs.Counts.{counted}

-- ---- nothing was searched

-- the trace has no round, no check and no call on the cache
pub record IsBare (trace : Trace) : Type 0 where
  pub searches : trace.searches ≡ []
  pub checks : trace.checks ≡ []
  pub events : (call : ShelfCall) (r : ShelfReply) → ¬ Among (Shelf call r) trace.events
  pub puts : puts_in trace.events ≡ []

pub bare-blank : (trace : Trace) → trace.searches ≡ [] → trace.checks ≡ [] → trace.events ≡ [] → IsBare trace
bare-blank trace searches checks events = record {
  searches = searches;
  checks = checks;
  events = λ call r among. subst (Among (Shelf call r)) events among;
  puts = ap puts_in events;
}

no-call : (call : ShelfCall) (r : ShelfReply) (c : BookCall) (answer : BookReply) → ¬ Among (Shelf call r) (Book c answer ∷ [])
no-call call r c answer (inl same) = cc same
no-call call r c answer (inr none) = none

pub bare-read : (trace : Trace) (c : BookCall) (answer : BookReply) → trace.searches ≡ [] → trace.checks ≡ [] → trace.events ≡ Book c answer ∷ [] → IsBare trace
bare-read trace c answer searches checks events = record {
  searches = searches;
  checks = checks;
  events = λ call r among. no-call call r c answer (subst (Among (Shelf call r)) events among);
  puts = ap puts_in events;
}

module _ (trace : Trace) (bare : IsBare trace) where
  no-asks : asks_in trace.searches ≡ []
  no-asks = ap asks_in bare.searches

  no-check : (check : Check) → ¬ Among check trace.checks
  no-check check among = subst (Among check) bare.checks among

  bare-checks : AreChecks trace
  bare-checks = record {
    each = λ check among. absurd (no-check check among);
    once = subst (λ cs. NoneTwice (map pair_in cs)) (sym bare.checks) tt;
  }

  pub bare-true : (age : ℕ) → IsTrueSoFar age trace
  bare-true age = record {
    looks = λ url moment r among. absurd (bare.events _ r among);
    hits = λ url proven among. absurd (subst (Among _) no-asks among);
    puts = λ kept among. absurd (subst (Among kept) bare.puts among);
    proves = λ url seal r among. absurd (bare.events _ r among);
    checks = bare-checks;
    counts = λ search among. absurd (subst (Among search) bare.searches among);
    untested = λ check among. absurd (no-check check among);
  }

  pub bare-good : ProvesGood trace
  bare-good check among = absurd (no-check check among)

-- ---- told in part

pub told-part : (here : Situation) (trace : Trace) → trace.moment ≡ here.moment → trace.bounds ≡ here.bounds → BeginsSo here trace trace.events → IsTrueSoFar here.age trace → ToldInPart here trace
told-part here trace moment bounds begins told = record {
  moment = moment;
  bounds = bounds;
  begins = begins;
  looks = told.looks;
  hits = told.hits;
  puts = told.puts;
  proves = told.proves;
  checks = told.checks;
  counts = told.counts;
}

pub part-blank : (here : Situation) (trace : Trace) → IsBlank here.bounds here.moment trace → ToldInPart here trace
part-blank here trace blank =
    told-part here trace blank.moment_is blank.bounds_is (subst (BeginsSo here trace) (sym blank.events) (blank.epoch, blank.keys))
    (bare-true trace (bare-blank trace blank.searches blank.checks blank.events) here.age)

pub part-read : (here : Situation) (trace : Trace) (answer : BookReply) (work : List Event) → trace.moment ≡ here.moment → trace.bounds ≡ here.bounds → trace.events ≡ Book (Read here.request.anchor) answer ∷ work
    → GaveSome answer trace.epoch trace.keys.keys → ((event : Event) → Among event work → IsWork event) → IsTrueSoFar here.age trace → ToldInPart here trace
part-read here trace answer work moment bounds events gave works told = told-part here trace moment bounds (subst (BeginsSo here trace) (sym events) (refl, gave, works)) told

-- ---- an anchor that isn't listed

module _ (here : Situation) (signer : Signer) (trace : Trace) (moment : trace.moment ≡ here.moment) (bounds : trace.bounds ≡ here.bounds) (events : trace.events ≡ Book (Read here.request.anchor) book.NoAnchor ∷ []) (epoch : trace.epoch ≡ 0)
    (keys : trace.keys.keys ≡ []) (searches : trace.searches ≡ []) (checks : trace.checks ≡ []) where
  bare : IsBare trace
  bare = bare-read trace (Read here.request.anchor) book.NoAnchor searches checks events

  abbrev unlisted_told : ToldWhole here trace
  unlisted_told = record {
    base = record {
      moment = moment;
      bounds = bounds;
      answer = book.NoAnchor;
      work = [];
      begins = events;
      works = λ event among. absurd among;
      keys = (epoch, keys);
      leaf = [];
      others = [];
      searches = searches;
      rounds = (refl, refl);
      checks = bare-checks trace bare;
    };
    did = refl;
    proved = bare-good trace bare;
    proves = (bare-true trace bare here.age).proves;
  }

  pub unlisted-all : (before : ℕ) → CountsAll here signer (outcome_of (Err refusal.NoAnchor) trace) before before
  unfolding marks_tested
  unlisted-all before = record { whole = record { told = unlisted_told; result = refl }; count = ap (λ (cs : List Check). counted (length cs) before) (sym checks) ∙ ap (λ n. counted n before) (omega arith) }

-- ---- a call that broke off

pub whole-broken : (here : Situation) (signer : Signer) (trace : Trace) (h : Halt) → WholeBy here signer trace (Err (broken_off h))
whole-broken here signer trace (halt.Worn count) = tt
whole-broken here signer trace halt.Memory = tt

pub worn-broken : (known : CommonsKnown) (h : Halt) → IsHalt known h → WornOnly known (Err (broken_off h))
worn-broken known (halt.Worn count) is = is
worn-broken known halt.Memory is = tt

pub tells-broken : (here : Situation) (signer : Signer) (trace : Trace) (h : Halt) → ToldInPart here trace → Tells here signer (outcome_of (Err (broken_off h)) trace) (Err (broken_off h))
tells-broken here signer trace (halt.Worn count) part = part
tells-broken here signer trace halt.Memory part = part

pub counts-broken : (here : Situation) (signer : Signer) (trace : Trace) (h : Halt) (before now : ℕ) → CountsSome trace before now → CountsTests here signer (outcome_of (Err (broken_off h)) trace) (Err (broken_off h)) before now
counts-broken here signer trace (halt.Worn count) before now some = some
counts-broken here signer trace halt.Memory before now some = some

-- ---- behind the reading of the book

-- events that are no call on the book don't make the keys older
pub fresh-later : (anchors : List AnchorKeys) (old : CommonsKnown) (first last : Trace) (more : List Event) → IsFresh anchors old first → last.events ≡ first.events ++ more
    → ((event : Event) → Among event more → IsWork event) → IsFresh anchors old last
fresh-later anchors old first last more fresh are works at epoch keys among book run =
    ⊎_elim (λ front. fresh at epoch keys front book run) (λ back. absurd (works _ back))
    (among-split _ first.events more (subst (Among _) are among))

pub gains-later : (old mid new : CommonsKnown) (first last : List Event) (continues : Continues first last mid new) → GainsEvents old mid first → GainsEvents old new last
gains-later old mid new first last continues gains =
    subst (GainsEvents old new) (sym continues.are) (gains-append on_part on_book old mid new first continues.more gains continues.gains)
