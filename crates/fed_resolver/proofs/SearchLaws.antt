-- What a call answers behind the reading of the book.
use Rattle.std.proofs.Common.{◌≡◌, ℕ, List, ◌∷◌, ◌++◌, length, Some, None, Result, Ok, Err, refl, sym, ap, ap₂, ◌∙◌, subst, inl, inr}
use Rattle.statement_shelf.specs.Passes.{CommonsKnown}
use Rattle.statement_shelf.specs.declared.calls.AnchorKeys.{AnchorKeys}
use Rattle.statement_shelf.specs.declared.calls.BookCall.TheVariants.{Read}
use Rattle.statement_shelf.specs.declared.calls.BookReply.TheVariants.{Keys}
use Rattle.resolve_reply.specs.declared.reply.Reply.{Reply}
use Rattle.resolve_reply.specs.declared.signer.Signer.{Signer}
use Rattle.resolve_round.specs.declared.request.ResolveRequest.{ResolveRequest}
use Rattle.resolve_round.specs.declared.trace.Event.TheVariants.{Book}
use Rattle.resolve_round.specs.declared.trace.Trace.{Trace}
use Rattle.resolve_round.specs.Pages.{case_in}
use Rattle.resolve_round.specs.Rounds.{EndsAs, FoundPath, pages_in}
use Rattle.resolve_round.specs.Told.{IsTrueSoFar, ProvesGood}
use Rattle.resolve_search.specs.declared.round.FoundChain.{FoundChain}
use Rattle.resolve_search.specs.declared.round.RoundEnd.{RoundEnd}
use Rattle.resolve_round.specs.Acts.{GainsEvents}
use Rattle.resolve_search.specs.Judging.{IsFound}
use Rattle.resolve_round.specs.Linking.{LinkSeen}
use Rattle.resolve_search.specs.Turning.{IsChain, query_at}
use Rattle.fed_resolver.specs.declared.outcome.Refusal.{Refusal}
use Rattle.fed_resolver.specs.declared.outcome.Refusal.TheVariants.{NoAnchor, NotFound, PolicyOnly, NoChain, Unavailable, Budget, Worn, Memory}
use Rattle.fed_resolver.specs.Calls.{IsFresh, Resolves, WornOnly}
use Rattle.fed_resolver.specs.Going.{HasLeaf, HasRounds, IsBegun, faults_in, first_aim, last_search}
use Rattle.fed_resolver.specs.Outcomes.{Tells, asked_query}
use Rattle.fed_resolver.specs.Refusals.{GoesBy, WholeBy, outcome_of, refused_by}
use Rattle.fed_resolver.specs.Stretches.{Goes, Moment, moment_at}
use Rattle.fed_resolver.specs.Told.{Situation, ToldInPart, situation_of}
use Rattle.fed_resolver.specs.Uses.{CountsAll}
use Rattle.fed_resolver.proofs.BeginLaws.{IsBare, bare-good, bare-read, bare-true, fresh-later, gains-later, part-read}
use Rattle.fed_resolver.proofs.WholeLaws.{last-told, leaf-query, leaf_rounds, refused-all}
use Rattle.fed_base.specs.Counts.{counted}

-- ---- the beginning

begun-bare : (here : Situation) (trace : Trace) → IsBegun here trace → IsBare trace
begun-bare here trace begun = bare-read trace (Read here.request.anchor) (Keys trace.epoch trace.keys) begun.searches begun.checks begun.events

pub begun-true : (here : Situation) (age : ℕ) (trace : Trace) → IsBegun here trace → IsTrueSoFar age trace
begun-true here age trace begun = bare-true trace (begun-bare here trace begun) age

pub begun-good : (here : Situation) (trace : Trace) → IsBegun here trace → ProvesGood trace
begun-good here trace begun = bare-good trace (begun-bare here trace begun)

-- ---- the leaf's rounds

module _ (request : ResolveRequest) (signer : Signer) (t : ℕ) (old new : Trace) (before after : CommonsKnown) (seen now : LinkSeen) (begun : IsBegun (situation_of request signer t) old)
    (goes : Goes signer.age 0 (moment_at old before seen) (moment_at new after now)) (ended : RoundEnd) (has : HasRounds (first_aim request.sub request.anchor signer) old new ended) where
  query : query_at (first_aim request.sub request.anchor signer) old ≡ asked_query (situation_of request signer t) new
  query = leaf-query request signer t old new begun goes.call goes.continues.more goes.continues.are goes.continues.works ended has

  -- a chain was found
  pub leaf-found : (chain : FoundChain) → ended.chain ≡ Some chain → HasLeaf (situation_of request signer t) new chain
  leaf-found chain is =
      let found = subst (IsChain (query_at (first_aim request.sub request.anchor signer) old) new has.last) is has.chain in
      record {
        rounds = leaf_rounds request signer t old new begun goes.call goes.continues.more goes.continues.are goes.continues.works ended has;
        path = found.0;
        is_path = found.1;
        is_found = subst (λ q. IsFound new (case_in q (pages_in has.last) found.0) chain.texts chain.resolved) query found.2;
      }

  -- none was
  pub leaf-refused : ended.chain ≡ None → ProvesGood new → (faults : ℕ) → faults ≡ faults_in (last_search new.searches) → (first last : ℕ) → last ≡ counted (length new.checks) first
      → CountsAll (situation_of request signer t) signer (outcome_of (Err (refused_by ended.end faults)) new) first last
  leaf-refused is good faults are first last count =
      let leaf = leaf_rounds request signer t old new begun goes.call goes.continues.more goes.continues.are goes.continues.works ended has in
      let none : ¬ FoundPath has.last = subst (IsChain (query_at (first_aim request.sub request.anchor signer) old) new has.last) is has.chain in
      refused-all (situation_of request signer t) signer new leaf goes.told good none ended.end faults
      (sym (are ∙ ap faults_in (ap last_search leaf.searches ∙ last-told has.courses has.last has.is_last)))
      (subst (λ q. EndsAs q has.last ended.end) query has.ends) first last count

-- ---- by the result

tells-by : (here : Situation) (signer : Signer) (trace : Trace) (result : Result Reply Refusal) → WholeBy here signer trace result → ToldInPart here trace → Tells here signer (outcome_of result trace) result
tells-by here signer trace (Ok reply) whole part = whole
tells-by here signer trace (Err NoAnchor) whole part = whole
tells-by here signer trace (Err NotFound) whole part = whole
tells-by here signer trace (Err PolicyOnly) whole part = whole
tells-by here signer trace (Err NoChain) whole part = whole
tells-by here signer trace (Err Unavailable) whole part = whole
tells-by here signer trace (Err (Budget calls paths)) whole part = whole
tells-by here signer trace (Err (Worn count)) whole part = part
tells-by here signer trace (Err Memory) whole part = part

pub goes-any : (age : ℕ) (old new : Moment) (result : Result Reply Refusal) → GoesBy age old new result → (extra : ℕ) × Goes age extra old new
goes-any age old new (Ok reply) goes = (0, goes)
goes-any age old new (Err NoAnchor) goes = (0, goes)
goes-any age old new (Err NotFound) goes = (0, goes)
goes-any age old new (Err PolicyOnly) goes = (0, goes)
goes-any age old new (Err NoChain) goes = (0, goes)
goes-any age old new (Err Unavailable) goes = (0, goes)
goes-any age old new (Err (Budget calls paths)) goes = (0, goes)
goes-any age old new (Err (Worn count)) goes = (0, goes)
goes-any age old new (Err Memory) (inl goes) = (0, goes)
goes-any age old new (Err Memory) (inr goes) = (1, goes)

-- the outcome of a call that searched
pub searched-resolves : (request : ResolveRequest) (signer : Signer) (t : ℕ) (old mid new : CommonsKnown) (start last : Trace) (seen now : LinkSeen) (result : Result Reply Refusal)
    → IsBegun (situation_of request signer t) start → GainsEvents old mid start.events → ((anchors : List AnchorKeys) → IsFresh anchors old start)
    → GoesBy signer.age (moment_at start mid seen) (moment_at last new now) result → WholeBy (situation_of request signer t) signer last result → WornOnly new result
    → Resolves (situation_of request signer t) signer old new (outcome_of result last)
searched-resolves request signer t old mid new start last seen now result begun gains fresh by whole worn =
    let any = goes-any signer.age (moment_at start mid seen) (moment_at last new now) result by in
    let goes = any.1 in
    let more = goes.continues.more in
    let begins : last.events ≡ Book (Read request.anchor) (Keys last.epoch last.keys) ∷ more =
    goes.continues.are ∙ ap (λ l. l ++ more) begun.events ∙ ap₂ (λ n k. Book (Read request.anchor) (Keys n k) ∷ more) (sym goes.call.epoch) (sym goes.call.keys) in
    let part = part-read (situation_of request signer t) last (Keys last.epoch last.keys) more (goes.call.moment ∙ begun.moment) (goes.call.bounds ∙ begun.bounds) begins (refl, inl refl) goes.continues.works goes.told in
    record {
      tells = tells-by (situation_of request signer t) signer last result whole part;
      events = gains-later old mid new start.events last.events goes.continues gains;
      worn = worn;
      fresh = λ anchors. fresh-later anchors old start last more (fresh anchors) goes.continues.are goes.continues.works;
      untested = goes.told.untested;
    }
