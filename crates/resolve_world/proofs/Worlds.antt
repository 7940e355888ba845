-- A call's trace with the lists that its pass has seen makes a world, in which the call is a session.
use Rattle.std.proofs.Common.{◌≡◌, ◌≢◌, ◌<◌, ◌≤◌, ◌⊎◌, ℕ, zero, suc, List, [], ◌∷◌, ◌++◌, map, filter_map, Option, Some, None, Result, Ok, Err, refl, sym, ap, ap₂, ◌∙◌, subst, inl, inr, ⊎_elim, append_assoc, append-nil, arith, nat_eq, eqb-true, false, cond}
use Rattle.std.specs.Prelude.{AllPairs}
use Rattle.std.proofs.lemmas.List.Elements.{filter_map-append}
use Rattle.jwk_set.specs.declared.jwk.Jwk.{Jwk}
use Rattle.jwk_set.specs.declared.set.JwkSet.{JwkSet}
use Rattle.turn_log.specs.Gains.{calls_of}
use Rattle.turn_log.specs.Groups.{IsHistory}
use Rattle.turn_log.specs.Places.{Rising}
use Rattle.turn_log.specs.Runs.{Account, Adds, IsAccount, Runs}
use Rattle.entity_statement.specs.Claims.{Identifier}
use Rattle.chain_check.specs.Chains.{Texts}
use Rattle.chain_climb.specs.Elements.{Among}
use Rattle.chain_climb.proofs.Elements.{among-left, among-right, among-split}
use Rattle.statement_shelf.specs.declared.calls.AnchorKeys.{AnchorKeys}
use Rattle.statement_shelf.specs.declared.calls.BookCall.{BookCall}
use Rattle.statement_shelf.specs.declared.calls.BookCall.TheVariants.{Read, Epoch, Rotate}
use Rattle.statement_shelf.specs.declared.calls.BookReply.{BookReply}
use Rattle.statement_shelf.specs.declared.calls.BookReply.TheVariants as book
use Rattle.statement_shelf.specs.declared.calls.ShelfCall.{ShelfCall}
use Rattle.statement_shelf.specs.declared.calls.ShelfCall.TheVariants.{Look, Put, Prove, Purge}
use Rattle.statement_shelf.specs.declared.calls.ShelfReply.{ShelfReply}
use Rattle.statement_shelf.specs.declared.calls.ShelfReply.TheVariants.{Done, Gone}
use Rattle.statement_shelf.specs.Book.{BookStep, opened_with}
use Rattle.statement_shelf.specs.Entries.{Part, part_of}
use Rattle.statement_shelf.specs.Passes.{CommonsKnown}
use Rattle.statement_shelf.specs.Shelf.{ShelfStep}
use Rattle.resolve_reply.specs.declared.reply.Reply.{Reply}
use Rattle.resolve_reply.specs.declared.signer.Signer.{Signer}
use Rattle.resolve_reply.specs.Replies.{chain_of}
use Rattle.resolve_reply.proofs.ClaimLaws.{chain-said}
use Rattle.resolve_round.specs.declared.trace.Check.{Check}
use Rattle.resolve_round.specs.declared.trace.Event.{Event}
use Rattle.resolve_round.specs.declared.trace.Event.TheVariants.{Shelf, Book}
use Rattle.resolve_round.specs.declared.trace.Trace.{Trace}
use Rattle.resolve_round.specs.Acts.{GainsEvents, on_book as book_told, on_part}
use Rattle.resolve_round.specs.Courses.{Course}
use Rattle.resolve_round.specs.Rounds.{IsLast, last_course}
use Rattle.resolve_round.specs.Told.{AreChecks}
use Rattle.resolve_round.specs.Traces.{IsWork, ShelfEvent, asks_in, pair_in}
use Rattle.resolve_round.proofs.Elements.{among-filter_map, among-map, filter-among, map-among}
use Rattle.fed_resolver.specs.declared.outcome.Outcome.{Outcome}
use Rattle.fed_resolver.specs.declared.outcome.Refusal.{Refusal}
use Rattle.fed_resolver.specs.declared.outcome.Refusal.TheVariants.{NoAnchor, NotFound, PolicyOnly, NoChain, Unavailable, Budget, Worn, Memory}
use Rattle.fed_resolver.specs.Calls.{Resolves}
use Rattle.fed_resolver.specs.Outcomes.{IsResult, IsWhole, LastReplies, Tells, asked_query}
use Rattle.fed_resolver.specs.Told.{BeginsSo, GaveKeys, SearchesAfter, Situation, ToldInPart, ToldWhole}
use Rattle.fed_resolver.specs.Worlds.{Happening, IsHonest, IsToldIn, IsWorld, LastRead, MayReply, ProvesSealed, book_call, book_calls, gets, on_book, on_shelf, replies, shelf_call, shelf_calls, tests}
use Rattle.fed_resolver.proofs.PartLaws.{whole-part}
use Rattle.fed_resolver.proofs.ReplyLaws.{may-reply}
use Rattle.resolve_world.specs.Sessions.{Does, Fetch, HasWorld, IsOnItsPart, Replied, RepliesBy, event_by, fetch_by, fetch_in, reply_by, test_by, test_in}
use Rattle.resolve_world.proofs.Lists.{Embeds, by-bool, embeds, keeps-all, keeps-map, keeps-no-map, keeps-none, none-there, rise, rise-later}
use Rattle.resolve_world.proofs.Weaving.{BookEvent, IsCall, Weaves, Woven, call-there, others_at_book, weave, woven-book, woven-rest}

below-or : (n p : ℕ) → (p < n) ⊎ (n ≤ p)
below-or zero p = inr (omega arith)
below-or (suc n) zero = inl (omega arith)
below-or (suc n) (suc p) = ⊎_elim (λ less. inl (omega (arith, less))) (λ past. inr (omega (arith, past))) (below-or n p)

-- ---- what others did

-- a legal list has Proves only of pairs that verify
step-proves : (old : Part) (call : ShelfCall) (answer : ShelfReply) (new : Part) → ShelfStep old call answer new → ProvesSealed call
step-proves old (Look url moment) answer new step = tt
step-proves old (Put url text until) answer new step = tt
step-proves old (Prove url seal) Done new (e, holds, is, sealed) = sealed
step-proves old (Prove url seal) Gone new (none, is, sealed) = sealed
step-proves old (Prove url seal) answer new step = absurd step
step-proves old (Purge moment) answer new step = tt

run-proves : (first last : Part) (calls : List ShelfEvent) → Runs ShelfStep first calls last → (e : ShelfEvent) → Among e calls → ProvesSealed e.0
run-proves first last [] run e among = absurd among
run-proves first last (d ∷ calls) (next, step, run) e (inl same) = subst (λ (x : ShelfEvent). ProvesSealed x.0) (sym same) (step-proves first d.0 d.1 next step)
run-proves first last (d ∷ calls) (next, step, run) e (inr among) = run-proves next last calls run e among

-- ---- what the pass gained stands in what it has seen

adds-stand : {C R : Type 0} (old new : Account C R) (calls : List (C × R)) → Adds old new calls → IsAccount new → Embeds calls new.seen
adds-stand {C} {R} old new calls adds own =
    embeds new.seen adds.places calls (rise-later old.mine adds.places (subst Rising adds.mine (rise new.mine own.rising))) adds.are

-- ---- one reply, at the end

-- a happening that is no reply, and one that stands behind the calls
abbrev IsSilent : Happening → Type 0
IsSilent (on_shelf s part call answer) = Unit {0}
IsSilent (on_book s call answer) = Unit {0}
IsSilent (gets s url page) = Unit {0}
IsSilent (tests s pair good) = Unit {0}
IsSilent (replies s anchor moment chain) = ⊥

abbrev IsBehind : Happening → Type 0
IsBehind (on_shelf s part call answer) = ⊥
IsBehind (on_book s call answer) = ⊥
IsBehind (gets s url page) = Unit {0}
IsBehind (tests s pair good) = Unit {0}
IsBehind (replies s anchor moment chain) = ⊥

call-silent : (h : Happening) → IsCall h → IsSilent h
call-silent (on_shelf s part call answer) is = tt
call-silent (on_book s call answer) is = tt
call-silent (gets s url page) is = tt
call-silent (tests s pair good) is = tt
call-silent (replies s anchor moment chain) is = is

behind-silent : (h : Happening) → IsBehind h → IsSilent h
behind-silent (on_shelf s part call answer) is = tt
behind-silent (on_book s call answer) is = tt
behind-silent (gets s url page) is = tt
behind-silent (tests s pair good) is = tt
behind-silent (replies s anchor moment chain) is = is

no-end : (before : List Happening) (h : Happening) (after : List Happening) → [] ≡ before ++ h ∷ after → ⊥
no-end [] h after is = cc is
no-end (b ∷ before) h after is = cc is

one-reply : (body : List Happening) → ((h : Happening) → Among h body → IsSilent h) → (last : Happening) (before : List Happening) (session : ℕ) (anchor : Identifier) (moment : ℕ) (chain : Texts) (after : List Happening)
    → body ++ last ∷ [] ≡ before ++ replies session anchor moment chain ∷ after → (body ≡ before) × (last ≡ replies session anchor moment chain)
one-reply [] silent last [] session anchor moment chain after is = (refl, cc is)
one-reply [] silent last (b ∷ before) session anchor moment chain after is =
    let rest : [] ≡ before ++ replies session anchor moment chain ∷ after = cc is in
    absurd (no-end before (replies session anchor moment chain) after rest)
one-reply (x ∷ body) silent last [] session anchor moment chain after is =
    let head : x ≡ replies session anchor moment chain = cc is in
    absurd (subst IsSilent head (silent x (inl refl)))
one-reply (x ∷ body) silent last (b ∷ before) session anchor moment chain after is =
    let head : x ≡ b = cc is in
    let tail : body ++ last ∷ [] ≡ before ++ replies session anchor moment chain ∷ after = cc is in
    let rest = one-reply body (λ h among. silent h (inr among)) last before session anchor moment chain after tail in
    (ap₂ (λ y l. y ∷ l) head rest.0, rest.1)

-- what a reply asks of what was before it
abbrev MayBe : List Happening → Happening → Type 0
MayBe before (on_shelf s part call answer) = Unit {0}
MayBe before (on_book s call answer) = Unit {0}
MayBe before (gets s url page) = Unit {0}
MayBe before (tests s pair good) = Unit {0}
MayBe before (replies s anchor moment chain) = MayReply before s anchor moment chain

-- ---- calls are no pages, tests or replies

call-no-fetch : (h : Happening) → IsCall h → fetch_by 0 h ≡ None
call-no-fetch (on_shelf s part call answer) is = refl
call-no-fetch (on_book s call answer) is = refl
call-no-fetch (gets s url page) is = absurd is
call-no-fetch (tests s pair good) is = absurd is
call-no-fetch (replies s anchor moment chain) is = absurd is

call-no-test : (h : Happening) → IsCall h → test_by 0 h ≡ None
call-no-test (on_shelf s part call answer) is = refl
call-no-test (on_book s call answer) is = refl
call-no-test (gets s url page) is = absurd is
call-no-test (tests s pair good) is = absurd is
call-no-test (replies s anchor moment chain) is = absurd is

call-no-reply : (h : Happening) → IsCall h → reply_by 0 h ≡ None
call-no-reply (on_shelf s part call answer) is = refl
call-no-reply (on_book s call answer) is = refl
call-no-reply (gets s url page) is = absurd is
call-no-reply (tests s pair good) is = absurd is
call-no-reply (replies s anchor moment chain) is = absurd is

-- the session's own calls are on their parts
abbrev Own : Happening → Type 0
Own (on_shelf zero part call answer) = IsOnItsPart part call
Own (on_shelf (suc s) part call answer) = Unit {0}
Own (on_book s call answer) = Unit {0}
Own (gets s url page) = Unit {0}
Own (tests s pair good) = Unit {0}
Own (replies s anchor moment chain) = Unit {0}

call-own : (h : Happening) → IsCall h → Own h
call-own (on_shelf zero part call answer) is = is
call-own (on_shelf (suc s) part call answer) is = tt
call-own (on_book s call answer) is = tt
call-own (gets s url page) is = tt
call-own (tests s pair good) is = tt
call-own (replies s anchor moment chain) is = tt

behind-own : (h : Happening) → IsBehind h → Own h
behind-own (on_shelf s part call answer) is = absurd is
behind-own (on_book s call answer) is = tt
behind-own (gets s url page) is = tt
behind-own (tests s pair good) is = tt
behind-own (replies s anchor moment chain) is = tt

other : (s : ℕ) → nat_eq (suc s) 0 ≡ false
other s = by-bool (nat_eq (suc s) 0) (λ same. let is : suc s ≡ 0 = eqb-true (suc s) 0 same in absurd (omega (arith, is))) (λ apart. apart)

-- the event of an own call
from-event : (h : Happening) (call : ShelfCall) (answer : ShelfReply) → event_by 0 h ≡ Some (Shelf call answer) → (part : ℕ) × (h ≡ on_shelf 0 part call answer)
from-event (on_shelf zero part c a) call answer is = (part, cc is)
from-event (on_shelf (suc s) part c a) call answer is = none-there (Shelf call answer) (subst (λ b. cond b (Some (Shelf c a)) None ≡ Some (Shelf call answer)) (other s) is)
from-event (on_book zero c a) call answer is = absurd (cc is)
from-event (on_book (suc s) c a) call answer is = none-there (Shelf call answer) (subst (λ b. cond b (Some (Book c a)) None ≡ Some (Shelf call answer)) (other s) is)
from-event (gets s url page) call answer is = none-there (Shelf call answer) is
from-event (tests s pair good) call answer is = none-there (Shelf call answer) is
from-event (replies s anchor moment chain) call answer is = none-there (Shelf call answer) is

-- ---- four stretches, of which one counts

module _ {X : Type 0} (a b c d : List X) where
  only-first : (xs : List X) → a ≡ xs → b ≡ [] → c ≡ [] → d ≡ [] → (a ++ (b ++ c)) ++ d ≡ xs
  only-first xs first second third fourth =
      ap₂ (λ l m. l ++ m) (ap₂ (λ l m. l ++ m) first (ap₂ (λ l m. l ++ m) second third)) fourth ∙ append-nil (xs ++ []) ∙ append-nil xs

  only-second : (xs : List X) → a ≡ [] → b ≡ xs → c ≡ [] → d ≡ [] → (a ++ (b ++ c)) ++ d ≡ xs
  only-second xs first second third fourth =
      ap₂ (λ l m. l ++ m) (ap₂ (λ l m. l ++ m) first (ap₂ (λ l m. l ++ m) second third)) fourth ∙ append-nil (xs ++ []) ∙ append-nil xs

  only-third : (xs : List X) → a ≡ [] → b ≡ [] → c ≡ xs → d ≡ [] → (a ++ (b ++ c)) ++ d ≡ xs
  only-third xs first second third fourth = ap₂ (λ l m. l ++ m) (ap₂ (λ l m. l ++ m) first (ap₂ (λ l m. l ++ m) second third)) fourth ∙ append-nil xs

  only-fourth : (xs : List X) → a ≡ [] → b ≡ [] → c ≡ [] → d ≡ xs → (a ++ (b ++ c)) ++ d ≡ xs
  only-fourth xs first second third fourth = ap₂ (λ l m. l ++ m) (ap₂ (λ l m. l ++ m) first (ap₂ (λ l m. l ++ m) second third)) fourth

abbrev say : Replied → Happening
say r = replies 0 r.anchor r.moment r.chain

module _ (anchors : List AnchorKeys) (differ : AllPairs (λ (a b : AnchorKeys). a.anchor ≢ b.anchor) anchors) (new : CommonsKnown) (history : IsHistory ShelfStep [] BookStep (opened_with anchors) new) where
  abbrev seen_on : ℕ → List ShelfEvent
  seen_on p = (new.part p).seen

  -- ---- the calls of a trace, with those that were seen

  woven-read : (call : BookCall) (answer : BookReply) (work : List Event) → ((event : Event) → Among event work → IsWork event)
      → ((p : ℕ) → p < 8 → Embeds (calls_of (on_part p) work) (seen_on p)) → Embeds ((call, answer) ∷ calls_of book_told work) new.book.seen
      → (front : List BookEvent) × (later : List Happening) × Weaves seen_on new.book.seen (Book call answer ∷ work) (others_at_book front ++ on_book 0 call answer ∷ later)
      × (filter_map (event_by 0) later ≡ work)
  woven-read call answer work works parts there =
      let w = weave work seen_on there.1 works parts in (
        there.0,
        w.0,
        subst (λ b. Weaves seen_on b (Book call answer ∷ work) (others_at_book there.0 ++ on_book 0 call answer ∷ w.0)) (sym there.2)
            (woven-book call answer work seen_on there.0 there.1 w.0 w.1),
        w.1.own,
      )

  woven-begun : (here : Situation) (trace : Trace) (events : List Event) → BeginsSo here trace events → ((p : ℕ) → p < 8 → Embeds (calls_of (on_part p) events) (seen_on p))
      → Embeds (calls_of book_told events) new.book.seen → Woven seen_on new.book.seen events
  woven-begun here trace [] begins parts there = woven-rest seen_on new.book.seen
  woven-begun here trace (Shelf call answer ∷ work) begins parts there = absurd begins
  woven-begun here trace (Book (Read anchor) answer ∷ work) begins parts there =
      let w = woven-read (Read anchor) answer work begins.2 parts there in (others_at_book w.0 ++ on_book 0 (Read anchor) answer ∷ w.1, w.2)
  woven-begun here trace (Book Epoch answer ∷ work) begins parts there = absurd begins
  woven-begun here trace (Book (Rotate anchor from keys) answer ∷ work) begins parts there = absurd begins

  module _ (trace : Trace) (checks : AreChecks trace) (laid : List Happening) (weaves : Weaves seen_on new.book.seen trace.events laid) where
    abbrev fetches : List Happening
    fetches = map (λ (f : Fetch). gets 0 f.url f.page) (filter_map fetch_in (asks_in trace.searches))

    abbrev tested : List Happening
    tested = map (λ (c : Check). tests 0 (pair_in c) c.good) trace.checks

    -- all but the reply
    abbrev body : List Happening
    body = laid ++ (fetches ++ tested)

    abbrev whole : List Replied → List Happening
    whole replied = body ++ map say replied

    is-behind : (h : Happening) → Among h (fetches ++ tested) → IsBehind h
    is-behind h among =
        ⊎_elim
        (λ front. let made = map-among (λ (f : Fetch). gets 0 f.url f.page) h (filter_map fetch_in (asks_in trace.searches)) front in subst IsBehind (sym made.2) tt)
        (λ back. let made = map-among (λ (c : Check). tests 0 (pair_in c) c.good) h trace.checks back in subst IsBehind (sym made.2) tt)
        (among-split h fetches tested among)

    silent : (h : Happening) → Among h body → IsSilent h
    silent h among =
        ⊎_elim
        (λ front. call-silent h (weaves.calls h front))
        (λ back. behind-silent h (is-behind h back))
        (among-split h laid (fetches ++ tested) among)

    parted : {Y : Type 0} (f : Happening → Option Y) (replied : List Replied)
        → filter_map f (whole replied) ≡ (filter_map f laid ++ (filter_map f fetches ++ filter_map f tested)) ++ filter_map f (map say replied)
    parted {Y} f replied =
        filter_map-append f body (map say replied)
        ∙ ap (λ l. l ++ filter_map f (map say replied)) (filter_map-append f laid (fetches ++ tested) ∙ ap (λ l. filter_map f laid ++ l) (filter_map-append f fetches tested))

    module _ (replied : List Replied) where
      of_parts : (p : ℕ) (calls : List ShelfEvent) → shelf_calls p laid ≡ calls → shelf_calls p (whole replied) ≡ calls
      of_parts p calls is =
          parted (shelf_call p) replied
          ∙ only-first (filter_map (shelf_call p) laid) (filter_map (shelf_call p) fetches) (filter_map (shelf_call p) tested) (filter_map (shelf_call p) (map say replied)) calls is
          (keeps-no-map (shelf_call p) (λ (f : Fetch). gets 0 f.url f.page) (λ f. refl) (filter_map fetch_in (asks_in trace.searches)))
          (keeps-no-map (shelf_call p) (λ (c : Check). tests 0 (pair_in c) c.good) (λ c. refl) trace.checks)
          (keeps-no-map (shelf_call p) say (λ r. refl) replied)

      of_book : book_calls (whole replied) ≡ new.book.seen
      of_book =
          parted book_call replied
          ∙ only-first (filter_map book_call laid) (filter_map book_call fetches) (filter_map book_call tested) (filter_map book_call (map say replied)) new.book.seen weaves.at_book
          (keeps-no-map book_call (λ (f : Fetch). gets 0 f.url f.page) (λ f. refl) (filter_map fetch_in (asks_in trace.searches)))
          (keeps-no-map book_call (λ (c : Check). tests 0 (pair_in c) c.good) (λ c. refl) trace.checks)
          (keeps-no-map book_call say (λ r. refl) replied)

      of_events : filter_map (event_by 0) (whole replied) ≡ trace.events
      of_events =
          parted (event_by 0) replied
          ∙ only-first (filter_map (event_by 0) laid) (filter_map (event_by 0) fetches) (filter_map (event_by 0) tested) (filter_map (event_by 0) (map say replied)) trace.events weaves.own
          (keeps-no-map (event_by 0) (λ (f : Fetch). gets 0 f.url f.page) (λ f. refl) (filter_map fetch_in (asks_in trace.searches)))
          (keeps-no-map (event_by 0) (λ (c : Check). tests 0 (pair_in c) c.good) (λ c. refl) trace.checks)
          (keeps-no-map (event_by 0) say (λ r. refl) replied)

      of_fetches : filter_map (fetch_by 0) (whole replied) ≡ filter_map fetch_in (asks_in trace.searches)
      of_fetches =
          parted (fetch_by 0) replied
          ∙ only-second (filter_map (fetch_by 0) laid) (filter_map (fetch_by 0) fetches) (filter_map (fetch_by 0) tested) (filter_map (fetch_by 0) (map say replied))
          (filter_map fetch_in (asks_in trace.searches))
          (keeps-none (fetch_by 0) laid (λ h among. call-no-fetch h (weaves.calls h among)))
          (keeps-all (fetch_by 0) (λ (f : Fetch). gets 0 f.url f.page) (λ f. refl) (filter_map fetch_in (asks_in trace.searches)))
          (keeps-no-map (fetch_by 0) (λ (c : Check). tests 0 (pair_in c) c.good) (λ c. refl) trace.checks)
          (keeps-no-map (fetch_by 0) say (λ r. refl) replied)

      of_tests : filter_map (test_by 0) (whole replied) ≡ map test_in trace.checks
      of_tests =
          parted (test_by 0) replied
          ∙ only-third (filter_map (test_by 0) laid) (filter_map (test_by 0) fetches) (filter_map (test_by 0) tested) (filter_map (test_by 0) (map say replied)) (map test_in trace.checks)
          (keeps-none (test_by 0) laid (λ h among. call-no-test h (weaves.calls h among)))
          (keeps-no-map (test_by 0) (λ (f : Fetch). gets 0 f.url f.page) (λ f. refl) (filter_map fetch_in (asks_in trace.searches)))
          (keeps-map (test_by 0) (λ (c : Check). tests 0 (pair_in c) c.good) test_in (λ c. refl) trace.checks)
          (keeps-no-map (test_by 0) say (λ r. refl) replied)

      of_replies : filter_map (reply_by 0) (whole replied) ≡ replied
      of_replies =
          parted (reply_by 0) replied
          ∙ only-fourth (filter_map (reply_by 0) laid) (filter_map (reply_by 0) fetches) (filter_map (reply_by 0) tested) (filter_map (reply_by 0) (map say replied)) replied
          (keeps-none (reply_by 0) laid (λ h among. call-no-reply h (weaves.calls h among)))
          (keeps-no-map (reply_by 0) (λ (f : Fetch). gets 0 f.url f.page) (λ f. refl) (filter_map fetch_in (asks_in trace.searches)))
          (keeps-no-map (reply_by 0) (λ (c : Check). tests 0 (pair_in c) c.good) (λ c. refl) trace.checks)
          (keeps-all (reply_by 0) say (λ r. refl) replied)

      is-own : (h : Happening) → Among h (whole replied) → Own h
      is-own h among =
          ⊎_elim
          (λ front. ⊎_elim (λ call. call-own h (weaves.calls h call)) (λ behind. behind-own h (is-behind h behind)) (among-split h laid (fetches ++ tested) front))
          (λ said. let made = map-among say h replied said in subst Own (sym made.2) tt)
          (among-split h body (map say replied) among)

      does : Does 0 (whole replied) trace
      does = record {
        events = of_events;
        parts = λ part call answer among. is-own (on_shelf 0 part call answer) among;
        fetches = of_fetches;
        tests = of_tests;
      }

      honest-call : (h : Happening) → Among h laid → IsHonest h
      honest-call (on_shelf s p call answer) among =
          let there : Among (call, answer) (shelf_calls p laid) = among-filter_map (shelf_call p) (on_shelf s p call answer) (call, answer) (call-there s p (call, answer)) laid among in
          ⊎_elim
          (λ less. let legal = history.parts_legal p less in
          run-proves [] legal.0 (seen_on p) legal.1 (call, answer) (subst (Among (call, answer)) (weaves.on_parts p less) there))
          (λ past. absurd (subst (Among (call, answer)) (weaves.beyond p past) there))
          (below-or 8 p)
      honest-call (on_book s call answer) among = tt
      honest-call (gets s url page) among = tt
      honest-call (tests s pair good) among = absurd (weaves.calls (tests s pair good) among)
      honest-call (replies s anchor moment chain) among = tt

      honest-behind : (h : Happening) → Among h (fetches ++ tested) → IsHonest h
      honest-behind h among =
          ⊎_elim
          (λ front. let made = map-among (λ (f : Fetch). gets 0 f.url f.page) h (filter_map fetch_in (asks_in trace.searches)) front in subst IsHonest (sym made.2) tt)
          (λ back. let made = map-among (λ (c : Check). tests 0 (pair_in c) c.good) h trace.checks back in subst IsHonest (sym made.2) (checks.each made.0 made.1).answer)
          (among-split h fetches tested among)

      honest : (h : Happening) → Among h (whole replied) → IsHonest h
      honest h among =
          ⊎_elim
          (λ front. ⊎_elim (λ call. honest-call h call) (λ behind. honest-behind h behind) (among-split h laid (fetches ++ tested) front))
          (λ said. let made = map-among say h replied said in subst IsHonest (sym made.2) tt)
          (among-split h body (map say replied) among)

      is-world : ((before : List Happening) (session : ℕ) (anchor : Identifier) (moment : ℕ) (chain : Texts) (after : List Happening)
          → whole replied ≡ before ++ replies session anchor moment chain ∷ after → MayReply before session anchor moment chain) → IsWorld anchors (whole replied)
      is-world allowed = record {
        differ = differ;
        shelf = λ p. ⊎_elim
            (λ less. let legal = history.parts_legal p less in (legal.0, subst (λ calls. Runs ShelfStep [] calls legal.0) (sym (of_parts p (seen_on p) (weaves.on_parts p less))) legal.1))
            (λ past. ([], subst (λ calls. Runs ShelfStep [] calls []) (sym (of_parts p [] (weaves.beyond p past))) refl))
            (below-or 8 p);
        book_history = (history.book_legal.0, subst (λ calls. Runs BookStep (opened_with anchors) calls history.book_legal.0) (sym of_book) history.book_legal.1);
        honest = honest;
        reply_allowed = allowed;
      }

    -- no reply
    none-allowed : (before : List Happening) (session : ℕ) (anchor : Identifier) (moment : ℕ) (chain : Texts) (after : List Happening)
        → whole [] ≡ before ++ replies session anchor moment chain ∷ after → MayReply before session anchor moment chain
    none-allowed before session anchor moment chain after is =
        let h : Happening = replies session anchor moment chain in
        let there : Among h (whole []) = subst (Among h) (sym is) (among-right h before (h ∷ after) (inl refl)) in
        absurd (⊎_elim (λ front. silent h front) (λ none. none) (among-split h body [] there))

    -- one reply
    one-allowed : (r : Replied) → MayReply body 0 r.anchor r.moment r.chain
        → (before : List Happening) (session : ℕ) (anchor : Identifier) (moment : ℕ) (chain : Texts) (after : List Happening)
        → whole (r ∷ []) ≡ before ++ replies session anchor moment chain ∷ after → MayReply before session anchor moment chain
    one-allowed r may before session anchor moment chain after is =
        let one = one-reply body silent (say r) before session anchor moment chain after is in
        subst (λ b. MayBe b (replies session anchor moment chain)) one.0 (subst (MayBe body) one.1 may)

    -- a Look of the trace was made on the part of its URL
    look-made : (url : List ℕ) (moment : ℕ) (answer : ShelfReply) → Among (Shelf (Look url moment) answer) trace.events → Among (on_shelf 0 (part_of url) (Look url moment) answer) body
    look-made url moment answer among =
        let made = filter-among (event_by 0) (Shelf (Look url moment) answer) laid (subst (Among (Shelf (Look url moment) answer)) (sym weaves.own) among) in
        let call = from-event made.0 (Look url moment) answer made.2 in
        let there : Among (on_shelf 0 call.0 (Look url moment) answer) laid = subst (λ h. Among h laid) call.1 made.1 in
        let its : call.0 ≡ part_of url = weaves.calls (on_shelf 0 call.0 (Look url moment) answer) there in
        among-front (on_shelf 0 (part_of url) (Look url moment) answer) (subst (λ p. Among (on_shelf 0 p (Look url moment) answer) laid) its there)
      where
        among-front : (h : Happening) → Among h laid → Among h body
        among-front h there = among-left h laid (fetches ++ tested) there

    check-made : (check : Check) → Among check trace.checks → Among (tests 0 (pair_in check) check.good) body
    check-made check among =
        let h = tests 0 (pair_in check) check.good in
        among-right h laid (fetches ++ tested) (among-right h fetches tested (among-map (λ (c : Check). tests 0 (pair_in c) c.good) check trace.checks among))

-- ---- the keys of a call that replied

last-there : (leaf : List Course) (last : Course) → leaf ≡ [] → IsLast leaf last → ⊥
last-there leaf last none is = none-there last (subst (λ l. last_course l ≡ Some last) none is)

read-keys : (here : Situation) (answer : BookReply) (leaf others : List Course) (last : Course) (epoch : ℕ) (keys : List Jwk) → SearchesAfter here answer leaf others → IsLast leaf last
    → GaveKeys answer epoch keys → (e : ℕ) × (set : JwkSet) × (answer ≡ book.Keys e set) × (set.keys ≡ keys)
read-keys here (book.Keys e set) leaf others last epoch keys rounds is gave = (e, set, refl, sym gave.1)
read-keys here (book.At n) leaf others last epoch keys rounds is gave = absurd (last-there leaf last rounds.0 is)
read-keys here (book.Rotated n) leaf others last epoch keys rounds is gave = absurd (last-there leaf last rounds.0 is)
read-keys here (book.Behind n) leaf others last epoch keys rounds is gave = absurd (last-there leaf last rounds.0 is)
read-keys here book.NoAnchor leaf others last epoch keys rounds is gave = absurd (last-there leaf last rounds.0 is)
read-keys here book.Memory leaf others last epoch keys rounds is gave = absurd (last-there leaf last rounds.0 is)

-- ---- the world of a call

module _ (anchors : List AnchorKeys) (differ : AllPairs (λ (a b : AnchorKeys). a.anchor ≢ b.anchor) anchors) (here : Situation) (signer : Signer) (old new : CommonsKnown) (outcome : Outcome)
    (history : IsHistory ShelfStep [] BookStep (opened_with anchors) new) (gains : GainsEvents old new outcome.trace.events) where
  abbrev trace : Trace
  trace = outcome.trace

  abbrev seen : ℕ → List ShelfEvent
  seen p = (new.part p).seen

  parts-stand : (p : ℕ) → p < 8 → Embeds (calls_of (on_part p) trace.events) (seen p)
  parts-stand p less = adds-stand (old.part p) (new.part p) (calls_of (on_part p) trace.events) (gains.parts p) (history.parts_own p less)

  book-stands : Embeds (calls_of book_told trace.events) new.book.seen
  book-stands = adds-stand old.book new.book (calls_of book_told trace.events) gains.book history.book_own

  world-by : (checks : AreChecks trace) (laid : List Happening) (weaves : Weaves seen new.book.seen trace.events laid) (replied : List Replied) → RepliesBy here outcome.result replied
      → IsWorld anchors (whole anchors differ new history trace checks laid weaves replied) → HasWorld anchors here new outcome
  world-by checks laid weaves replied says world = (
    0,
    whole anchors differ new history trace checks laid weaves replied,
    record {
      world = world;
      does = does anchors differ new history trace checks laid weaves replied;
      replied = subst (RepliesBy here outcome.result) (sym (of_replies anchors differ new history trace checks laid weaves replied)) says;
      parts = λ p less. of_parts anchors differ new history trace checks laid weaves replied p (seen p) (weaves.on_parts p less);
      book = of_book anchors differ new history trace checks laid weaves replied;
    },
  )

  -- a call that was refused replied with no chain
  refused-world : (refusal : Refusal) → outcome.result ≡ Err refusal → ToldInPart here trace → HasWorld anchors here new outcome
  refused-world refusal is told =
      let woven = woven-begun anchors differ new history here trace trace.events told.begins parts-stand book-stands in
      world-by told.checks woven.0 woven.1 [] (subst (λ r. RepliesBy here r []) (sym is) refl)
      (is-world anchors differ new history trace told.checks woven.0 woven.1 [] (none-allowed anchors differ new history trace told.checks woven.0 woven.1))

  -- a call that replied did so with a chain that its session may reply with
  module _ (told : ToldWhole here trace) (reply : Reply) (last : LastReplies (asked_query here trace) here.request.types signer trace told.base.leaf told.base.others reply)
      (epoch : ℕ) (set : JwkSet) (answered : told.base.answer ≡ book.Keys epoch set) (same : set.keys ≡ trace.keys.keys) where
    begins : trace.events ≡ Book (Read here.request.anchor) (book.Keys epoch set) ∷ told.base.work
    begins = told.base.begins ∙ ap (λ a. Book (Read here.request.anchor) a ∷ told.base.work) answered

    read : (front : List BookEvent) × (later : List Happening)
        × Weaves seen new.book.seen (Book (Read here.request.anchor) (book.Keys epoch set) ∷ told.base.work) (others_at_book front ++ on_book 0 (Read here.request.anchor) (book.Keys epoch set) ∷ later)
        × (filter_map (event_by 0) later ≡ told.base.work)
    read = woven-read anchors differ new history (Read here.request.anchor) (book.Keys epoch set) told.base.work told.base.works
        (λ p less. subst (λ es. Embeds (calls_of (on_part p) es) (seen p)) begins (parts-stand p less))
        (subst (λ es. Embeds (calls_of book_told es) new.book.seen) begins book-stands)

    abbrev own_read : Happening
    own_read = on_book 0 (Read here.request.anchor) (book.Keys epoch set)

    abbrev laid_all : List Happening
    laid_all = others_at_book read.0 ++ own_read ∷ read.1

    weaves_all : Weaves seen new.book.seen trace.events laid_all
    weaves_all = subst (λ es. Weaves seen new.book.seen es laid_all) (sym begins) read.2

    abbrev behind_calls : List Happening
    behind_calls = fetches anchors differ new history trace told.base.checks laid_all weaves_all ++ tested anchors differ new history trace told.base.checks laid_all weaves_all

    abbrev before_reply : List Happening
    before_reply = body anchors differ new history trace told.base.checks laid_all weaves_all

    -- no Read comes behind the one
    no-read : (answer : BookReply) → ¬ Among (on_book 0 (Read here.request.anchor) answer) (read.1 ++ behind_calls)
    no-read answer among =
        let h : Happening = on_book 0 (Read here.request.anchor) answer in
        let event : Event = Book (Read here.request.anchor) answer in
        ⊎_elim
        (λ front. told.base.works event (subst (Among event) read.3 (among-filter_map (event_by 0) h event refl read.1 front)))
        (λ back. is-behind anchors differ new history trace told.base.checks laid_all weaves_all h back)
        (among-split h read.1 behind_calls among)

    abbrev last_read : LastRead before_reply 0 here.request.anchor
    last_read = record {
      earlier = others_at_book read.0;
      epoch = epoch;
      keys = set;
      later = read.1 ++ behind_calls;
      split = append_assoc (others_at_book read.0) (own_read ∷ read.1) behind_calls;
      last = no-read;
    }

    told_in : IsToldIn before_reply 0 here.request.anchor trace
    told_in = record {
      read = last_read;
      keys = same;
      looks = look-made anchors differ new history trace told.base.checks laid_all weaves_all;
      checks = check-made anchors differ new history trace told.base.checks laid_all weaves_all;
    }

    abbrev replied_so : Replied
    replied_so = record { anchor = here.request.anchor; moment = here.moment; chain = last.is_reply.chain }

    may : MayReply before_reply 0 here.request.anchor here.moment last.is_reply.chain
    may = may-reply before_reply 0 here.request.anchor trace told_in here.moment last.is_reply.chain last.is_reply.valid last.shown

    carries : chain_of reply.claims ≡ Some last.is_reply.chain
    carries = ap chain_of last.is_reply.says.claims ∙ chain-said signer.iss _

    replied-world : outcome.result ≡ Ok reply → HasWorld anchors here new outcome
    replied-world is =
        world-by told.base.checks laid_all weaves_all (replied_so ∷ [])
        (subst (λ r. RepliesBy here r (replied_so ∷ [])) (sym is) (last.is_reply.chain, carries, refl))
        (is-world anchors differ new history trace told.base.checks laid_all weaves_all (replied_so ∷ [])
        (one-allowed anchors differ new history trace told.base.checks laid_all weaves_all replied_so may))

  world-of-reply : (reply : Reply) → outcome.result ≡ Ok reply → IsWhole here signer outcome → HasWorld anchors here new outcome
  world-of-reply reply is whole =
      let last : LastReplies (asked_query here trace) here.request.types signer trace whole.told.base.leaf whole.told.base.others reply = subst (IsResult here signer trace whole.told) is whole.result in
      let keys = read-keys here whole.told.base.answer whole.told.base.leaf whole.told.base.others last.last trace.epoch trace.keys.keys whole.told.base.rounds last.is_last whole.told.base.keys in
      replied-world whole.told reply last keys.0 keys.1 keys.2 keys.3 is

  world-by-result : (result : Result Reply Refusal) → outcome.result ≡ result → Tells here signer outcome result → HasWorld anchors here new outcome
  world-by-result (Ok reply) is whole = world-of-reply reply is whole
  world-by-result (Err NoAnchor) is whole = refused-world NoAnchor is (whole-part here trace whole.told)
  world-by-result (Err NotFound) is whole = refused-world NotFound is (whole-part here trace whole.told)
  world-by-result (Err PolicyOnly) is whole = refused-world PolicyOnly is (whole-part here trace whole.told)
  world-by-result (Err NoChain) is whole = refused-world NoChain is (whole-part here trace whole.told)
  world-by-result (Err Unavailable) is whole = refused-world Unavailable is (whole-part here trace whole.told)
  world-by-result (Err (Budget calls paths)) is whole = refused-world (Budget calls paths) is (whole-part here trace whole.told)
  world-by-result (Err (Worn count)) is told = refused-world (Worn count) is told
  world-by-result (Err Memory) is told = refused-world Memory is told

-- each call has its world
pub has-world : (anchors : List AnchorKeys) → AllPairs (λ (a b : AnchorKeys). a.anchor ≢ b.anchor) anchors → (here : Situation) (signer : Signer) (old new : CommonsKnown) (outcome : Outcome)
    → IsHistory ShelfStep [] BookStep (opened_with anchors) new → Resolves here signer old new outcome → HasWorld anchors here new outcome
has-world anchors differ here signer old new outcome history resolves =
    world-by-result anchors differ here signer old new outcome history resolves.events outcome.result refl resolves.tells
