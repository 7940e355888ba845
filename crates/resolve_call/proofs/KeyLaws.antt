-- The keys that a call tells are those that its book was opened with.
use Rattle.std.proofs.Common.{◌≡◌, ◌⊎◌, ℕ, List, [], ◌∷◌, Option, Some, None, Result, Ok, Err, refl, sym, ap, ◌∙◌, subst, inl, inr, ⊎_elim}
use Rattle.std.specs.Prelude.{option_map}
use Rattle.jwk_set.specs.declared.jwk.Jwk.{Jwk}
use Rattle.jwk_set.specs.declared.set.JwkSet.{JwkSet}
use Rattle.turn_log.specs.Gains.{calls_of}
use Rattle.turn_log.specs.Runs.{IsLegal}
use Rattle.statement_shelf.specs.Book.{Book, BookStep, opened_with}
use Rattle.statement_shelf.specs.declared.calls.AnchorKeys.{AnchorKeys}
use Rattle.statement_shelf.specs.declared.calls.BookCall.TheVariants.{Read, Epoch, Rotate}
use Rattle.statement_shelf.specs.declared.calls.BookReply.{BookReply}
use Rattle.statement_shelf.specs.declared.calls.BookReply.TheVariants as book
use Rattle.resolve_reply.specs.declared.reply.Reply.{Reply}
use Rattle.resolve_reply.specs.declared.signer.Signer.{Signer}
use Rattle.resolve_round.specs.declared.trace.Event.{Event}
use Rattle.resolve_round.specs.declared.trace.Event.TheVariants as event
use Rattle.resolve_round.specs.declared.trace.Trace.{Trace}
use Rattle.resolve_round.specs.Courses.{Course}
use Rattle.resolve_round.specs.Rounds.{IsLast, last_course}
use Rattle.resolve_round.specs.Acts.{on_book}
use Rattle.fed_resolver.specs.declared.outcome.Outcome.{Outcome}
use Rattle.fed_resolver.specs.declared.outcome.Refusal.{Refusal}
use Rattle.fed_resolver.specs.declared.outcome.Refusal.TheVariants.{NoAnchor, NotFound, PolicyOnly, NoChain, Unavailable, Budget, Worn, Memory}
use Rattle.fed_resolver.specs.Outcomes.{IsResult, IsWhole, Tells}
use Rattle.fed_resolver.specs.Told.{BeginsSo, GaveKeys, GaveSome, SearchesAfter, Situation, ToldWhole}
use Rattle.node_files.specs.ResolvingParts.{booked_keys}
use Rattle.resolve_call.specs.Calls.{HasKeys}

module _ (anchors : List AnchorKeys) where
  -- the reading of a book that was just opened
  abbrev ReadsFirst : List ℕ → BookReply → Type 0
  ReadsFirst anchor answer = (next : Book) × BookStep (opened_with anchors) (Read anchor) answer next

  no-last : (leaf : List Course) (last : Course) → leaf ≡ [] → IsLast leaf last → ⊥
  no-last leaf last none is_last = let gone : None ≡ Some last = sym (ap last_course none) ∙ is_last in cc gone

  -- a round is made of a listed anchor alone
  listed : (here : Situation) (answer : BookReply) (leaf others : List Course) (last : Course) → SearchesAfter here answer leaf others → IsLast leaf last
      → (epoch : ℕ) (keys : List Jwk) → GaveKeys answer epoch keys → ReadsFirst here.request.anchor answer → booked_keys here.request.anchor anchors ≡ Some keys
  listed here (book.Keys e set) leaf others last rounds is_last epoch keys gave (next, step) = ap (option_map (λ (s : JwkSet). s.keys)) step.0 ∙ ap Some (sym gave.1)
  listed here (book.At e) leaf others last rounds is_last epoch keys gave first = absurd (no-last leaf last rounds.0 is_last)
  listed here (book.Rotated e) leaf others last rounds is_last epoch keys gave first = absurd (no-last leaf last rounds.0 is_last)
  listed here (book.Behind e) leaf others last rounds is_last epoch keys gave first = absurd (no-last leaf last rounds.0 is_last)
  listed here book.NoAnchor leaf others last rounds is_last epoch keys gave first = absurd (no-last leaf last rounds.0 is_last)
  listed here book.Memory leaf others last rounds is_last epoch keys gave first = absurd (no-last leaf last rounds.0 is_last)

  module _ (here : Situation) (signer : Signer) (trace : Trace) where
    abbrev booked : Option (List Jwk)
    booked = booked_keys here.request.anchor anchors

    -- ---- a call that is told whole

    module _ (told : ToldWhole here trace) (first : ReadsFirst here.request.anchor told.base.answer) where
      from-last : (last : Course) → IsLast told.base.leaf last → booked ≡ Some trace.keys.keys
      from-last last is_last =
          listed here told.base.answer told.base.leaf told.base.others last told.base.rounds is_last trace.epoch trace.keys.keys told.base.keys first

      unlisted : told.base.answer ≡ book.NoAnchor → booked ≡ None
      unlisted is =
          let step : BookStep (opened_with anchors) (Read here.request.anchor) book.NoAnchor first.0 =
          subst (λ a. BookStep (opened_with anchors) (Read here.request.anchor) a first.0) is first.1 in
          ap (option_map (λ (s : JwkSet). s.keys)) step.0

      whole-keys : (result : Result Reply Refusal) → IsResult here signer trace told result → HasKeys booked trace.keys.keys result
      whole-keys (Ok reply) is = from-last is.last is.is_last
      whole-keys (Err NoAnchor) is = unlisted is
      whole-keys (Err NotFound) is = from-last is.last is.is_last
      whole-keys (Err PolicyOnly) is = from-last is.last is.is_last
      whole-keys (Err NoChain) is = from-last is.last is.is_last
      whole-keys (Err Unavailable) is = from-last is.last is.is_last
      whole-keys (Err (Budget calls paths)) is = from-last is.last is.is_last
      whole-keys (Err (Worn count)) is = absurd is
      whole-keys (Err Memory) is = absurd is

    -- ---- a call that broke off

    some-keys : (answer : BookReply) → ReadsFirst here.request.anchor answer → GaveSome answer trace.epoch trace.keys.keys → (trace.keys.keys ≡ []) ⊎ (booked ≡ Some trace.keys.keys)
    some-keys (book.Keys e set) first gave = ⊎_elim (λ same. inr (ap (option_map (λ (s : JwkSet). s.keys)) first.1.0 ∙ ap Some (sym same))) inl gave.1
    some-keys (book.At e) first gave = inl gave.1
    some-keys (book.Rotated e) first gave = inl gave.1
    some-keys (book.Behind e) first gave = inl gave.1
    some-keys book.NoAnchor first gave = inl gave.1
    some-keys book.Memory first gave = inl gave.1

    part-keys : (events : List Event) → BeginsSo here trace events → IsLegal BookStep (opened_with anchors) (calls_of on_book events) → (trace.keys.keys ≡ []) ⊎ (booked ≡ Some trace.keys.keys)
    part-keys [] begins legal = inl begins.1
    part-keys (event.Book (Read anchor) answer ∷ work) begins legal =
        some-keys answer (legal.1.0, subst (λ a. BookStep (opened_with anchors) (Read a) answer legal.1.0) begins.0 legal.1.1) begins.1
    part-keys (event.Book Epoch answer ∷ work) begins legal = absurd begins
    part-keys (event.Book (Rotate anchor from keys) answer ∷ work) begins legal = absurd begins
    part-keys (event.Shelf call answer ∷ work) begins legal = absurd begins

  -- ---- any call

  module _ (here : Situation) (signer : Signer) (outcome : Outcome) (legal : IsLegal BookStep (opened_with anchors) (calls_of on_book outcome.trace.events)) where
    by-whole : IsWhole here signer outcome → HasKeys (booked_keys here.request.anchor anchors) outcome.trace.keys.keys outcome.result
    by-whole whole =
        let run : IsLegal BookStep (opened_with anchors) (calls_of on_book (event.Book (Read here.request.anchor) whole.told.base.answer ∷ whole.told.base.work)) =
        subst (λ events. IsLegal BookStep (opened_with anchors) (calls_of on_book events)) whole.told.base.begins legal in
        whole-keys here signer outcome.trace whole.told (run.1.0, run.1.1) outcome.result whole.result

    by-result : (result : Result Reply Refusal) → outcome.result ≡ result → Tells here signer outcome result → HasKeys (booked_keys here.request.anchor anchors) outcome.trace.keys.keys outcome.result
    by-result (Ok reply) same tells = by-whole tells
    by-result (Err NoAnchor) same tells = by-whole tells
    by-result (Err NotFound) same tells = by-whole tells
    by-result (Err PolicyOnly) same tells = by-whole tells
    by-result (Err NoChain) same tells = by-whole tells
    by-result (Err Unavailable) same tells = by-whole tells
    by-result (Err (Budget calls paths)) same tells = by-whole tells
    by-result (Err (Worn count)) same tells =
        subst (HasKeys (booked_keys here.request.anchor anchors) outcome.trace.keys.keys) (sym same) (part-keys here signer outcome.trace outcome.trace.events tells.begins legal)
    by-result (Err Memory) same tells =
        subst (HasKeys (booked_keys here.request.anchor anchors) outcome.trace.keys.keys) (sym same) (part-keys here signer outcome.trace outcome.trace.events tells.begins legal)

    pub has-keys : Tells here signer outcome outcome.result → HasKeys (booked_keys here.request.anchor anchors) outcome.trace.keys.keys outcome.result
    has-keys tells = by-result outcome.result refl tells
