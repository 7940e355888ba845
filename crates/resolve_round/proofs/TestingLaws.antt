-- What a test leaves of a trace.
use Rattle.std.proofs.Common.{◌≡◌, ℕ, List, [], ◌∷◌, ◌++◌, length, map, Bool, true, false, refl, sym, ap, ◌∙◌, subst, inl, inr, ⊎_elim, append-nil, append_assoc, length-append}
use Rattle.std.proofs.lemmas.List.Elements.{filter_map-append}
use Rattle.jwk_set.specs.declared.jwk.Jwk.{Jwk}
use Rattle.chain_climb.specs.Elements.{Among}
use Rattle.chain_climb.proofs.Elements.{among-left, among-right}
use Rattle.fed_base.specs.Counts.{counted, next_count}
use Rattle.jws_form.specs.declared.compact.Compact.{Compact}
use Rattle.jws_form.specs.Compact.{IsCompact}
use Rattle.sealed.specs.Answers.{IsTested}
use Rattle.sealed.specs.declared.tested.Tested.{Tested}
use Rattle.sealed.specs.declared.tested.Tested.TheVariants.{Yes, No}
use Rattle.sealed.specs.Seals.{Pair, pair_of}
use Rattle.statement_shelf.specs.declared.calls.ShelfCall.TheVariants.{Look, Prove}
use Rattle.statement_shelf.specs.declared.calls.ShelfReply.{ShelfReply}
use Rattle.statement_shelf.specs.declared.calls.ShelfReply.TheVariants.{Hit}
use Rattle.resolve_round.specs.declared.trace.Check.{Check}
use Rattle.resolve_round.specs.declared.trace.Event.TheVariants.{Shelf}
use Rattle.resolve_round.specs.declared.trace.Search.{Search}
use Rattle.resolve_round.specs.declared.trace.Trace.{Trace}
use Rattle.resolve_round.specs.Knowing.{IsAnswer, IsKnownGood, with_search}
use Rattle.resolve_round.specs.Testing.{CountsChecks, KeepsKnown, MayTest, OnlyTests, StaysProved, StaysTrue, check_of, is_yes}
use Rattle.resolve_round.specs.Told.{IsCheck, IsTrueSoFar, ShownByHit}
use Rattle.resolve_round.specs.Traces.{look_in, looks_in, pair_in, put_in, puts_in}
use Rattle.resolve_round.proofs.LinkLaws.{counted-then}
use Rattle.resolve_round.proofs.TraceLaws.{bad-good, check-more, prove-more, tested-good, with_check, with_prove}

-- traces are equal where their parts are
pub same-trace : (a b : Trace) → a.moment ≡ b.moment → a.epoch ≡ b.epoch → a.keys ≡ b.keys → a.bounds ≡ b.bounds → a.searches ≡ b.searches → a.checks ≡ b.checks → a.events ≡ b.events → a ≡ b
same-trace a b moment epoch keys bounds searches checks events =
    let e : record { moment = a.moment; epoch = a.epoch; keys = a.keys; bounds = a.bounds; searches = a.searches; checks = a.checks; events = a.events }
    ≡ record { moment = b.moment; epoch = b.epoch; keys = b.keys; bounds = b.bounds; searches = b.searches; checks = b.checks; events = b.events } = cc in e

-- the answer of a test
pub tested-answer : (compact : Compact) (public : List ℕ) (tested : Tested) → IsCompact compact.whole compact → IsTested compact public tested → IsAnswer (pair_of compact.whole public) (is_yes tested)
tested-answer compact public (Yes seal) is told = record { compact = compact; splits = is; verifies = told.1 }
tested-answer compact public (No miss) is told = record { compact = compact; splits = is; fails = told.1 }

-- no test, and one
pub counts-none : (old new : List Check) (before now : ℕ) → new ≡ old → now ≡ before → CountsChecks old new before now
counts-none old new before now same count = record { more = []; are = same ∙ sym (append-nil old); counts = count }

pub counts-one : (old new : List Check) (check : Check) (before now : ℕ) → new ≡ old ++ check ∷ [] → now ≡ next_count before → CountsChecks old new before now
counts-one old new check before now is count = record { more = check ∷ []; are = is; counts = count }

-- no test after some
pub counts-then : (first mid last : List Check) (before between now : ℕ) → CountsChecks first mid before between → last ≡ mid → now ≡ between → CountsChecks first last before now
counts-then first mid last before between now counts same count = record { more = counts.more; are = same ∙ counts.are; counts = count ∙ counts.counts }

-- some tests, and then others
pub counts-sum : (first mid last : List Check) (before between now : ℕ) → CountsChecks first mid before between → CountsChecks mid last between now → CountsChecks first last before now
counts-sum first mid last before between now one two = record {
  more = one.more ++ two.more;
  are = two.are ∙ ap (λ l. l ++ two.more) one.are ∙ append_assoc first one.more two.more;
  counts =
      two.counts ∙ ap (counted (length two.more)) one.counts
      ∙ sym (counted-then (length one.more) (length two.more) (length (one.more ++ two.more)) before (length-append one.more two.more));
}

pub only-then : (first mid last : Trace) → OnlyTests first mid → OnlyTests mid last → OnlyTests first last
only-then first mid last one two = record {
  moment = two.moment ∙ one.moment;
  epoch = two.epoch ∙ one.epoch;
  keys = two.keys ∙ one.keys;
  bounds = two.bounds ∙ one.bounds;
  searches = two.searches ∙ one.searches;
  looks = two.looks ∙ one.looks;
  puts = two.puts ∙ one.puts;
}

module _ (old : Trace) (url : List ℕ) (pair : Pair) where
  -- nothing was added
  pub only-none : (new : Trace) → new ≡ old → OnlyTests old new
  only-none new same = subst (OnlyTests old) (sym same) (record { moment = refl; epoch = refl; keys = refl; bounds = refl; searches = refl; looks = refl; puts = refl })

  pub true-none : (new : Trace) → new ≡ old → StaysTrue url pair old new
  true-none new same = subst (StaysTrue url pair old) (sym same) (λ age search may holds. holds)

  pub proved-none : (new : Trace) → new ≡ old → StaysProved url pair old new
  proved-none new same = subst (StaysProved url pair old) (sym same) (λ search obtained good. good)

  pub known-none : (new : Trace) → new ≡ old → KeepsKnown old new
  known-none new same = subst (KeepsKnown old) (sym same) (λ p known. known)

  -- a check was added
  known_checked : (check : Check) → KeepsKnown old (with_check old check)
  known_checked check p known =
      ⊎_elim (λ tested. inl (tested.0, among-left tested.0 old.checks (check ∷ []) tested.1, tested.2, tested.3)) (λ shown. inr shown) known

  pub known-check : (new : Trace) (good : Bool) → new ≡ with_check old (check_of pair good) → KeepsKnown old new
  known-check new good same = subst (KeepsKnown old) (sym same) (known_checked (check_of pair good))

  is_check : (good : Bool) (searches : List Search) (keys : List Jwk) → MayTest searches keys url pair → IsAnswer pair good → IsCheck searches keys (check_of pair good)
  is_check good searches keys may answer = record { url = url; obtained = may.obtained; named = may.named; answer = answer }

  pub only-check : (new : Trace) (good : Bool) → new ≡ with_check old (check_of pair good) → OnlyTests old new
  only-check new good same = subst (OnlyTests old) (sym same) (record { moment = refl; epoch = refl; keys = refl; bounds = refl; searches = refl; looks = refl; puts = refl })

  pub true-check : (new : Trace) (good : Bool) → new ≡ with_check old (check_of pair good) → IsAnswer pair good → ¬ Among pair (map pair_in old.checks) → ¬ ShownByHit old.events pair → StaysTrue url pair old new
  true-check new good same answer fresh unshown =
      subst (StaysTrue url pair old) (sym same)
      (λ age search may holds.
      check-more age (with_search old search) (check_of pair good) holds (is_check good (with_search old search).searches old.keys.keys may answer) fresh unshown)

  pub proved-bad : (new : Trace) → new ≡ with_check old (check_of pair false) → StaysProved url pair old new
  proved-bad new same = subst (StaysProved url pair old) (sym same) (λ search obtained good. bad-good (with_search old search) (check_of pair false) refl good)

  -- a check and a Prove were added
  module _ (r : ShelfReply) where
    abbrev both : Trace
    both = with_prove (with_check old (check_of pair true)) url pair r

    pub only-both : (new : Trace) → new ≡ both → OnlyTests old new
    only-both new same =
        subst (OnlyTests old) (sym same)
        (record {
          moment = refl;
          epoch = refl;
          keys = refl;
          bounds = refl;
          searches = refl;
          looks = filter_map-append look_in old.events (Shelf (Prove url pair) r ∷ []) ∙ append-nil (looks_in old.events);
          puts = filter_map-append put_in old.events (Shelf (Prove url pair) r ∷ []) ∙ append-nil (puts_in old.events);
        })

    pub known-more : (new : Trace) → new ≡ both → KeepsKnown old new
    known-more new same =
        subst (KeepsKnown old) (sym same)
        (λ p known.
        ⊎_elim (λ tested. inl tested)
        (λ shown. inr (shown.0, shown.1, shown.2, among-left (Shelf (Look shown.0 shown.1) (Hit shown.2)) old.events (Shelf (Prove url pair) r ∷ []) shown.3, shown.4, shown.5))
        (known_checked (check_of pair true) p known))

    pub true-both : (new : Trace) → new ≡ both → IsAnswer pair true → ¬ Among pair (map pair_in old.checks) → ¬ ShownByHit old.events pair → StaysTrue url pair old new
    true-both new same answer fresh unshown =
        subst (StaysTrue url pair old) (sym same)
        (λ age search may holds.
        let tested : IsTrueSoFar age (with_check (with_search old search) (check_of pair true)) =
        check-more age (with_search old search) (check_of pair true) holds (is_check true (with_search old search).searches old.keys.keys may answer) fresh unshown in
        prove-more age (with_check (with_search old search) (check_of pair true)) url pair r tested
        (inl (check_of pair true, among-right (check_of pair true) old.checks (check_of pair true ∷ []) (inl refl), refl, refl)))

    pub proved-both : (new : Trace) → new ≡ both → StaysProved url pair old new
    proved-both new same =
        subst (StaysProved url pair old) (sym same)
        (λ search obtained good. tested-good (with_search old search) (check_of pair true) url r obtained good)

    pub known-both : (new : Trace) → new ≡ both → IsKnownGood new pair
    known-both new same =
        subst (λ t. IsKnownGood t pair) (sym same)
        (inl (check_of pair true, among-right (check_of pair true) old.checks (check_of pair true ∷ []) (inl refl), refl, refl))
