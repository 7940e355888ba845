-- What the passes of a batch share, and that the one pass has all of each object again at its end.
use Rattle.std.proofs.Common.{◌≡◌, ◌<◌, ◌⊎◌, ℕ, List, [], ◌∷◌, ◌++◌, length, map, refl, sym, ap, ◌∙◌, subst, inl, inr, ⊎_elim}
use mathlib.Core.Logic.{dite}
use native.Mathlib.Decide.{ℕ_discrete}
use Rattle.std.proofs.lemmas.List.{map-append}
use Rattle.fed_base.specs.declared.ledger.Plain.{Plain}
use Rattle.http_plain.specs.declared.link.HttpLink.{HttpLink}
use Rattle.turn_log.specs.Groups.{AreHalved, IsHistory, IsUntaken}
use Rattle.turn_log.specs.Passes.{OwnsSeen, untaken, unused}
use Rattle.turn_log.specs.Places.{IsIn}
use Rattle.turn_log.specs.Runs.{Account, IsAccount}
use Rattle.turn_log.specs.Shares.{IsWhole, added, all_of, halved}
use Rattle.turn_log.specs.declared.view.Share.{Share}
use Rattle.turn_log.proofs.Owning.{below_has}
use Rattle.turn_log.proofs.Shares.{added_assoc, added_no_right, all_and_one, halves_whole}
use Rattle.statement_shelf.specs.Book.{Book, BookStep}
use Rattle.statement_shelf.specs.Passes.{CommonsKnown}
use Rattle.statement_shelf.specs.Shelf.{ShelfStep}
use Rattle.resolve_call.specs.Alone.{HasSeenNothing}
use Rattle.fed_serve.specs.declared.desk.Desk.{Desk}
use Rattle.fed_serve.specs.Desks.{AreServedAt, IsServedAt}
use Rattle.resolver_service.specs.Batches.{AreBatches, Batch, IsBatch, JoinedInTurn, Setup, Standing, at_desks, known_at}
use Rattle.resolver_service.specs.Passes.{AreHalves, AreShared, HaveHalves, OwnsObject, OwnsObjects, shares_on}
use Rattle.resolver_service.specs.Precedence.{AreMadeIn, IsMadeIn}
use Rattle.resolver_service.proofs.OrderLaws.{IsObject, book_object, part_object, purges, serves_adds}

-- ---- a pass that is split off

half_of : {X Q : Type 0} (old other : Account X Q) → other ≡ untaken old → other.share ≡ halved old.share
half_of {X} {Q} old other is = ap (λ (a : Account X Q). a.share) is

pub have_halves : (old one other : CommonsKnown) → AreHalved old one → IsUntaken old other → HaveHalves old one other
have_halves old one other half new = record {
  parts = λ p within. record { one_half = half.parts p within; other_half = half_of (old.part p) (other.part p) (new.parts p within) };
  book = record { one_half = half.book; other_half = half_of old.book other.book new.book };
}

-- the halves of one of these complete it
halves_of : (s one other : Share) (rest : List Share) → one ≡ halved s → other ≡ halved s → IsWhole (added s (all_of rest)) → IsWhole (added one (all_of (rest ++ other ∷ [])))
halves_of s one other rest is is' whole =
    subst (λ (h : Share). IsWhole (added h (all_of (rest ++ other ∷ [])))) (sym is)
    (subst (λ (h : Share). IsWhole (added (halved s) (all_of (rest ++ h ∷ [])))) (sym is')
    (subst (λ (a : Share). IsWhole (added (halved s) a)) (sym (all_and_one rest (halved s))) (halves_whole s (all_of rest) whole)))

module _ {X Q : Type 0} (on : CommonsKnown → Account X Q) where
  abbrev share_on : CommonsKnown → Share
  share_on known = (on known).share

  ends_in : (passes : List CommonsKnown) (other : CommonsKnown) → map share_on (passes ++ other ∷ []) ≡ map share_on passes ++ share_on other ∷ []
  ends_in passes other = map-append share_on passes (other ∷ [])

  more : (first one now other : CommonsKnown) (passes : List CommonsKnown) → AreHalves (on one) (on now) (on other) → (IsWhole (on first).share → IsWhole (shares_on on (one ∷ passes)))
      → IsWhole (on first).share → IsWhole (shares_on on (now ∷ (passes ++ other ∷ [])))
  more first one now other passes half shared whole =
      subst (λ (l : List Share). IsWhole (added (share_on now) (all_of l))) (sym (ends_in passes other))
      (halves_of (share_on one) (share_on now) (share_on other) (map share_on passes) half.one_half half.other_half (shared whole))

-- no pass was split off
alone_whole : (s : Share) → IsWhole s → IsWhole (added s (all_of []))
alone_whole s whole = subst IsWhole (sym (added_no_right s)) whole

module _ {P L C G : Type 0} where
  pub shared_none : (one : CommonsKnown) (desks : List (Desk P L C G)) → desks ≡ [] → AreShared one (one ∷ map known_at desks)
  shared_none one desks none = subst (λ (ds : List (Desk P L C G)). AreShared one (one ∷ map known_at ds)) (sym none) (record {
    parts = λ p within whole. alone_whole (one.part p).share whole;
    book = λ whole. alone_whole one.book.share whole;
  })

  pub shared_more : (first one now : CommonsKnown) (desks all : List (Desk P L C G)) (desk : Desk P L C G) → all ≡ desks ++ desk ∷ [] → AreShared first (one ∷ map known_at desks)
      → HaveHalves one now (known_at desk) → AreShared first (now ∷ map known_at all)
  shared_more first one now desks all desk is shared half =
      subst (λ (l : List CommonsKnown). AreShared first (now ∷ l)) (sym (ap (map known_at) is ∙ map-append known_at desks (desk ∷ []))) (record {
        parts = λ p within. more (λ known. known.part p) first one now (known_at desk) (map known_at desks) (half.parts p within) (shared.parts p within);
        book = more (λ known. known.book) first one now (known_at desk) (map known_at desks) half.book shared.book;
      })

-- ---- a batch

module _ {P N C X Q : Type 0} (s : Setup P N C) (on : CommonsKnown → Account X Q) (object : IsObject on) where
  -- who is served at a desk leaves its share
  same_shares : (peers : List P) (old new : List (Desk P (HttpLink N) C Plain)) → AreServedAt (IsServedAt (at_desks s.views) s.node) peers old new
      → map (share_on on) (map known_at new) ≡ map (share_on on) (map known_at old)
  same_shares [] old new same = ap (λ (ds : List (Desk P (HttpLink N) C Plain)). map (share_on on) (map known_at ds)) same
  same_shares (p ∷ peers) [] new served = absurd served
  same_shares (p ∷ peers) (d ∷ old) [] served = absurd served
  same_shares (p ∷ peers) (d ∷ old) (e ∷ new) served =
      let adds = object.added (known_at d) (known_at e) (serves_adds s.node _ _ _ served.0.told served.0.serves) in
      let rest = same_shares peers old new served.1 in
      λ i. adds.1.share i ∷ rest i

  -- the joined pass has what all had
  joined_whole : (desks : List (Desk P (HttpLink N) C Plain)) (first now : CommonsKnown) → JoinedInTurn first (map known_at desks) now → IsWhole (shares_on on (first ∷ map known_at desks)) → IsWhole (on now).share
  joined_whole [] first now same whole =
      subst (λ (k : CommonsKnown). IsWhole (on k).share) (sym same) (subst IsWhole (added_no_right (on first).share) whole)
  joined_whole (d ∷ desks) first now (next, joined, more) whole =
      let share = (object.joined first (known_at d) next joined).share in
      let rest = all_of (map (share_on on) (map known_at desks)) in
      joined_whole desks next now more
      (subst (λ (a : Share). IsWhole (added a rest)) (sym share) (subst IsWhole (sym (added_assoc (on first).share (on (known_at d)).share rest)) whole))

  batch_whole : (b : Batch P N C) → IsBatch s b → (shared : (is : IsBatch s b) → IsWhole (on is.purged).share → IsWhole (shares_on on (is.split ∷ map known_at b.desks)))
      → IsWhole (on b.before.progress.known).share → IsWhole (on b.now.progress.known).share
  batch_whole b is shared whole =
      let purge = object.added b.before.progress.known is.purged (purges b.now.clock.last is.dropped b.before.progress.known is.purged is.purge) in
      let all = shared is (subst IsWhole (sym purge.1.share) whole) in
      joined_whole is.serves.served is.split b.now.progress.known is.serves.ended.joined
      (subst (λ (l : List Share). IsWhole (added (on is.split).share (all_of l))) (sym (same_shares is.serves.peers b.desks is.serves.served is.serves.each)) all)

  batches_whole : (shared : (b : Batch P N C) (is : IsBatch s b) → IsWhole (on is.purged).share → IsWhole (shares_on on (is.split ∷ map known_at b.desks))) (before : Standing P) (batches : List (Batch P N C)) (now : Standing P)
      → AreBatches s before batches now → IsWhole (on before.progress.known).share → IsWhole (on now.progress.known).share
  batches_whole shared before [] now same whole = subst (λ (x : Standing P). IsWhole (on x.progress.known).share) (sym same) whole
  batches_whole shared before (b ∷ batches) now (from, is, more) whole =
      batches_whole shared b.now batches now more
      (batch_whole b is (shared b) (subst (λ (x : Standing P). IsWhole (on x.progress.known).share) (sym from) whole))

-- ---- the service

first_whole : {X Q : Type 0} (a : Account X Q) → a ≡ unused → IsWhole a.share
first_whole {X} {Q} a is = subst (λ (b : Account X Q). IsWhole b.share) (sym is) refl

owns_object : {X Q : Type 0} (a : Account X Q) → IsAccount a → IsWhole a.share → OwnsObject a
owns_object {X} {Q} a is whole = record { whole = whole; own = is.covered whole }

-- from a pass that had seen nothing and had all: it has all again, and each call that is seen at last is its own
pub owns_all : {P N C : Type 0} (s : Setup P N C) (before : Standing P) (batches : List (Batch P N C)) (now : Standing P) (book : Book) → HasSeenNothing before.progress.known → AreBatches s before batches now
    → IsHistory ShelfStep [] BookStep book now.progress.known → OwnsObjects now.progress.known
owns_all {P} {N} {C} s before batches now book unseen are history = record {
  parts = λ p within.
      owns_object (now.progress.known.part p) (history.parts_own p within)
      (batches_whole s (λ known. known.part p) (part_object p within) (λ b is. is.shared.parts p within) before batches now are (first_whole (before.progress.known.part p) (unseen.parts p)));
  book =
      owns_object now.progress.known.book history.book_own
      (batches_whole s (λ known. known.book) book_object (λ b is. is.shared.book) before batches now are (first_whole before.progress.known.book unseen.book));
}

-- ---- where each call was made

is_in_or_not : (p : ℕ) (xs : List ℕ) → IsIn p xs ⊎ (IsIn p xs → ⊥)
is_in_or_not p [] = inr (λ h. h)
is_in_or_not p (x ∷ xs) =
    dite (ℕ_discrete p x)
    (λ e. inl (inl e))
    (λ apart. ⊎_elim (λ t. inl (inr t)) (λ n. inr (λ h. ⊎_elim (λ e. apart e) (λ t. n t) h)) (is_in_or_not p xs))

module _ {P N C X Q : Type 0} (s : Setup P N C) (on : CommonsKnown → Account X Q) (place : ℕ) where
  made_in : (before : Standing P) (batches : List (Batch P N C)) (now : Standing P) → AreBatches s before batches now → IsIn place (on now.progress.known).mine → (IsIn place (on before.progress.known).mine → ⊥)
      → IsMadeIn batches on place
  made_in before [] now same own none = absurd (none (subst (λ (x : Standing P). IsIn place (on x.progress.known).mine) same own))
  made_in before (b ∷ batches) now (from, is, more) own none =
      ⊎_elim
      (λ here. record { batch = b; among = inl refl; made = (here, λ old. none (subst (λ (x : Standing P). IsIn place (on x.progress.known).mine) from old)) })
      (λ absent. let rest = made_in b.now batches now more own absent in record { batch = rest.batch; among = inr rest.among; made = rest.made })
      (is_in_or_not place (on b.now.progress.known).mine)

  owned_in : (before : Standing P) (batches : List (Batch P N C)) (now : Standing P) → AreBatches s before batches now → on before.progress.known ≡ unused → OwnsSeen (on now.progress.known)
      → place < length (on now.progress.known).seen → IsMadeIn batches on place
  owned_in before batches now are fresh owned less =
      made_in before batches now are
      (subst (IsIn place) (sym owned) (below_has (length (on now.progress.known).seen) place less))
      (λ h. subst (λ (a : Account X Q). IsIn place a.mine) fresh h)

pub made_all : {P N C : Type 0} (s : Setup P N C) (before : Standing P) (batches : List (Batch P N C)) (now : Standing P) → HasSeenNothing before.progress.known → AreBatches s before batches now → OwnsObjects now.progress.known
    → AreMadeIn batches now.progress.known
made_all {P} {N} {C} s before batches now unseen are owned = record {
  parts = λ p within place. owned_in s (λ known. known.part p) place before batches now are (unseen.parts p) (owned.parts p within).own;
  book = λ place. owned_in s (λ known. known.book) place before batches now are unseen.book owned.book.own;
}
