-- Entries that are dropped from the back of a part.
use Rattle.std.proofs.Common.{◌≡◌, ◌≤◌, ◌<◌, ◌-◌, ℕ, zero, suc, true, false, List, [], ◌∷◌, ◌++◌, length, take, Option, Some, None, refl, sym, ap, ◌∙◌, subst, arith, append-nil, length-append}
use Rattle.std.specs.Prelude.{All, IfSome, slice_get}
use Rattle.std.proofs.lemmas.Bool.{leb-false, leb-true}
use Rattle.std.proofs.lemmas.List.{append_assoc}
use Rattle.std.proofs.lemmas.List.Elements.{All-cons, All-nil}
use Rattle.statement_shelf.specs.Entries.{Entry, Part, has_ended, max_entries}
use Rattle.statement_shelf.specs.Shelf.{IsPurged}
use Rattle.statement_shelf.proofs.KeyLaws.{short}

-- entries were taken from the back, all of which had ended
pub record Purging (old : Part) (moment : ℕ) (now : Part) : Type 0 where
  pub gone : Part
  pub split : old ≡ now ++ gone
  pub ended : All (λ p. p.1.until ≤ moment) gone

split_last : {X : Type 0} (xs : List X) (n : ℕ) (x : X) → length xs ≡ suc n → slice_get xs n ≡ Some x → xs ≡ take n xs ++ x ∷ []
split_last [] n x long h = absurd (omega (arith, long))
split_last (y ∷ []) zero x long h = let same : y ≡ x = cc in ap (λ z. z ∷ []) same
split_last (y ∷ []) (suc n) x long h = absurd (omega (arith, long))
split_last (y ∷ z ∷ xs) zero x long h = absurd (omega (arith, long))
split_last (y ∷ z ∷ xs) (suc n) x long h = ap (λ l. y ∷ l) (split_last (z ∷ xs) n x (omega (arith, long)) h)

pub purge-begins : (old : Part) (moment : ℕ) → Purging old moment old
purge-begins old moment = record { gone = []; split = sym (append-nil old); ended = All-nil (λ p. p.1.until ≤ moment) }

one_more : (old now new : Part) (moment : ℕ) (last : Option (List ℕ × Entry)) → Purging old moment now → slice_get now (length now - 1) ≡ last → has_ended moment last ≡ true → new ≡ take (length now - 1) now
    → 0 < length now → Purging old moment new
one_more old now new moment None so h ended is some = cc
one_more old now new moment (Some p) so h ended is some =
    let back : now ≡ take (length now - 1) now ++ p ∷ [] = split_last now (length now - 1) p (omega (arith, some)) h in
    let whole : now ≡ new ++ p ∷ [] = back ∙ ap (λ l. l ++ p ∷ []) (sym is) in
    record {
      gone = p ∷ so.gone;
      split = so.split ∙ ap (λ l. l ++ so.gone) whole ∙ append_assoc new (p ∷ []) so.gone;
      ended = All-cons (λ q. q.1.until ≤ moment) p so.gone (leb-true p.1.until moment ended) so.ended;
    }

empty_has_none : (now : Part) (moment : ℕ) → has_ended moment (slice_get now (length now - 1)) ≡ true → 0 < length now
empty_has_none [] moment h = cc
empty_has_none (p ∷ now) moment h = omega arith

pub purge-more : (old now new : Part) (moment : ℕ) → Purging old moment now → has_ended moment (slice_get now (length now - 1)) ≡ true → new ≡ take (length now - 1) now → Purging old moment new
purge-more old now new moment so ended is = one_more old now new moment (slice_get now (length now - 1)) so refl ended is (empty_has_none now moment ended)

live_last : (moment : ℕ) (last : Option (List ℕ × Entry)) → has_ended moment last ≡ false → IfSome last (λ p. moment < p.1.until)
live_last moment None h = tt
live_last moment (Some p) h = leb-false p.1.until moment h

pub purge-ends : (old now : Part) (moment n : ℕ) → Purging old moment now → has_ended moment (slice_get now (length now - 1)) ≡ false → n ≡ length old - length now → IsPurged old moment n now
purge-ends old now moment n so live is =
    let size = ap length so.split ∙ length-append now so.gone in
    record {
      gone = so.gone;
      split = so.split;
      count = omega (arith, size, is);
      ended = so.ended;
      live = live_last moment (slice_get now (length now - 1)) live;
    }

pub purge-fits : (old now : Part) (moment : ℕ) → Purging old moment now → length old ≤ max_entries → length now ≤ max_entries
purge-fits old now moment so size = let whole = ap length so.split ∙ length-append now so.gone in omega (arith, whole, size)

pub purge-shorter : (now new : Part) (moment : ℕ) → has_ended moment (slice_get now (length now - 1)) ≡ true → new ≡ take (length now - 1) now → length new < length now
purge-shorter now new moment ended is =
    let some = empty_has_none now moment ended in
    let back : length new ≤ length now - 1 = subst (λ l. length l ≤ length now - 1) (sym is) (short (length now - 1) now) in
    omega (arith, some, back)
