-- Anchors in the book, by their places.
use Rattle.std.proofs.Common.{◌≡◌, ◌≢◌, ◌<◌, ◌≤◌, ◌+◌, ℕ, zero, suc, Bool, true, false, List, [], ◌∷◌, length, get_or, set, Option, Some, None, refl, sym, ap, ap₂, ◌∙◌, subst, arith}
use Rattle.std.proofs.lemmas.Grind.{common_steps}
use Rattle.std.specs.Prelude.{bytes_eq, IsSome}
use Rattle.std.specs.List.{position, position_or_len}
use Rattle.std.proofs.lemmas.List.Quantifiers.{position-Some}
use Rattle.std.proofs.lemmas.List.Sums.{fails_before_first}
use Rattle.jwk_set.specs.declared.set.JwkSet.{JwkSet}
use Rattle.statement_shelf.specs.declared.calls.AnchorKeys.{AnchorKeys}
use Rattle.statement_shelf.specs.Book.{Book, IsRotated, keys_of, last_epoch, with_keys}

-- where no place passes, none does
pub none-passes : {X : Type 0} (p : X → Bool) (xs : List X) → position p xs ≡ None → (k : ℕ) (d : X) → k < length xs → p (get_or xs k d) ≡ false
none-passes p xs h k d less = let all : length xs ≤ position_or_len p xs = grind (arith, common_steps) in fails_before_first p xs k d (omega (arith, all, less))

module _ (anchor : List ℕ) where
  abbrev is_of : AnchorKeys → Bool
  is_of a = bytes_eq a.anchor anchor

  none_at : (anchors : List AnchorKeys) → ((k : ℕ) (d : AnchorKeys) → k < length anchors → is_of (get_or anchors k d) ≡ false) → keys_of anchor anchors ≡ None
  none_at [] others = refl
  none_at (a ∷ more) others = rw (others 0 a (omega arith)) (none_at more (λ k d less. others (suc k) d (omega (arith, less))))

  some_at : (anchors : List AnchorKeys) (i : ℕ) (d : AnchorKeys) → i < length anchors → is_of (get_or anchors i d) ≡ true → ((k : ℕ) → k < i → is_of (get_or anchors k d) ≡ false)
      → keys_of anchor anchors ≡ Some (get_or anchors i d).keys
  some_at [] i d less here before = absurd (omega (arith, less))
  some_at (a ∷ more) zero d less here before = rw here refl
  some_at (a ∷ more) (suc i) d less here before = rw (before 0 (omega arith)) (some_at more i d (omega (arith, less)) here (λ k l. before (suc k) (omega (arith, l))))

  set_at : (anchors : List AnchorKeys) (i : ℕ) (d : AnchorKeys) (keys : JwkSet) → i < length anchors → is_of (get_or anchors i d) ≡ true → ((k : ℕ) → k < i → is_of (get_or anchors k d) ≡ false)
      → set anchors i (record { anchor = anchor; keys = keys }) ≡ with_keys anchor keys anchors
  set_at [] i d keys less here before = absurd (omega (arith, less))
  set_at (a ∷ more) zero d keys less here before = rw here refl
  set_at (a ∷ more) (suc i) d keys less here before = rw (before 0 (omega arith)) (ap (λ q. a ∷ q) (set_at more i d keys (omega (arith, less)) here (λ k l. before (suc k) (omega (arith, l)))))

  -- an anchor that has no place has no keys
  pub unlisted : (anchors : List AnchorKeys) → position is_of anchors ≡ None → keys_of anchor anchors ≡ None
  unlisted anchors h = none_at anchors (none-passes is_of anchors h)

  -- one that has a place has the keys that stand there
  pub listed : (anchors : List AnchorKeys) (i : ℕ) (d : AnchorKeys) → position is_of anchors ≡ Some i → (i < length anchors) × (keys_of anchor anchors ≡ Some (get_or anchors i d).keys)
  listed anchors i d h = let at = position-Some is_of anchors i d h in (at.0, some_at anchors i d at.0 at.1 at.2)

  -- keys that are written at that place are the anchor's
  pub rekeyed : (anchors : List AnchorKeys) (i : ℕ) (d : AnchorKeys) (keys : JwkSet) → position is_of anchors ≡ Some i → set anchors i (record { anchor = anchor; keys = keys }) ≡ with_keys anchor keys anchors
  rekeyed anchors i d keys h = let at = position-Some is_of anchors i d h in set_at anchors i d keys at.0 at.1 at.2

  -- ---- the replies

  pub read-missing : (anchors : List AnchorKeys) (found : Option ℕ) → found ≡ position is_of anchors → found ≡ None → keys_of anchor anchors ≡ None
  read-missing anchors found is none = unlisted anchors (sym is ∙ none)

  pub read-found : (anchors items : List AnchorKeys) (found : Option ℕ) (place : ℕ) (a : AnchorKeys) (keys : JwkSet) → found ≡ position is_of anchors → found ≡ Some place → items ≡ anchors
      → a ≡ get_or items place a → keys ≡ a.keys → keys_of anchor anchors ≡ Some keys
  read-found anchors items found place a keys is some same at copy =
      (listed anchors place a (sym is ∙ some)).1 ∙ ap (λ k. Some k) (ap (λ x. x.keys) (ap (λ l. get_or l place a) (sym same) ∙ sym at) ∙ sym copy)

  pub rotated-step : (old new : Book) (found : Option ℕ) (place from : ℕ) (keys : JwkSet) → found ≡ position is_of old.anchors → found ≡ Some place → from ≡ old.epoch → old.epoch ≢ last_epoch → old.epoch ≤ last_epoch
      → new.anchors ≡ set old.anchors place (record { anchor = anchor; keys = keys }) → new.epoch ≡ old.epoch + 1 → IsRotated old anchor from keys new.epoch new
  rotated-step old new found place from keys is some now apart low anchors epoch =
      let d : AnchorKeys = record { anchor = anchor; keys = keys } in
      let at : position is_of old.anchors ≡ Some place = sym is ∙ some in
      record {
        listed = subst IsSome (sym (listed old.anchors place d at).1) refl;
        now = now;
        room = omega (arith, apart, low);
        rose = epoch;
        is = ap₂ (λ x e. record { anchors = x; epoch = e }) (anchors ∙ rekeyed old.anchors place d keys at) epoch;
      }

  pub listed-some : (anchors : List AnchorKeys) (found : Option ℕ) (place : ℕ) (d : AnchorKeys) → found ≡ position is_of anchors → found ≡ Some place → IsSome (keys_of anchor anchors)
  listed-some anchors found place d is some = subst IsSome (sym (listed anchors place d (sym is ∙ some)).1) refl
