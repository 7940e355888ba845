-- Purges of the parts in turn, each the last call on its part.
use Rattle.std.proofs.Common.{◌≡◌, ◌≤◌, ◌<◌, ◌+◌, ◌⊎◌, ℕ, zero, suc, List, [], ◌∷◌, ◌++◌, length, Some, inl, inr, refl, sym, ap, ◌∙◌, subst, ⊎_elim, arith, length-append}
use Rattle.std.specs.Prelude.{slice_get, sum}
use Rattle.std.proofs.lemmas.List.Sums.{sum_by_push}
use Rattle.turn_log.specs.Runs.{call_limit}
use Rattle.turn_log.specs.Passes.{EndsInCall, OwnsSeen}
use Rattle.turn_log.specs.Groups.{AddsOnPart, EndsOnPart, StaysAlone, is_alone_on, known}
use Rattle.statement_shelf.specs.Passes.{CommonsPass, EndsShelfCall, EndsWornCall, IsWornPart, PurgesEnd}
use Rattle.statement_shelf.specs.declared.calls.ShelfCall.{ShelfCall}
use Rattle.statement_shelf.specs.declared.calls.ShelfCall.TheVariants.{Purge}
use Rattle.statement_shelf.specs.declared.calls.ShelfReply.{ShelfReply}
use Rattle.statement_shelf.specs.declared.calls.ShelfReply.TheVariants.{Dropped}

module _ {X : Type 0} where
  got_below : (xs : List X) (p : ℕ) (x : X) → slice_get xs p ≡ Some x → p < length xs
  got_below [] p x h = cc h
  got_below (y ∷ xs) zero x h = omega arith
  got_below (y ∷ xs) (suc p) x h = let less = got_below xs p x h in omega (arith, less)

  -- what stands in a list that got one more: what stood there, or that one
  got_more : (xs : List X) (x y : X) (p : ℕ) → slice_get (xs ++ x ∷ []) p ≡ Some y → (slice_get xs p ≡ Some y) ⊎ ((p ≡ length xs) × (x ≡ y))
  got_more [] x y zero h = inr (refl, cc h)
  got_more [] x y (suc p) h = cc h
  got_more (z ∷ xs) x y zero h = inl h
  got_more (z ∷ xs) x y (suc p) h = ⊎_elim (λ old. inl old) (λ last. inr (ap suc last.0, last.1)) (got_more xs x y p h)

module _ {S T : Type 0} where
  -- the last call on a part, told by passes that know the same of it
  moved : (old mid now new : CommonsPass S T) (p : ℕ) (e : ShelfCall × ShelfReply) → (known old).part p ≡ (known mid).part p → is_alone_on old p ≡ is_alone_on mid p → (known new).part p ≡ (known now).part p
      → EndsOnPart mid p e now → EndsOnPart old p e new
  moved old mid now new p e before alone after h = record {
    here = subst (λ a. EndsInCall a ((known new).part p) e) (sym before) (subst (λ b. EndsInCall ((known mid).part p) b e) (sym after) h.here);
    whole = λ only. subst OwnsSeen (sym after) (h.whole (sym alone ∙ only));
  }

  pub stays-more : (old mid new : CommonsPass S T) → StaysAlone old mid → StaysAlone mid new → StaysAlone old new
  stays-more old mid new a b = record { parts = λ p. b.parts p ∙ a.parts p; book = b.book ∙ a.book }

  -- the parts before this one end with the Purge, and dropped so many together; those from it on are as they were
  pub record EndedBefore (moment at dropped : ℕ) (old new : CommonsPass S T) : Type 0 where
    pub counts : List ℕ
    pub size : length counts ≡ at
    pub total : sum counts ≡ dropped
    pub ends : PurgesEnd moment counts old new
    pub later : (p : ℕ) → at ≤ p → (known new).part p ≡ (known old).part p
    pub alone : StaysAlone old new

  pub ended-none : (pass : CommonsPass S T) (moment : ℕ) → EndedBefore moment 0 0 pass pass
  ended-none pass moment = record { counts = []; size = refl; total = refl; ends = λ p n h. cc h; later = λ p low. refl; alone = record { parts = λ p. refl; book = refl } }

  pub ended-more : (moment at dropped n : ℕ) (old mid new : CommonsPass S T) → EndedBefore moment at dropped old mid → AddsOnPart (known mid) at ((Purge moment, Dropped n) ∷ []) (known new) → EndsOnPart mid at (Purge moment, Dropped n) new → StaysAlone mid new
      → EndedBefore moment (at + 1) (dropped + n) old new
  ended-more moment at dropped n old mid new b adds last stays =
      let long = b.size in
      let size = length-append b.counts (n ∷ []) in
      let here : EndsOnPart old at (Purge moment, Dropped n) new = moved old mid new new at (Purge moment, Dropped n) (sym (b.later at (omega arith))) (sym (b.alone.parts at)) refl last in
      record {
        counts = b.counts ++ n ∷ [];
        size = omega (arith, size, long);
        total = sum_by_push (λ x. x) b.counts n ∙ ap (λ t. t + n) b.total;
        ends = λ p m h. ⊎_elim
            (λ old_one. let less = got_below b.counts p m old_one in moved old old mid new p (Purge moment, Dropped m) refl refl (adds.elsewhere p (λ e. omega (arith, e, less, long))) (b.ends p m old_one))
            (λ last_one. subst (λ (q : ℕ). EndsOnPart old q (Purge moment, Dropped m) new) (sym (last_one.0 ∙ b.size)) (subst (λ (k : ℕ). EndsOnPart old at (Purge moment, Dropped k) new) last_one.1 here))
            (got_more b.counts n m p h);
        later = λ p low. adds.elsewhere p (λ e. omega (arith, e, low)) ∙ b.later p (omega (arith, low));
        alone = stays-more old mid new b.alone stays;
      }

  pub ended-all : (moment dropped : ℕ) (old new : CommonsPass S T) → EndedBefore moment 8 dropped old new → EndsShelfCall (Purge moment) (Dropped dropped) old new
  ended-all moment dropped old new b = (b.counts, b.size, b.total, b.ends)

  pub ended-worn : (moment at dropped : ℕ) (old mid new : CommonsPass S T) → at < 8 → EndedBefore moment at dropped old mid → IsWornPart at (known mid) (known new) → EndsWornCall (Purge moment) old new
  ended-worn moment at dropped old mid new less b worn =
      let long = b.size in (
        b.counts,
        omega (arith, long, less),
        λ p n h. let low = got_below b.counts p n h in moved old old mid new p (Purge moment, Dropped n) refl refl (worn.0.elsewhere p (λ e. omega (arith, e, low, long))) (b.ends p n h),
        subst (λ k. length ((known new).part k).seen ≡ call_limit) (sym b.size) worn.1,
      )
