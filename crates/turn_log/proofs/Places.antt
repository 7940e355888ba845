-- Rising places, by cases and by index.
use Rattle.std.proofs.Common.{◌≡◌, ℕ, ◌<◌, zero, suc, List, [], ◌∷◌, length, get_or, refl, sym, subst, ⊎_elim, inl, inr, arith}
use Rattle.std.specs.Prelude.{All, AllPairs}
use Rattle.turn_log.specs.Runs.{Account, IsAccount}
use Rattle.turn_log.specs.Places.{IsIn, Rising, places_below}
use Rattle.turn_log.specs.Shares.{IsShare, IsWhole}
use Rattle.turn_log.specs.Views.{IsOwn, given_by_split, kept_by_split}
use Rattle.turn_log.specs.declared.view.View.{View}
use Rattle.turn_log.proofs.Shares.{half_not_whole, halved_share}

has_at : (xs : List ℕ) (k d : ℕ) → k < length xs → IsIn (get_or xs k d) xs
has_at [] k d h = absurd (omega arith)
has_at (x ∷ xs) zero d h = inl refl
has_at (x ∷ xs) (suc k) d h = inr (has_at xs k d (omega arith))

at_has : (xs : List ℕ) (p d : ℕ) → IsIn p xs → (k : ℕ) × (k < length xs) × (get_or xs k d ≡ p)
at_has [] p d h = absurd h
at_has (x ∷ xs) p d h = ⊎_elim (λ e. (0, omega arith, sym e)) (λ t. let f = at_has xs p d t in let l = f.1 in (suc f.0, omega arith, f.2)) h

rising_pairs : (xs : List ℕ) → Rising xs → AllPairs ◌<◌ xs
rising_pairs [] r i j d less in_list = absurd (omega arith)
rising_pairs (x ∷ xs) r zero zero d less in_list = absurd (omega arith)
rising_pairs (x ∷ xs) r zero (suc j) d less in_list = r.0 (get_or xs j d) (has_at xs j d (omega arith))
rising_pairs (x ∷ xs) r (suc i) zero d less in_list = absurd (omega arith)
rising_pairs (x ∷ xs) r (suc i) (suc j) d less in_list = rising_pairs xs r.1 i j d (omega arith) (omega arith)

pairs_rising : (xs : List ℕ) → AllPairs ◌<◌ xs → Rising xs
pairs_rising [] h = tt
pairs_rising (x ∷ xs) h = (
  (λ p k. let f = at_has xs p 0 k in let l = f.1 in subst (λ (q : ℕ). x < q) f.2 (h 0 (suc f.0) 0 (omega arith) (omega arith))),
  pairs_rising xs (λ i j d less in_list. h (suc i) (suc j) d (omega arith) (omega arith)),
)

all_has : (n : ℕ) (xs : List ℕ) → All (λ place. place < n) xs → (p : ℕ) → IsIn p xs → p < n
all_has n xs h p k = let f = at_has xs p 0 k in subst (λ (q : ℕ). q < n) f.2 (h f.0 0 f.1)

module _ {X C R : Type 0} where
  -- what a view makes of its caller's account
  abbrev pub account_in : View X C R → Account C R
  account_in v = record { seen = v.seen; mine = v.mine; share = v.share }

  pub own_account : (v : View X C R) → IsOwn v → IsShare v.share → (IsWhole v.share → v.mine ≡ places_below (length v.seen)) → IsAccount (account_in v)
  own_account v own share covered = record {
    rising = rising_pairs v.mine own.rising;
    within = λ k d h. own.within (get_or v.mine k d) (has_at v.mine k d h);
    share = share;
    covered = covered;
  }

  pub account_own : (v : View X C R) → IsAccount (account_in v) → IsOwn v
  account_own v a = record { rising = pairs_rising v.mine a.rising; within = all_has (length v.seen) v.mine a.within }

  -- the two views that a split makes
  pub kept_account : (v : View X C R) → IsAccount (account_in v) → IsAccount (account_in (kept_by_split v))
  kept_account v a = own_account (kept_by_split v) (record { rising = (account_own v a).rising; within = (account_own v a).within }) (halved_share v.share a.share) (λ whole. absurd (half_not_whole v.share a.share whole))

  pub given_account : (v : View X C R) → IsAccount (account_in v) → IsAccount (account_in (given_by_split v))
  given_account v a = own_account (given_by_split v) (record { rising = tt; within = λ p h. absurd h }) (halved_share v.share a.share) (λ whole. absurd (half_not_whole v.share a.share whole))
