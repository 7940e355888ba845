-- Batches, and one more behind them.
use Rattle.std.proofs.Common.{◌≡◌, ◌-◌, ℕ, List, [], ◌∷◌, ◌++◌, length, refl, sym, ap, ◌∙◌, subst}
use Rattle.std.specs.Prelude.{min}
use Rattle.resolver_service.specs.Batches.{AreBatches, Batch, IsBatch, IsSized, Setup, Standing}
use Rattle.resolver_service.specs.Steps.{IsServedBatch}
use Rattle.resolver_service.specs.Stopped.{ServesSome}

module _ {P N C : Type 0} where
  batches_more : (s : Setup P N C) (a b c : Standing P) (batches : List (Batch P N C)) (x : Batch P N C) → AreBatches s a batches b → x.before ≡ b → x.now ≡ c → IsBatch s x
      → AreBatches s a (batches ++ x ∷ []) c
  batches_more s a b c [] x same before now is = (before ∙ same, is, sym now)
  batches_more s a b c (y ∷ batches) x (from, one, more) before now is = (from, one, batches_more s y.now b c batches x more before now is)

  sized_more : (workers connections left : ℕ) (batches : List (Batch P N C)) (x : Batch P N C) → IsSized workers connections batches left → length x.desks ≡ min workers left
      → IsSized workers connections (batches ++ x ∷ []) (left - min workers left)
  sized_more workers connections left [] x same many = (many ∙ ap (min workers) same, ap (λ n. n - min workers n) same)
  sized_more workers connections left (y ∷ batches) x (one, more) many = (one, sized_more workers (connections - min workers connections) left batches x more many)

  -- before the first batch all connections are left
  pub serves_none : (s : Setup P N C) (workers connections : ℕ) (a : Standing P) → ServesSome s workers connections connections a a
  serves_none s workers connections a = ([], refl, refl)

  -- a batch of as many as there are workers, and no more than are left
  pub serves_more : (s : Setup P N C) (workers connections left count : ℕ) (a b c : Standing P) → ServesSome s workers connections left a b → count ≡ min workers left
      → IsServedBatch count s b c → ServesSome s workers connections (left - count) a c
  serves_more s workers connections left count a b c (batches, sized, are) least (x, many, before, now, is) = (
    batches ++ x ∷ [],
    subst (λ n. IsSized workers connections (batches ++ x ∷ []) (left - n)) (sym least) (sized_more workers connections left batches x sized (many ∙ least)),
    batches_more s a b c batches x are before now is,
  )
