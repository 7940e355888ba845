-- Counts of faults where several calls follow each other.
use Rattle.std.proofs.Common.{◌≡◌, ℕ, Result, Ok, Err, MatchResult, sym, subst}
use Rattle.cli_commands.specs.Answers.{StopsAs}
use Rattle.cli_commands.specs.declared.answer.Stop.{Stop}

module _ {T : Type 0} where
  -- a call stops behind one that left the store's count
  pub steady-stop : (r : Result T Stop) (stop : Stop) (a s m t : ℕ) → r ≡ Err stop → m ≡ s → StopsAs stop a a m t → MatchResult r (λ _. (a ≡ a) × (t ≡ s)) (λ x. StopsAs x a a s t)
  steady-stop r stop a s m t is same stops = subst (λ x. MatchResult x (λ _. (a ≡ a) × (t ≡ s)) (λ y. StopsAs y a a s t)) (sym is) (subst (λ n. StopsAs stop a a n t) same stops)

  -- a call that doesn't ask the store
  pub steady-read : (r : Result T Stop) (a b s t : ℕ) → t ≡ s → MatchResult r (λ _. b ≡ a) (λ stop. StopsAs stop a b s s) → MatchResult r (λ _. (b ≡ a) × (t ≡ s)) (λ stop. StopsAs stop a b s t)
  steady-read (Ok x) a b s t same h = (h, same)
  steady-read (Err stop) a b s t same h = subst (λ n. StopsAs stop a b s n) (sym same) h
