-- What a recorded Look tells.
use Rattle.std.proofs.Common.{◌≡◌, ◌<◌, ℕ, List, [], ◌∷◌, ◌++◌, length, get_or, Option, sym, ap, ◌∙◌, subst, inr, arith}
use Rattle.std.proofs.lemmas.List.{get_or_push, length_push}
use Rattle.statement_shelf.specs.declared.calls.Proven.{Proven}
use Rattle.statement_shelf.specs.declared.calls.ShelfCall.{ShelfCall}
use Rattle.statement_shelf.specs.declared.calls.ShelfCall.TheVariants.{Look}
use Rattle.resolve_round.specs.declared.trace.Event.{Event}
use Rattle.resolve_round.specs.declared.trace.Event.TheVariants.{Shelf}
use Rattle.resolve_round.specs.Acts.{CanReply, IsRecorded}
use Rattle.resolve_round.specs.Looking.{CanTell, HasLooked, HasTriedLook, TellsReply}

module _ (old new : List Event) (url at : List ℕ) (moment time : ℕ) (call : ShelfCall) (is : call ≡ Look at time) (place : at ≡ url) (when : time ≡ moment) (recorded : IsRecorded old call new) where
  look_is : call ≡ Look url moment
  look_is = is ∙ ap (λ u. Look u time) place ∙ ap (Look url) when

  added : new ≡ old ++ Shelf (Look url moment) recorded.answer ∷ []
  added = recorded.is ∙ ap (λ c. old ++ Shelf c recorded.answer ∷ []) look_is

  pub look-within : (n : ℕ) → n ≡ length old → n < length new
  look-within n same = let e = ap length added in let l = length_push old (Shelf (Look url moment) recorded.answer) in omega (arith, e, l, same)

  event_is : (n : ℕ) → n ≡ length old → (event : Event) → event ≡ get_or new n event → event ≡ Shelf (Look url moment) recorded.answer
  event_is n same event there = there ∙ ap (λ l. get_or l n event) added ∙ get_or_push old (Shelf (Look url moment) recorded.answer) event n (sym same)

  pub look-can : (n : ℕ) → n ≡ length old → (event : Event) → event ≡ get_or new n event → CanTell event
  look-can n same event there = subst CanTell (sym (event_is n same event there)) (subst (λ c. CanReply c recorded.answer) look_is recorded.can)

  pub look-tells : (n : ℕ) → n ≡ length old → (event : Event) → event ≡ get_or new n event → (told : Option Proven) → TellsReply event told → HasLooked old url moment new told
  look-tells n same event there told tells =
      let r = subst (λ e. TellsReply e told) (event_is n same event there) tells in
      added ∙ ap (λ x. old ++ Shelf (Look url moment) x ∷ []) r

  pub look-tried : HasTriedLook old url moment new
  look-tried = inr (recorded.answer, added)
