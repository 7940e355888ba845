-- What a link gave in a whole round.
use Rattle.std.proofs.Common.{◌≡◌, ℕ, List, [], ◌∷◌, ◌++◌, Result, Ok, Err, refl, sym, ap, ◌∙◌, subst, inl, inr}
use Rattle.resolve_round.specs.declared.halt.Halt.{Halt}
use Rattle.resolve_round.specs.declared.halt.Halt.TheVariants as halt
use Rattle.resolve_round.specs.declared.trace.Ask.{Ask}
use Rattle.resolve_round.specs.declared.trace.Search.{Search}
use Rattle.resolve_round.specs.declared.trace.Trace.{Trace}
use Rattle.resolve_round.specs.Linking.{LinkUsed, LinkView, TriesBy, seen_by}
use Rattle.resolve_search.specs.Turning.{RoundUsed, TriesOnce, blank}
use Rattle.resolve_round.specs.Walking.{GaveEach, Giving, Stumbled, StumblesOnce, Walked, WalkedRound}
use Rattle.resolve_search.proofs.TurningLaws.{link-tried, link-used}

-- what it gave says nothing of a round but its asks
pub walked-same : {L : Type 0} → (gave : Giving L) → (old new : L) (before after same : List Ask) → same ≡ after → Walked gave old new before after → Walked gave old new before same
walked-same gave old new before after same is walked = record { more = walked.more; are = is ∙ walked.are; gave_each = walked.gave_each }

-- all that it gave was asked by the round that was added, which began without an ask
pub walked-round : {L : Type 0} → (gave : Giving L) → (old new : L) (before after : Trace) (leaf : List ℕ) (first search : Search)
    → first ≡ blank leaf → after.searches ≡ before.searches ++ search ∷ [] → Walked gave old new first.asks search.asks → WalkedRound gave old new before after
walked-round gave old new before after leaf first search fresh added walked = record {
  search = search;
  added = added;
  gave_each = subst (λ asks. GaveEach gave asks old new) (sym (walked.are ∙ ap (λ (s : Search). s.asks ++ walked.more) fresh)) walked.gave_each;
}

-- no round was added, and the link gave nothing
pub stumbled-nothing : {L : Type 0} → (gave : Giving L) → (at : L) (before after : Trace) → after.searches ≡ before.searches → StumblesOnce gave at at before after
stumbled-nothing gave at before after same = inl (same, refl)

-- all that it gave was asked by the round that was added, and for one call more, at most, memory was wanting
pub stumbled-round : {L : Type 0} → (gave : Giving L) → (old new : L) (before after : Trace) (leaf : List ℕ) (first search : Search)
    → first ≡ blank leaf → after.searches ≡ before.searches ++ search ∷ [] → Stumbled gave old new first.asks search.asks → StumblesOnce gave old new before after
stumbled-round gave old new before after leaf first search fresh added stumbled = inr (record {
  search = search;
  added = added;
  stumbled = subst (λ (s : Search). Stumbled gave old new s.asks search.asks) fresh stumbled;
})

-- how the link was used by the round that was added, whatever the result
module _ {L : Type 0} (view : LinkView L) (old new : L) (leaf : List ℕ) (before after : Trace) (first search : Search) (fresh : first ≡ blank leaf)
    (added : after.searches ≡ before.searches ++ search ∷ []) where
  tries_once : (cause : Halt) → TriesBy (seen_by view old) (seen_by view new) first search cause → TriesOnce (seen_by view old) (seen_by view new) before after cause
  tries_once (halt.Worn count) used = link-used 0 (seen_by view old) (seen_by view new) leaf before after first search fresh added used
  tries_once halt.Memory tries = link-tried (seen_by view old) (seen_by view new) leaf before after first search fresh added tries

  pub round-used : {A : Type 0} → (result : Result A Halt) → LinkUsed view old new first search result → RoundUsed view old new before after result
  round-used (Ok value) link = (
    link-used 0 (seen_by view old) (seen_by view new) leaf before after first search fresh added link.0,
    walked-round view.gave old new before after leaf first search fresh added link.1,
  )
  round-used (Err cause) link = (tries_once cause link.0, stumbled-round view.gave old new before after leaf first search fresh added link.1)
