-- Purges of the parts in turn.
use Rattle.std.proofs.Common.{◌≡◌, ◌≢◌, ◌≤◌, ◌<◌, ◌+◌, ◌*◌, ℕ, zero, suc, List, [], ◌∷◌, ◌++◌, length, map, Some, refl, sym, ap, ◌∙◌, subst, arith, append-nil, length-append}
use Rattle.std.specs.Prelude.{Err, IfErr, Ok, Result, slice_get, sum}
use mathlib.Core.Logic.{dite}
use native.Mathlib.Decide.{ℕ_discrete}
use Rattle.std.proofs.lemmas.List.Sums.{sum_by_push}
use Rattle.turn_log.specs.Runs.{Account, Adds, IsLegal, Runs, call_limit}
use Rattle.turn_log.specs.Groups.{AddsOnPart}
use Rattle.turn_log.proofs.Gains.{adds-append, adds-none}
use Rattle.statement_shelf.specs.Entries.{Part}
use Rattle.statement_shelf.specs.Shelf.{ShelfStep, IsPurged}
use Rattle.statement_shelf.specs.Laws.{IsSmall}
use Rattle.statement_shelf.specs.Passes.{ArePurged, CommonsKnown, IsPurgeOfAll, IsPurgeOfSome, IsWornCall, IsWornPart, purge_at}
use Rattle.statement_shelf.specs.declared.calls.ShelfCall.{ShelfCall}
use Rattle.statement_shelf.specs.declared.calls.ShelfCall.TheVariants.{Purge}
use Rattle.statement_shelf.specs.declared.calls.ShelfReply.{ShelfReply}
use Rattle.statement_shelf.specs.declared.calls.ShelfReply.TheVariants.{Hit, Miss, Done, Gone, Dropped, Memory}
use Rattle.statement_shelf.proofs.StepLaws.{none-small, step-small}

-- ---- what a part replies to a Purge

step_at : (calls : List (ShelfCall × ShelfReply)) (first last : Part) (p : ℕ) (call : ShelfCall) (reply : ShelfReply) → IsSmall first → Runs ShelfStep first calls last → slice_get calls p ≡ Some (call, reply)
    → (old : Part) × (new : Part) × IsSmall old × ShelfStep old call reply new
step_at [] first last p call reply small run h = cc
step_at (e ∷ es) first last zero call reply small run h =
    let same : e ≡ (call, reply) = cc in
    (first, run.0, small, subst (λ x. ShelfStep first x.0 x.1 run.0) same run.1)
step_at (e ∷ es) first last (suc p) call reply small run h = step_at es run.0 last p call reply (step-small first e.0 e.1 run.0 small run.1) run.2 h

few_gone : (old new : Part) (moment n : ℕ) → IsSmall old → IsPurged old moment n new → n ≤ 32
few_gone old new moment n small is =
    let size = ap length is.split ∙ length-append new is.gone in
    let few = small.0 in
    let count = is.count in
    omega (arith, size, few, count)

drops : (old new : Part) (moment : ℕ) (reply : ShelfReply) → IsSmall old → ShelfStep old (Purge moment) reply new → (n : ℕ) × (reply ≡ Dropped n) × (n ≤ 32)
drops old new moment (Hit proven) small step = absurd step
drops old new moment Miss small step = absurd step
drops old new moment Done small step = absurd step
drops old new moment Gone small step = absurd step
drops old new moment (Dropped n) small step = (n, refl, few_gone old new moment n small step)
drops old new moment Memory small step = absurd step

place_of : (seen : List (ShelfCall × ShelfReply)) (places : List ℕ) (e : ShelfCall × ShelfReply) → map (slice_get seen) places ≡ map Some (e ∷ []) → (p : ℕ) × (slice_get seen p ≡ Some e)
place_of seen [] e h = cc
place_of seen (p ∷ places) e h = (p, cc)

-- the reply to a Purge that was added to a legal list
pub purge-reply : (old new : Account ShelfCall ShelfReply) (moment : ℕ) (reply : ShelfReply) → Adds old new ((Purge moment, reply) ∷ []) → IsLegal ShelfStep [] new.seen
    → (n : ℕ) × (reply ≡ Dropped n) × (n ≤ 32)
purge-reply old new moment reply adds legal =
    let place = place_of new.seen adds.places (Purge moment, reply) adds.are in
    let step = step_at new.seen [] legal.0 place.0 (Purge moment) reply none-small legal.1 place.1 in
    drops step.0 step.1 moment reply step.2 step.3

-- ---- the parts in turn

at_end : (moment n : ℕ) (counts : List ℕ) → (purge_at moment counts (length counts) ≡ []) × (purge_at moment (counts ++ n ∷ []) (length counts) ≡ (Purge moment, Dropped n) ∷ [])
at_end moment n [] = (refl, refl)
at_end moment n (m ∷ counts) = at_end moment n counts

elsewhere : (moment n : ℕ) (counts : List ℕ) (p : ℕ) → p ≢ length counts → purge_at moment (counts ++ n ∷ []) p ≡ purge_at moment counts p
elsewhere moment n [] zero apart = absurd (apart refl)
elsewhere moment n [] (suc p) apart = refl
elsewhere moment n (m ∷ counts) zero apart = refl
elsewhere moment n (m ∷ counts) (suc p) apart = elsewhere moment n counts p (λ e. apart (ap suc e))

pub purged-none : (known : CommonsKnown) (moment : ℕ) → ArePurged moment [] known known
purged-none known moment = record { parts = λ p. adds-none (known.part p); book = refl }

pub purged-more : (old mid new : CommonsKnown) (moment n : ℕ) (counts : List ℕ) → ArePurged moment counts old mid → AddsOnPart mid (length counts) ((Purge moment, Dropped n) ∷ []) new
    → ArePurged moment (counts ++ n ∷ []) old new
purged-more old mid new moment n counts so more = record {
  parts = λ p. dite (ℕ_discrete p (length counts))
      (λ same. subst (λ (q : ℕ). Adds (old.part q) (new.part q) (purge_at moment (counts ++ n ∷ []) q)) (sym same)
      (subst (Adds (old.part (length counts)) (new.part (length counts))) (sym (at_end moment n counts).1)
      (adds-append (old.part (length counts)) (mid.part (length counts)) (new.part (length counts)) [] ((Purge moment, Dropped n) ∷ [])
      (subst (Adds (old.part (length counts)) (mid.part (length counts))) (at_end moment n counts).0 (so.parts (length counts))) more.here)))
      (λ apart. subst (λ a. Adds (old.part p) a (purge_at moment (counts ++ n ∷ []) p)) (sym (more.elsewhere p apart))
      (subst (Adds (old.part p) (mid.part p)) (sym (elsewhere moment n counts p apart)) (so.parts p)));
  book = more.book ∙ so.book;
}

-- a part that is worn adds no call
worn_adds : (old mid new : CommonsKnown) (moment : ℕ) (counts : List ℕ) → ArePurged moment counts old mid → AddsOnPart mid (length counts) [] new → ArePurged moment counts old new
worn_adds old mid new moment counts so more = record {
  parts = λ p. dite (ℕ_discrete p (length counts))
      (λ same. subst (λ (q : ℕ). Adds (old.part q) (new.part q) (purge_at moment counts q)) (sym same)
      (subst (Adds (old.part (length counts)) (new.part (length counts))) (append-nil (purge_at moment counts (length counts)))
      (adds-append (old.part (length counts)) (mid.part (length counts)) (new.part (length counts)) (purge_at moment counts (length counts)) [] (so.parts (length counts)) more.here)))
      (λ apart. subst (λ a. Adds (old.part p) a (purge_at moment counts p)) (sym (more.elsewhere p apart)) (so.parts p));
  book = more.book ∙ so.book;
}

-- the parts before this one were purged, and dropped so many together
pub record PurgedBefore (moment at dropped : ℕ) (old new : CommonsKnown) : Type 0 where
  pub counts : List ℕ
  pub size : length counts ≡ at
  pub total : sum counts ≡ dropped
  pub few : dropped ≤ 32 * at
  pub so : ArePurged moment counts old new

pub before-none : (known : CommonsKnown) (moment : ℕ) → PurgedBefore moment 0 0 known known
before-none known moment = record { counts = []; size = refl; total = refl; few = omega arith; so = purged-none known moment }

pub before-more : (moment at dropped n : ℕ) (old mid new : CommonsKnown) → PurgedBefore moment at dropped old mid → AddsOnPart mid at ((Purge moment, Dropped n) ∷ []) new → n ≤ 32
    → PurgedBefore moment (at + 1) (dropped + n) old new
before-more moment at dropped n old mid new b more few =
    let long = b.size in
    let low = b.few in
    let size = length-append b.counts (n ∷ []) in
    record {
      counts = b.counts ++ n ∷ [];
      size = omega (arith, size, long);
      total = sum_by_push (λ x. x) b.counts n ∙ ap (λ t. t + n) b.total;
      few = omega (arith, low, few);
      so = purged-more old mid new moment n b.counts b.so (subst (λ k. AddsOnPart mid k ((Purge moment, Dropped n) ∷ []) new) (sym b.size) more);
    }

pub before-all : (moment dropped : ℕ) (old new : CommonsKnown) → PurgedBefore moment 8 dropped old new → IsPurgeOfAll moment dropped old new
before-all moment dropped old new b = (b.counts, b.size, b.total, b.so)

pub before-worn : (moment at dropped : ℕ) (old mid new : CommonsKnown) → at < 8 → PurgedBefore moment at dropped old mid → IsWornPart at mid new → IsPurgeOfSome moment old new
before-worn moment at dropped old mid new less b worn =
    let long = b.size in (
      b.counts,
      omega (arith, long, less),
      worn_adds old mid new moment b.counts b.so (subst (λ k. AddsOnPart mid k [] new) (sym b.size) worn.0),
      subst (λ k. length (new.part k).seen ≡ call_limit) (sym b.size) worn.1,
    )

-- ---- a call on a part that is worn

pub worn-called : {E : Type 0} (count : E → ℕ) (r : Result ShelfReply E) (call : ShelfCall) (at : ℕ) (old new : CommonsKnown) → (IsWornPart at old new → IsWornCall call old new)
    → IfErr r (λ e. (count e ≡ call_limit) × AddsOnPart old at [] new × (length (new.part at).seen ≡ call_limit)) → IfErr r (λ e. (count e ≡ call_limit) × IsWornCall call old new)
worn-called {E} count (Ok reply) call at old new of h = tt
worn-called {E} count (Err e) call at old new of h = (h.0, of (h.1, h.2))
