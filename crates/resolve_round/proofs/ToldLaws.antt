-- What a trace that is true shows.
use Rattle.std.proofs.Common.{ℕ, List, [], ◌∷◌, ap, subst, inl, inr, ⊎_elim}
use Rattle.sealed.specs.Seals.{IsSealed, Pair}
use Rattle.chain_climb.specs.Elements.{Among}
use Rattle.statement_shelf.specs.declared.calls.ShelfCall.TheVariants.{Look, Put, Prove, Purge}
use Rattle.statement_shelf.specs.declared.calls.ShelfReply.{ShelfReply}
use Rattle.resolve_round.specs.declared.trace.Event.{Event}
use Rattle.resolve_round.specs.declared.trace.Event.TheVariants.{Shelf, Book}
use Rattle.resolve_round.specs.declared.trace.Trace.{Trace}
use Rattle.resolve_round.specs.Told.{AreChecks, IsCheck, ProvesAreKnown, ShownByHit, TestedGood}
use Rattle.resolve_round.specs.Traces.{ShelfEvent, looks_in, pair_in}

-- a Look among those of some events is one of these events
pub look-there : (events : List Event) (e : ShelfEvent) → Among e (looks_in events) → Among (Shelf e.0 e.1) events
look-there [] e among = absurd among
look-there (Shelf (Look url moment) r ∷ events) e (inl same) = inl (ap (λ (x : ShelfEvent). Shelf x.0 x.1) same)
look-there (Shelf (Look url moment) r ∷ events) e (inr among) = inr (look-there events e among)
look-there (Shelf (Put url text until) r ∷ events) e among = inr (look-there events e among)
look-there (Shelf (Prove url seal) r ∷ events) e among = inr (look-there events e among)
look-there (Shelf (Purge moment) r ∷ events) e among = inr (look-there events e among)
look-there (Book call r ∷ events) e among = inr (look-there events e among)

-- where what hits show verifies, each Prove is of a pair that does
pub proves-sealed : (trace : Trace) → AreChecks trace → ProvesAreKnown trace → ((pair : Pair) → ShownByHit trace.events pair → IsSealed pair)
    → (url : List ℕ) (seal : Pair) (r : ShelfReply) → Among (Shelf (Prove url seal) r) trace.events → IsSealed seal
proves-sealed trace checks known hits url seal r among =
    ⊎_elim
    (λ (tested : TestedGood trace.checks seal).
    let check : IsCheck trace.searches trace.keys.keys tested.0 = checks.each tested.0 tested.1 in
    let sealed : IsSealed (pair_in tested.0) = rw tested.3 at check.answer in
    subst IsSealed tested.2 sealed)
    (λ shown. hits seal shown)
    (known url seal r among)
