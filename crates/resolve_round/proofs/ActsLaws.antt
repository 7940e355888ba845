-- What calls on the cache add to the events and to what a pass has gained.
use Rattle.std.proofs.Common.{◌≡◌, ◌≢◌, ◌<◌, ℕ, zero, suc, List, [], ◌∷◌, ◌++◌, map, Bool, true, false, cond, Some, refl, sym, ap, ◌∙◌, subst, inr, ⊎_elim, arith, append-nil, append_assoc, nat_eq, eq-eqb, eqb-true, true≢false}
use Rattle.std.specs.Prelude.{slice_get}
use Rattle.turn_log.specs.Runs.{Account, Adds, IsLegal, Runs, call_limit}
use Rattle.turn_log.specs.Groups.{AddsOnPart}
use Rattle.turn_log.proofs.Gains.{adds-none, gains-append}
use Rattle.chain_climb.proofs.Elements.{among-split}
use Rattle.statement_shelf.specs.Entries.{Part, part_of}
use Rattle.statement_shelf.specs.Shelf.{ShelfStep}
use Rattle.statement_shelf.specs.Passes.{CommonsKnown, IsShelfCall, IsWornCall, IsWornPart}
use Rattle.statement_shelf.specs.declared.calls.ShelfCall.{ShelfCall}
use Rattle.statement_shelf.specs.declared.calls.ShelfCall.TheVariants.{Look, Put, Prove, Purge}
use Rattle.statement_shelf.specs.declared.calls.ShelfReply.{ShelfReply}
use Rattle.statement_shelf.specs.declared.calls.ShelfReply.TheVariants.{Hit, Miss, Done, Gone, Memory}
use Rattle.resolve_round.specs.declared.halt.Halt.{Halt}
use Rattle.resolve_round.specs.declared.halt.Halt.TheVariants as halt
use Rattle.resolve_round.specs.declared.trace.Event.{Event}
use Rattle.resolve_round.specs.declared.trace.Event.TheVariants.{Shelf}
use Rattle.resolve_round.specs.Acts.{CanReply, Continues, GainsEvents, IsHalt, IsWorkCall, on_book, on_part}
use Rattle.resolve_round.specs.Traces.{IsWork, ShelfEvent}

-- ---- what a part replies

step_at : (calls : List ShelfEvent) (first last : Part) (p : ℕ) (call : ShelfCall) (reply : ShelfReply) → Runs ShelfStep first calls last → slice_get calls p ≡ Some (call, reply)
    → (old : Part) × (new : Part) × ShelfStep old call reply new
step_at [] first last p call reply run h = absurd (cc h)
step_at (e ∷ es) first last zero call reply run h =
    let same : e ≡ (call, reply) = cc in
    (first, run.0, subst (λ x. ShelfStep first x.0 x.1 run.0) same run.1)
step_at (e ∷ es) first last (suc p) call reply run h = step_at es run.0 last p call reply run.2 h

can_reply : (old new : Part) (call : ShelfCall) (r : ShelfReply) → IsWorkCall call → ShelfStep old call r new → CanReply call r
can_reply old new (Look url moment) (Hit proven) work step = tt
can_reply old new (Look url moment) Miss work step = tt
can_reply old new (Look url moment) Memory work step = tt
can_reply old new (Look url moment) r work step = absurd step
can_reply old new (Put url text until) Done work step = tt
can_reply old new (Put url text until) Memory work step = tt
can_reply old new (Put url text until) r work step = absurd step
can_reply old new (Prove url seal) Done work step = tt
can_reply old new (Prove url seal) Gone work step = tt
can_reply old new (Prove url seal) r work step = absurd step
can_reply old new (Purge moment) r work step = absurd work

place_of : (seen : List ShelfEvent) (places : List ℕ) (e : ShelfEvent) → map (slice_get seen) places ≡ map Some (e ∷ []) → (p : ℕ) × (slice_get seen p ≡ Some e)
place_of seen [] e h = absurd (cc h)
place_of seen (p ∷ places) e h = (p, cc)

added-can : (old new : Account ShelfCall ShelfReply) (call : ShelfCall) (r : ShelfReply) → IsWorkCall call → Adds old new ((call, r) ∷ []) → IsLegal ShelfStep [] new.seen → CanReply call r
added-can old new call r work adds legal =
    let place = place_of new.seen adds.places (call, r) adds.are in
    let step = step_at new.seen [] legal.0 place.0 call r legal.1 place.1 in
    can_reply step.0 step.1 call r work step.2

-- a legal list of a part has its proper replies
pub reply-can : (old new : CommonsKnown) (call : ShelfCall) (r : ShelfReply) → IsWorkCall call → IsShelfCall call r old new
    → ((p : ℕ) → p < 8 → IsLegal ShelfStep [] (new.part p).seen) → CanReply call r
reply-can old new (Look url moment) r work is legal = added-can (old.part (part_of url)) (new.part (part_of url)) (Look url moment) r tt is.here (legal (part_of url) (omega arith))
reply-can old new (Put url text until) r work is legal = added-can (old.part (part_of url)) (new.part (part_of url)) (Put url text until) r tt is.here (legal (part_of url) (omega arith))
reply-can old new (Prove url seal) r work is legal = added-can (old.part (part_of url)) (new.part (part_of url)) (Prove url seal) r tt is.here (legal (part_of url) (omega arith))
reply-can old new (Purge moment) r work is legal = absurd work

-- ---- what a pass gains

part_gains : (old new : CommonsKnown) (at p : ℕ) (e : ShelfEvent) → AddsOnPart old at (e ∷ []) new → (b : Bool) → nat_eq at p ≡ b → Adds (old.part p) (new.part p) (cond b (e ∷ []) [] ++ [])
part_gains old new at p e is true same = subst (λ q. Adds (old.part q) (new.part q) (e ∷ [])) (eqb-true at p same) is.here
part_gains old new at p e is false apart =
    let other : p ≢ at = λ same. true≢false (sym (eq-eqb at p (sym same)) ∙ apart) in
    subst (λ k. Adds (old.part p) k []) (sym (is.elsewhere p other)) (adds-none (old.part p))

gains_one : (old new : CommonsKnown) (call : ShelfCall) (r : ShelfReply) → IsWorkCall call → IsShelfCall call r old new → GainsEvents old new (Shelf call r ∷ [])
gains_one old new (Look url moment) r work is = record {
  parts = λ p. part_gains old new (part_of url) p (Look url moment, r) is (nat_eq (part_of url) p) refl;
  book = subst (λ k. Adds old.book k []) (sym is.book) (adds-none old.book);
}
gains_one old new (Put url text until) r work is = record {
  parts = λ p. part_gains old new (part_of url) p (Put url text until, r) is (nat_eq (part_of url) p) refl;
  book = subst (λ k. Adds old.book k []) (sym is.book) (adds-none old.book);
}
gains_one old new (Prove url seal) r work is = record {
  parts = λ p. part_gains old new (part_of url) p (Prove url seal, r) is (nat_eq (part_of url) p) refl;
  book = subst (λ k. Adds old.book k []) (sym is.book) (adds-none old.book);
}
gains_one old new (Purge moment) r work is = absurd work

is_work : (call : ShelfCall) (r : ShelfReply) → IsWorkCall call → IsWork (Shelf call r)
is_work (Look url moment) r work = tt
is_work (Put url text until) r work = tt
is_work (Prove url seal) r work = tt
is_work (Purge moment) r work = absurd work

gains_none : (known : CommonsKnown) → GainsEvents known known []
gains_none known = record { parts = λ p. adds-none (known.part p); book = adds-none known.book }

-- nothing is done
pub continues-none : (events : List Event) (known : CommonsKnown) → Continues events events known known
continues-none events known = record { more = []; are = sym (append-nil events); works = λ event none. absurd none; gains = gains_none known }

pub continues-same : (events now : List Event) (known : CommonsKnown) → now ≡ events → Continues events now known known
continues-same events now known same = subst (λ es. Continues events es known known) (sym same) (continues-none events known)

-- one call
pub continues-one : (events now : List Event) (old new : CommonsKnown) (call : ShelfCall) (r : ShelfReply) → IsWorkCall call → IsShelfCall call r old new → now ≡ events ++ Shelf call r ∷ []
    → Continues events now old new
continues-one events now old new call r work is are = record {
  more = Shelf call r ∷ [];
  are = are;
  works = λ event among. ⊎_elim (λ same. subst IsWork (sym same) (is_work call r work)) (λ none. absurd none) among;
  gains = gains_one old new call r work is;
}

-- some events, and then others
pub continues-then : (first mid last : List Event) (old between new : CommonsKnown) → Continues first mid old between → Continues mid last between new → Continues first last old new
continues-then first mid last old between new a b = record {
  more = a.more ++ b.more;
  are = b.are ∙ ap (λ es. es ++ b.more) a.are ∙ append_assoc first a.more b.more;
  works = λ event among. ⊎_elim (λ front. a.works event front) (λ back. b.works event back) (among-split event a.more b.more among);
  gains = gains-append on_part on_book old between new a.more b.more a.gains b.gains;
}

-- ---- worn objects

part_none : (old new : CommonsKnown) (at p : ℕ) → AddsOnPart old at [] new → (b : Bool) → nat_eq at p ≡ b → Adds (old.part p) (new.part p) []
part_none old new at p is true same = subst (λ q. Adds (old.part q) (new.part q) []) (eqb-true at p same) is.here
part_none old new at p is false apart =
    let other : p ≢ at = λ same. true≢false (sym (eq-eqb at p (sym same)) ∙ apart) in
    subst (λ k. Adds (old.part p) k []) (sym (is.elsewhere p other)) (adds-none (old.part p))

worn_gains : (old new : CommonsKnown) (at : ℕ) → IsWornPart at old new → GainsEvents old new []
worn_gains old new at is = record {
  parts = λ p. part_none old new at p is.0 (nat_eq at p) refl;
  book = subst (λ k. Adds old.book k []) (sym is.0.book) (adds-none old.book);
}

at_worn : (call : ShelfCall) (old new : CommonsKnown) → IsWorkCall call → IsWornCall call old new → (at : ℕ) × (at < 8) × IsWornPart at old new
at_worn (Look url moment) old new work worn = (part_of url, omega arith, worn)
at_worn (Put url text until) old new work worn = (part_of url, omega arith, worn)
at_worn (Prove url seal) old new work worn = (part_of url, omega arith, worn)
at_worn (Purge moment) old new work worn = absurd work

pub continues-worn : (events now : List Event) (old new : CommonsKnown) (call : ShelfCall) → IsWorkCall call → IsWornCall call old new → now ≡ events → Continues events now old new
continues-worn events now old new call work worn same =
    let at = at_worn call old new work worn in
    record { more = []; are = same ∙ sym (append-nil events); works = λ event none. absurd none; gains = worn_gains old new at.0 at.2 }

pub halt-worn : (old new : CommonsKnown) (call : ShelfCall) (count : ℕ) → IsWorkCall call → IsWornCall call old new → count ≡ call_limit → IsHalt new (halt.Worn count)
halt-worn old new call count work worn is =
    let at = at_worn call old new work worn in
    (is, inr (at.0, at.1, at.2.1 ∙ sym is))

-- want of memory is a halt
pub halt-memory : (known : CommonsKnown) (e : Halt) → e ≡ halt.Memory → IsHalt known e
halt-memory known e is = subst (IsHalt known) (sym is) tt
