-- What each call on a part keeps.
use Rattle.std.proofs.Common.{◌≡◌, ◌≤◌, ℕ, List, [], ◌∷◌, ◌++◌, length, Some, sym, ap, ◌∙◌, subst, arith, length-append}
use Rattle.std.specs.Prelude.{bytes_eq, All, IfSome}
use Rattle.std.specs.Map.{values_of}
use Rattle.std.proofs.lemmas.List.{take-map}
use Rattle.std.proofs.lemmas.List.Elements.{All-cons, All-head, All-tail, All-nil, All-take}
use Rattle.std.proofs.lemmas.Map.{length-set_value}
use Rattle.std.proofs.lemmas.Map.Views.{All-map-remove_entry, All-values-set_value, IfSome-lookup_from_All}
use Rattle.turn_log.specs.Runs.{Runs}
use Rattle.statement_shelf.specs.Entries.{Entry, Part, entry_at, without, written, put_first, unproved, with_key, max_entries, max_proved}
use Rattle.statement_shelf.specs.Shelf.{ShelfStep}
use Rattle.statement_shelf.specs.Laws.{IsSmall}
use Rattle.statement_shelf.specs.declared.calls.ShelfCall.{ShelfCall}
use Rattle.statement_shelf.specs.declared.calls.ShelfCall.TheVariants.{Look, Put, Prove, Purge}
use Rattle.statement_shelf.specs.declared.calls.ShelfReply.{ShelfReply}
use Rattle.statement_shelf.specs.declared.calls.ShelfReply.TheVariants.{Hit, Miss, Done, Gone, Dropped, Memory}
use Rattle.statement_shelf.proofs.KeyLaws.{few_added, short}
use Rattle.statement_shelf.proofs.PartLaws.{length-without}

-- ---- small parts

abbrev FewKeys : Entry → Type 0
FewKeys e = length e.keys ≤ max_proved

few-found : (url : List ℕ) (part : Part) (e : Entry) → IsSmall part → entry_at url part ≡ Some e → FewKeys e
few-found url part e small h = subst (λ o. IfSome o FewKeys) h (IfSome-lookup_from_All FewKeys (bytes_eq url) part small.1)

few-without : (url : List ℕ) (part : Part) → IsSmall part → All FewKeys (values_of (without url part))
few-without url part small = All-map-remove_entry (bytes_eq url) (λ p. p.1) FewKeys part small.1

look-small : (url : List ℕ) (old : Part) (e : Entry) → IsSmall old → entry_at url old ≡ Some e → IsSmall ((url, e) ∷ without url old)
look-small url old e small h =
    let shorter = length-without url old e h in
    let size = small.0 in
    (omega (arith, shorter, size), All-cons FewKeys e (values_of (without url old)) (few-found url old e small h) (few-without url old small))

put-small : (url text : List ℕ) (until : ℕ) (old : Part) → IsSmall old → IsSmall (put_first url (unproved text until) old)
unfolding put_first
put-small url text until old small =
    let all = All-cons FewKeys (unproved text until) (values_of (without url old)) (omega arith) (few-without url old small) in
    (short 32 ((url, unproved text until) ∷ without url old), subst (All FewKeys) (take-map (λ p. p.1) 32 ((url, unproved text until) ∷ without url old)) (All-take FewKeys 32 (unproved text until ∷ values_of (without url old)) all))

prove-small : (url key : List ℕ) (old : Part) (e : Entry) → IsSmall old → entry_at url old ≡ Some e → IsSmall (written url (with_key key e) old)
prove-small url key old e small h = (
  subst (λ n. n ≤ max_entries) (sym (length-set_value (bytes_eq url) old (with_key key e))) small.0,
  All-values-set_value (bytes_eq url) FewKeys old (with_key key e) small.1 (few_added key e.keys (few-found url old e small h)),
)

few-front : (front gone : Part) → All FewKeys (values_of (front ++ gone)) → All FewKeys (values_of front)
few-front [] gone all = All-nil FewKeys
few-front (p ∷ front) gone all = All-cons FewKeys p.1 (values_of front) (All-head FewKeys p.1 (values_of (front ++ gone)) all) (few-front front gone (All-tail FewKeys p.1 (values_of (front ++ gone)) all))

purge-small : (old new gone : Part) → IsSmall old → old ≡ new ++ gone → IsSmall new
purge-small old new gone small split =
    let size = ap length split ∙ length-append new gone in
    let few = small.0 in
    (omega (arith, size, few), few-front new gone (subst (λ p. All FewKeys (values_of p)) split small.1))

pub step-small : (old : Part) (call : ShelfCall) (reply : ShelfReply) (new : Part) → IsSmall old → ShelfStep old call reply new → IsSmall new
step-small old (Look url moment) (Hit proven) new small step = subst IsSmall (sym step.3) (look-small url old step.0 small step.1.0)
step-small old (Look url moment) Miss new small step = subst IsSmall (sym step.1) small
step-small old (Look url moment) Done new small step = absurd step
step-small old (Look url moment) Gone new small step = absurd step
step-small old (Look url moment) (Dropped n) new small step = absurd step
step-small old (Look url moment) Memory new small step = subst IsSmall (sym step) small
step-small old (Put url text until) (Hit proven) new small step = absurd step
step-small old (Put url text until) Miss new small step = absurd step
step-small old (Put url text until) Done new small step = subst IsSmall (sym step) (put-small url text until old small)
step-small old (Put url text until) Gone new small step = absurd step
step-small old (Put url text until) (Dropped n) new small step = absurd step
step-small old (Put url text until) Memory new small step = subst IsSmall (sym step) small
step-small old (Prove url seal) (Hit proven) new small step = absurd step
step-small old (Prove url seal) Miss new small step = absurd step
step-small old (Prove url seal) Done new small step = subst IsSmall (sym step.2) (prove-small url seal.public old step.0 small step.1.0)
step-small old (Prove url seal) Gone new small step = subst IsSmall (sym step.1) small
step-small old (Prove url seal) (Dropped n) new small step = absurd step
step-small old (Prove url seal) Memory new small step = absurd step
step-small old (Purge moment) (Hit proven) new small step = absurd step
step-small old (Purge moment) Miss new small step = absurd step
step-small old (Purge moment) Done new small step = absurd step
step-small old (Purge moment) Gone new small step = absurd step
step-small old (Purge moment) (Dropped n) new small step = purge-small old new step.gone small step.split
step-small old (Purge moment) Memory new small step = absurd step

pub run-small : (calls : List (ShelfCall × ShelfReply)) (old new : Part) → IsSmall old → Runs ShelfStep old calls new → IsSmall new
run-small [] old new small run = subst IsSmall (sym run) small
run-small (e ∷ es) old new small run = run-small es run.0 new (step-small old e.0 e.1 run.0 small run.1) run.2

pub none-small : IsSmall []
none-small = (omega arith, All-nil FewKeys)
