-- What a part tells was put there.
use Rattle.std.proofs.Common.{◌≡◌, ◌<◌, ℕ, Bool, true, false, cond, List, [], ◌∷◌, Option, Some, None, inl, inr, refl, sym, ap, ◌∙◌, subst}
use Rattle.std.specs.Prelude.{bytes_eq}
use Rattle.std.specs.Option.{option_or}
use Rattle.fed_json.proofs.Order.{bytes_eq-itself}
use Rattle.turn_log.specs.Runs.{Runs}
use Rattle.statement_shelf.specs.Entries.{Entry, Part, entry_at, without, written, put_first, unproved, with_key}
use Rattle.statement_shelf.specs.Shelf.{ShelfStep}
use Rattle.statement_shelf.specs.Laws.{TellsUnproved, put_by, last_put}
use Rattle.statement_shelf.specs.declared.calls.Proven.{Proven}
use Rattle.statement_shelf.specs.declared.calls.ShelfCall.{ShelfCall}
use Rattle.statement_shelf.specs.declared.calls.ShelfCall.TheVariants.{Look, Put, Prove, Purge}
use Rattle.statement_shelf.specs.declared.calls.ShelfReply.{ShelfReply}
use Rattle.statement_shelf.specs.declared.calls.ShelfReply.TheVariants.{Hit, Miss, Done, Gone, Dropped, Memory}
use Rattle.statement_shelf.proofs.Looking.{entry_at-without, entry_at-written, entry_at-take, entry_at-append, first_is, first_not}

-- ---- a Look right after a Put

put-found : (url : List ℕ) (e : Entry) (old : Part) → entry_at url (put_first url e old) ≡ Some e
unfolding put_first
put-found url e old = rw (bytes_eq-itself url) refl

told-put : (put new : Part) (url text : List ℕ) (until moment : ℕ) (reply : ShelfReply) → moment < until → entry_at url put ≡ Some (unproved text until)
    → ShelfStep put (Look url moment) reply new → TellsUnproved text reply
told-put put new url text until moment (Hit proven) early found step =
    let is : step.0 ≡ unproved text until = let both : Some step.0 ≡ Some (unproved text until) = sym step.1.0 ∙ found in cc in
    (step.2.0 ∙ ap (λ e. e.text) is, step.2.1 ∙ ap (λ e. e.keys) is)
told-put put new url text until moment Miss early found step = step.0 (unproved text until) (found, early)
told-put put new url text until moment Done early found step = step
told-put put new url text until moment Gone early found step = step
told-put put new url text until moment (Dropped n) early found step = step
told-put put new url text until moment Memory early found step = tt

pub put-is-told : (old new : Part) (url text : List ℕ) (until moment : ℕ) (reply : ShelfReply) → moment < until
    → Runs ShelfStep old ((Put url text until, Done) ∷ (Look url moment, reply) ∷ []) new → TellsUnproved text reply
put-is-told old new url text until moment reply early run =
    let put = run.0 in
    let found : entry_at url put ≡ Some (unproved text until) = ap (entry_at url) run.1 ∙ put-found url (unproved text until) old in
    told-put put run.2.0 url text until moment reply early found run.2.1

-- ---- what is told was put last

-- each entry is what was put last under its URL
abbrev Agrees : (List ℕ → Option (List ℕ × ℕ)) → Part → Type 0
Agrees last part = (u : List ℕ) (x : Entry) → entry_at u part ≡ Some x → last u ≡ Some (x.text, x.until)

-- what was put last, after a call
abbrev after : (List ℕ → Option (List ℕ × ℕ)) → ShelfCall → ShelfReply → List ℕ → Option (List ℕ × ℕ)
after last call reply u = option_or (put_by u call reply) (last u)

by_test : {P : Type 0} (b : Bool) → (b ≡ true → P) → (b ≡ false → P) → P
by_test true passes fails = passes refl
by_test false passes fails = fails refl

look-agrees : (last : List ℕ → Option (List ℕ × ℕ)) (url : List ℕ) (e : Entry) (old : Part) → Agrees last old → entry_at url old ≡ Some e → Agrees last ((url, e) ∷ without url old)
look-agrees last url e old agrees found u x h = by_test (bytes_eq u url)
    (λ same. let is = first_is u url e x (without url old) same h in agrees u x (ap (λ k. entry_at k old) is.1 ∙ found ∙ ap Some (sym is.0)))
    (λ apart. agrees u x (sym (entry_at-without u url old apart) ∙ first_not u url e x (without url old) apart h))

put-agrees : (last : List ℕ → Option (List ℕ × ℕ)) (url text : List ℕ) (until : ℕ) (old : Part) → Agrees last old
    → Agrees (after last (Put url text until) Done) (put_first url (unproved text until) old)
unfolding put_first
put-agrees last url text until old agrees u x h =
    let e = unproved text until in
    let found = entry_at-take u 32 ((url, e) ∷ without url old) x h in
    by_test (bytes_eq u url)
    (λ same. let is = first_is u url e x (without url old) same found in
    ap (λ b. option_or (cond b (Some (text, until)) None) (last u)) same ∙ ap (λ y. Some (y.text, y.until)) (sym is.0))
    (λ apart. ap (λ b. option_or (cond b (Some (text, until)) None) (last u)) apart ∙ agrees u x (sym (entry_at-without u url old apart) ∙ first_not u url e x (without url old) apart found))

prove-agrees : (last : List ℕ → Option (List ℕ × ℕ)) (url key : List ℕ) (e : Entry) (old : Part) → Agrees last old → entry_at url old ≡ Some e → Agrees last (written url (with_key key e) old)
prove-agrees last url key e old agrees found u x h = elim (entry_at-written u url old (with_key key e) x h) [
  | inl same ↦ agrees u x same
  | inr new ↦ agrees u e (ap (λ k. entry_at k old) new.1 ∙ found) ∙ ap (λ y. Some (y.text, y.until)) (sym new.0)
]

step-agrees : (last : List ℕ → Option (List ℕ × ℕ)) (old : Part) (call : ShelfCall) (reply : ShelfReply) (new : Part) → Agrees last old → ShelfStep old call reply new → Agrees (after last call reply) new
step-agrees last old (Look url moment) (Hit proven) new agrees step = subst (Agrees last) (sym step.3) (look-agrees last url step.0 old agrees step.1.0)
step-agrees last old (Look url moment) Miss new agrees step = subst (Agrees last) (sym step.1) agrees
step-agrees last old (Look url moment) Done new agrees step = absurd step
step-agrees last old (Look url moment) Gone new agrees step = absurd step
step-agrees last old (Look url moment) (Dropped n) new agrees step = absurd step
step-agrees last old (Look url moment) Memory new agrees step = subst (Agrees last) (sym step) agrees
step-agrees last old (Put url text until) (Hit proven) new agrees step = absurd step
step-agrees last old (Put url text until) Miss new agrees step = absurd step
step-agrees last old (Put url text until) Done new agrees step = subst (Agrees (after last (Put url text until) Done)) (sym step) (put-agrees last url text until old agrees)
step-agrees last old (Put url text until) Gone new agrees step = absurd step
step-agrees last old (Put url text until) (Dropped n) new agrees step = absurd step
step-agrees last old (Put url text until) Memory new agrees step = subst (Agrees last) (sym step) agrees
step-agrees last old (Prove url seal) (Hit proven) new agrees step = absurd step
step-agrees last old (Prove url seal) Miss new agrees step = absurd step
step-agrees last old (Prove url seal) Done new agrees step = subst (Agrees last) (sym step.2) (prove-agrees last url seal.public step.0 old agrees step.1.0)
step-agrees last old (Prove url seal) Gone new agrees step = subst (Agrees last) (sym step.1) agrees
step-agrees last old (Prove url seal) (Dropped n) new agrees step = absurd step
step-agrees last old (Prove url seal) Memory new agrees step = absurd step
step-agrees last old (Purge moment) (Hit proven) new agrees step = absurd step
step-agrees last old (Purge moment) Miss new agrees step = absurd step
step-agrees last old (Purge moment) Done new agrees step = absurd step
step-agrees last old (Purge moment) Gone new agrees step = absurd step
step-agrees last old (Purge moment) (Dropped n) new agrees step = λ u x h. agrees u x (ap (entry_at u) step.split ∙ entry_at-append u new step.gone x h)
step-agrees last old (Purge moment) Memory new agrees step = absurd step

or_assoc : {X : Type 0} (a b c : Option X) → option_or a (option_or b c) ≡ option_or (option_or a b) c
or_assoc None b c = refl
or_assoc (Some a) b c = refl

run-agrees : (last : List ℕ → Option (List ℕ × ℕ)) (calls : List (ShelfCall × ShelfReply)) (old new : Part) → Agrees last old → Runs ShelfStep old calls new
    → Agrees (λ u. option_or (last_put u calls) (last u)) new
run-agrees last [] old new agrees run = subst (Agrees last) (sym run) agrees
run-agrees last (e ∷ es) old new agrees run = λ u x h.
    sym (or_assoc (last_put u es) (put_by u e.0 e.1) (last u)) ∙ run-agrees (after last e.0 e.1) es run.0 new (step-agrees last old e.0 e.1 run.0 agrees run.1) run.2 u x h

or_none : {X : Type 0} (a : Option X) → a ≡ option_or a None
or_none None = refl
or_none (Some a) = refl

pub hit-is-last-put : (calls : List (ShelfCall × ShelfReply)) (part new : Part) (url : List ℕ) (moment : ℕ) (proven : Proven) → Runs ShelfStep [] calls part
    → ShelfStep part (Look url moment) (Hit proven) new → (until : ℕ) × (last_put url calls ≡ Some (proven.text, until)) × (moment < until)
hit-is-last-put calls part new url moment proven run step =
    let e = step.0 in
    let nothing : Agrees (λ u. None) [] = λ u x h. cc in
    let told = run-agrees (λ u. None) calls [] part nothing run url e step.1.0 in
    (e.until, or_none (last_put url calls) ∙ told ∙ ap (λ t. Some (t, e.until)) (sym step.2.0), step.1.1)
