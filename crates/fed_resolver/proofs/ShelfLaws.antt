-- Where each Prove is made with a pair that verifies, each key that a Hit shows verifies its text.
use Rattle.std.proofs.Common.{◌≡◌, ℕ, List, [], ◌∷◌, take, Bool, true, false, cond, Some, inl, inr, refl, sym, ap, ◌∙◌, subst}
use Rattle.std.specs.Prelude.{bytes_eq}
use Rattle.std.specs.List.{list_any}
use Rattle.sealed.specs.Seals.{IsSealed, Pair, pair_of}
use Rattle.turn_log.specs.Runs.{Runs}
use Rattle.statement_shelf.specs.declared.calls.ShelfCall.{ShelfCall}
use Rattle.statement_shelf.specs.declared.calls.ShelfCall.TheVariants.{Look, Put, Prove, Purge}
use Rattle.statement_shelf.specs.declared.calls.ShelfReply.{ShelfReply}
use Rattle.statement_shelf.specs.declared.calls.ShelfReply.TheVariants.{Hit, Miss, Done, Gone, Dropped, Memory}
use Rattle.statement_shelf.specs.Entries.{Entry, Part, add_key, entry_at, max_proved, put_first, unproved, with_key, without, written}
use Rattle.statement_shelf.specs.Shelf.{ShelfStep}
use Rattle.statement_shelf.proofs.Looking.{entry_at-append, entry_at-take, entry_at-without, entry_at-written, first_is, first_not}
use Rattle.chain_climb.specs.Elements.{Among}
use Rattle.fed_resolver.specs.Worlds.{ProvesSealed}
use Rattle.fed_resolver.proofs.ElementLaws.{among-take}

abbrev pub IsSealedUnder : List ℕ → List ℕ → Type 0
IsSealedUnder text key = IsSealed (pair_of text key)

-- the text verifies under each key
abbrev pub AreSealed : List ℕ → List (List ℕ) → Type 0
AreSealed text keys = (key : List ℕ) → Among key keys → IsSealedUnder text key

-- each entry's text does
abbrev pub AllSealed : Part → Type 0
AllSealed part = (u : List ℕ) (x : Entry) → entry_at u part ≡ Some x → AreSealed x.text x.keys

-- what a Hit shows does
abbrev pub HitSealed : ShelfCall → ShelfReply → Type 0
HitSealed (Look url moment) (Hit proven) = AreSealed proven.text proven.keys
HitSealed call reply = Unit {0}

by_test : {P : Type 0} (b : Bool) → (b ≡ true → P) → (b ≡ false → P) → P
by_test true passes fails = passes refl
by_test false passes fails = fails refl

none-sealed : AllSealed []
none-sealed u x found = absurd (cc)

look-sealed : (url : List ℕ) (e : Entry) (old : Part) → AllSealed old → entry_at url old ≡ Some e → AllSealed ((url, e) ∷ without url old)
look-sealed url e old all found u x h = by_test (bytes_eq u url)
    (λ same. let is = first_is u url e x (without url old) same h in all u x (ap (λ k. entry_at k old) is.1 ∙ found ∙ ap Some (sym is.0)))
    (λ apart. all u x (sym (entry_at-without u url old apart) ∙ first_not u url e x (without url old) apart h))

put-sealed : (url text : List ℕ) (until : ℕ) (old : Part) → AllSealed old → AllSealed (put_first url (unproved text until) old)
unfolding put_first
put-sealed url text until old all u x h =
    let e = unproved text until in
    let found = entry_at-take u 32 ((url, e) ∷ without url old) x h in
    by_test (bytes_eq u url)
    (λ same. let is = first_is u url e x (without url old) same found in λ key among. absurd (subst (λ (y : Entry). Among key y.keys) is.0 among))
    (λ apart. all u x (sym (entry_at-without u url old apart) ∙ first_not u url e x (without url old) apart found))

added-by : (text key : List ℕ) (keys : List (List ℕ)) (b : Bool) → AreSealed text keys → IsSealedUnder text key → AreSealed text (cond b keys (take max_proved (key ∷ keys)))
added-by text key keys true all one = all
added-by text key keys false all one = λ k among. one-of k (among-take k max_proved (key ∷ keys) among)
  where
    one-of : (k : List ℕ) → Among k (key ∷ keys) → IsSealedUnder text k
    one-of k (inl same) = subst (IsSealedUnder text) (sym same) one
    one-of k (inr among) = all k among

added-sealed : (text key : List ℕ) (keys : List (List ℕ)) → AreSealed text keys → IsSealedUnder text key → AreSealed text (add_key key keys)
unfolding add_key
added-sealed text key keys all one = added-by text key keys (list_any (λ k. bytes_eq k key) keys) all one

prove-sealed : (url : List ℕ) (seal : Pair) (e : Entry) (old : Part) → AllSealed old → entry_at url old ≡ Some e → e.text ≡ seal.text → IsSealed seal
    → AllSealed (written url (with_key seal.public e) old)
prove-sealed url seal e old all found text sealed u x h = elim (entry_at-written u url old (with_key seal.public e) x h) [
  | inl same ↦ all u x same
  | inr new ↦
      subst (λ (y : Entry). AreSealed y.text y.keys) (sym new.0)
      (added-sealed e.text seal.public e.keys (all url e found) (subst (λ t. IsSealedUnder t seal.public) (sym text) sealed))
]

step-sealed : (old : Part) (call : ShelfCall) (reply : ShelfReply) (new : Part) → AllSealed old → ProvesSealed call → ShelfStep old call reply new → HitSealed call reply × AllSealed new
step-sealed old (Look url moment) (Hit proven) new all sealed (e, live, shows, is) = (
  subst (λ t. AreSealed t proven.keys) (sym shows.0) (subst (AreSealed e.text) (sym shows.1) (all url e live.0)),
  subst AllSealed (sym is) (look-sealed url e old all live.0),
)
step-sealed old (Look url moment) Miss new all sealed (none, is) = (tt, subst AllSealed (sym is) all)
step-sealed old (Look url moment) Memory new all sealed is = (tt, subst AllSealed (sym is) all)
step-sealed old (Put url text until) Done new all sealed is = (tt, subst AllSealed (sym is) (put-sealed url text until old all))
step-sealed old (Put url text until) Memory new all sealed is = (tt, subst AllSealed (sym is) all)
step-sealed old (Prove url seal) Done new all sealed (e, holds, is, verifies) = (tt, subst AllSealed (sym is) (prove-sealed url seal e old all holds.0 holds.1 sealed))
step-sealed old (Prove url seal) Gone new all sealed (none, is, verifies) = (tt, subst AllSealed (sym is) all)
step-sealed old (Purge moment) (Dropped n) new all sealed purged = (tt, λ u x h. all u x (ap (entry_at u) purged.split ∙ entry_at-append u new purged.gone x h))
step-sealed old call reply new all sealed step = absurd step

-- the calls of a run
abbrev pub Calls : Type 0
Calls = List (ShelfCall × ShelfReply)

-- in a run from a part whose keys verify, each Hit shows keys that do
hits-from : (old last : Part) (calls : Calls) → AllSealed old → ((e : ShelfCall × ShelfReply) → Among e calls → ProvesSealed e.0) → Runs ShelfStep old calls last
    → (e : ShelfCall × ShelfReply) → Among e calls → HitSealed e.0 e.1
hits-from old last [] all sealed runs e among = absurd among
hits-from old last (d ∷ calls) all sealed (next, step, runs) e (inl same) =
    subst (λ (x : ShelfCall × ShelfReply). HitSealed x.0 x.1) (sym same) (step-sealed old d.0 d.1 next all (sealed d (inl refl)) step).0
hits-from old last (d ∷ calls) all sealed (next, step, runs) e (inr among) =
    hits-from next last calls (step-sealed old d.0 d.1 next all (sealed d (inl refl)) step).1 (λ x there. sealed x (inr there)) runs e among

-- and so from the empty part
pub hits-sealed : (last : Part) (calls : Calls) → ((e : ShelfCall × ShelfReply) → Among e calls → ProvesSealed e.0) → Runs ShelfStep [] calls last
    → (e : ShelfCall × ShelfReply) → Among e calls → HitSealed e.0 e.1
hits-sealed last calls sealed runs = hits-from [] last calls none-sealed sealed runs
