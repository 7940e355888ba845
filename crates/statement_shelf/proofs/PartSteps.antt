-- What the calls of a part reply and leave.
use Rattle.std.proofs.Common.{◌≡◌, ◌≤◌, ◌<◌, ℕ, List, ◌∷◌, length, take, Some, None, refl, sym, ap, ◌∙◌, subst, arith}
use Rattle.std.specs.Prelude.{bytes_eq}
use Rattle.std.specs.Map.{set_value}
use Rattle.std.proofs.lemmas.List.{take_all}
use Rattle.std.proofs.lemmas.Map.{length-set_value}
use Rattle.std.proofs.lemmas.Map.Steps.{set_value_same}
use Rattle.sealed.specs.Seals.{IsSealed, Pair}
use Rattle.lru.specs.LruCache.{LruCache, promoted, put_entries}
use Rattle.statement_shelf.specs.Entries.{Entry, Part, entry_at, without, put_first, unproved, with_key, max_entries}
use Rattle.statement_shelf.specs.Shelf.{ShelfStep, Shows}
use Rattle.statement_shelf.specs.declared.calls.Proven.{Proven}
use Rattle.statement_shelf.specs.declared.calls.ShelfCall.TheVariants.{Look, Prove}
use Rattle.statement_shelf.specs.declared.calls.ShelfReply.TheVariants.{Hit, Done, Gone}
use Rattle.statement_shelf.proofs.KeyLaws.{short}
use Rattle.statement_shelf.proofs.PartLaws.{length-without, promoted-first, put-first, written-first}

-- ---- Look

pub look-fits : (url : List ℕ) (old new : Part) (e : Entry) → length old ≤ max_entries → entry_at url old ≡ Some e → new ≡ promoted (bytes_eq url) old → length new ≤ max_entries
look-fits url old new e size found is =
    let shorter = length-without url old e found in
    let long : length new ≡ length ((url, e) ∷ without url old) = ap length (is ∙ promoted-first url old e found) in
    omega (arith, shorter, long, size)

pub look-hit : (url : List ℕ) (moment : ℕ) (old new : Part) (e : Entry) (proven : Proven) → entry_at url old ≡ Some e → moment < e.until → Shows e proven → new ≡ promoted (bytes_eq url) old
    → ShelfStep old (Look url moment) (Hit proven) new
look-hit url moment old new e proven found early shows is = (e, (found, early), shows, is ∙ promoted-first url old e found)

-- ---- Put

pub put-fits : (url : List ℕ) (old : LruCache (List ℕ) Entry) (new : Part) (e : Entry) → old.cap ≡ max_entries → length old.entries ≤ max_entries → new ≡ put_entries bytes_eq old url e → length new ≤ max_entries
unfolding put_first
put-fits url old new e cap size is =
    subst (λ p. length p ≤ max_entries) (sym (is ∙ put-first url old e cap size)) (short 32 ((url, e) ∷ without url old.entries))

pub put-done : (url text : List ℕ) (until : ℕ) (now : Part) (old : LruCache (List ℕ) Entry) (new : Part) (e : Entry) → now ≡ old.entries → old.cap ≡ max_entries → length old.entries ≤ max_entries
    → e ≡ unproved text until → new ≡ put_entries bytes_eq old url e → new ≡ put_first url (unproved text until) now
put-done url text until now old new e view cap size fresh is = is ∙ put-first url old e cap size ∙ ap (λ x. put_first url x old.entries) fresh ∙ ap (put_first url (unproved text until)) (sym view)

pub renew-fits : (url : List ℕ) (old new : Part) (e w : Entry) → length old ≤ max_entries → entry_at url old ≡ Some e → new ≡ set_value (bytes_eq url) (promoted (bytes_eq url) old) w → length new ≤ max_entries
renew-fits url old new e w size found is =
    let kept : length (promoted (bytes_eq url) old) ≤ max_entries = look-fits url old (promoted (bytes_eq url) old) e size found refl in
    subst (λ n. n ≤ max_entries) (sym (ap length is ∙ length-set_value (bytes_eq url) (promoted (bytes_eq url) old) w)) kept

pub renew-done : (url text : List ℕ) (until : ℕ) (now old new : Part) (e w : Entry) → now ≡ old → length old ≤ max_entries → entry_at url old ≡ Some e → w ≡ unproved text until
    → new ≡ set_value (bytes_eq url) (promoted (bytes_eq url) old) w → new ≡ put_first url (unproved text until) now
unfolding put_first
renew-done url text until now old new e w view size found fresh is =
    let shorter = length-without url old e found in
    let all : take 31 (without url old) ≡ without url old = take_all 31 (without url old) (omega (arith, shorter, size)) in
    is ∙ ap (λ p. set_value (bytes_eq url) p w) (promoted-first url old e found) ∙ written-first url (without url old) e w ∙ ap (λ x. (url, x) ∷ without url old) fresh
    ∙ ap (λ q. (url, unproved text until) ∷ q) (sym all) ∙ ap (λ p. take 32 ((url, unproved text until) ∷ without url p)) (sym view)

-- ---- Prove

pub prove-fits : (url : List ℕ) (old : Part) (w : Entry) → length old ≤ max_entries → length (set_value (bytes_eq url) old w) ≤ max_entries
prove-fits url old w size = subst (λ n. n ≤ max_entries) (sym (length-set_value (bytes_eq url) old w)) size

pub prove-done : (url : List ℕ) (seal : Pair) (old new : Part) (e w : Entry) → entry_at url old ≡ Some e → e.text ≡ seal.text → w ≡ with_key seal.public e → new ≡ set_value (bytes_eq url) old w
    → IsSealed seal → ShelfStep old (Prove url seal) Done new
prove-done url seal old new e w found same wrote is sealed = (e, (found, same), is ∙ ap (set_value (bytes_eq url) old) wrote, sealed)

pub prove-missing : (url : List ℕ) (seal : Pair) (old new : Part) → entry_at url old ≡ None → new ≡ old → IsSealed seal → ShelfStep old (Prove url seal) Gone new
prove-missing url seal old new none is sealed = (λ e holds. let both : Some e ≡ None = sym holds.0 ∙ none in cc, is, sealed)

pub prove-other : (url : List ℕ) (seal : Pair) (old new : Part) (e : Entry) → entry_at url old ≡ Some e → (e.text ≡ seal.text → ⊥) → new ≡ set_value (bytes_eq url) old e → IsSealed seal
    → ShelfStep old (Prove url seal) Gone new
prove-other url seal old new e found apart is sealed = (
  λ x holds. let both : Some x ≡ Some e = sym holds.0 ∙ found in let same : x ≡ e = cc in apart (ap (λ y. y.text) (sym same) ∙ holds.1),
  is ∙ set_value_same (bytes_eq url) old e found,
  sealed,
)
