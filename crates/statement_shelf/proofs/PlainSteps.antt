-- What the calls of a plain part reply and leave.
use Rattle.std.proofs.Common.{◌≡◌, ◌≤◌, ℕ, List, ◌∷◌, take, Some, None, sym, ap, ◌∙◌, arith}
use Rattle.std.specs.List.{insert}
use Rattle.statement_shelf.specs.Entries.{Entry, Part, entry_at, without, put_first, unproved}
use Rattle.statement_shelf.specs.Shelf.{IsLive, Holds}

pub none-live : (url : List ℕ) (moment : ℕ) (part : Part) → entry_at url part ≡ None → (e : Entry) → IsLive part url moment e → ⊥
none-live url moment part none e live = let both : Some e ≡ None = sym live.0 ∙ none in cc

pub ended-not-live : (url : List ℕ) (moment : ℕ) (part : Part) (x : Entry) → entry_at url part ≡ Some x → x.until ≤ moment → (e : Entry) → IsLive part url moment e → ⊥
ended-not-live url moment part x found ended e live =
    let both : Some x ≡ Some e = sym found ∙ live.0 in
    let same : x ≡ e = cc in
    let until = ap (λ y. y.until) same in
    let early = live.1 in
    omega (arith, until, early, ended)

pub none-held : (url text : List ℕ) (part : Part) → entry_at url part ≡ None → (e : Entry) → Holds part url text e → ⊥
none-held url text part none e holds = let both : Some e ≡ None = sym holds.0 ∙ none in cc

pub other-not-held : (url text : List ℕ) (part : Part) (x : Entry) → entry_at url part ≡ Some x → (x.text ≡ text → ⊥) → (e : Entry) → Holds part url text e → ⊥
other-not-held url text part x found apart e holds =
    let both : Some x ≡ Some e = sym found ∙ holds.0 in
    let same : x ≡ e = cc in
    apart (ap (λ y. y.text) same ∙ holds.1)

pub put-front : (url text : List ℕ) (until : ℕ) (old kept inserted new : Part) (e : Entry) → e ≡ unproved text until → kept ≡ without url old → inserted ≡ insert kept 0 (url, e) → new ≡ take 32 inserted
    → new ≡ put_first url (unproved text until) old
unfolding put_first
put-front url text until old kept inserted new e fresh out in_front cut =
    cut ∙ ap (take 32) (in_front ∙ ap (λ l. insert l 0 (url, e)) out ∙ ap (λ x. (url, x) ∷ without url old) fresh)
