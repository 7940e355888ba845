-- One text more of a chain.
use Rattle.std.proofs.Common.{◌≡◌, ◌<◌, ◌≤◌, ◌+◌, ℕ, List, [], ◌∷◌, ◌++◌, length, take, get_or, Bool, true, false, ◌||◌, refl, sym, ap, ap₂, ◌∙◌, append_assoc, append-nil, arith, length-take-le}
use Rattle.std.proofs.lemmas.List.{take_more}
use Rattle.cli_show.specs.Findings.{text_found}
use Rattle.cli_show.specs.Views.{any_refused, entries, entry}

entries-push : (place : ℕ) (texts : List (List ℕ)) (text : List ℕ) → entries place (texts ++ text ∷ []) ≡ entries place texts ++ entry (place + length texts) text
entries-push place [] text =
    let here : place ≡ place + 0 = omega arith in
    append-nil (entry place text) ∙ ap (λ p. entry p text) here
entries-push place (first ∷ texts) text =
    let there : (place + 1) + length texts ≡ place + length (first ∷ texts) = omega arith in
    ap (λ rest. entry place first ++ rest) (entries-push (place + 1) texts text ∙ ap (λ p. entries (place + 1) texts ++ entry p text) there)
    ∙ sym (append_assoc (entry place first) (entries (place + 1) texts) (entry (place + length (first ∷ texts)) text))

pub entries-more : (texts : List (List ℕ)) (i : ℕ) (text d out new : List ℕ) → i < length texts → text ≡ get_or texts i d → out ≡ entries 0 (take i texts) → new ≡ out ++ entry i text
    → new ≡ entries 0 (take (i + 1) texts)
entries-more texts i text d out new within is so_far more =
    let longer : take (i + 1) texts ≡ take i texts ++ text ∷ [] = take_more texts i d within ∙ ap (λ y. take i texts ++ y ∷ []) (sym is) in
    let short : i ≤ length texts = omega (arith, within) in
    let count : 0 + length (take i texts) ≡ i = omega (arith, length-take-le i texts short) in
    more ∙ ap (λ z. z ++ entry i text) so_far ∙ sym (ap (entries 0) longer ∙ entries-push 0 (take i texts) text ∙ ap (λ p. entries 0 (take i texts) ++ entry p text) count)

or-assoc : (a b c : Bool) → (a || (b || c)) ≡ ((a || b) || c)
or-assoc true b c = refl
or-assoc false b c = refl

or-false : (a : Bool) → (a || false) ≡ a
or-false true = refl
or-false false = refl

refused-push : (texts : List (List ℕ)) (text : List ℕ) → any_refused (texts ++ text ∷ []) ≡ (any_refused texts || (text_found text).refused)
refused-push [] text = or-false (text_found text).refused
refused-push (first ∷ texts) text = ap (λ rest. (text_found first).refused || rest) (refused-push texts text) ∙ or-assoc (text_found first).refused (any_refused texts) (text_found text).refused

pub refused-more : (texts : List (List ℕ)) (i : ℕ) (text d : List ℕ) (any refused new : Bool) → i < length texts → text ≡ get_or texts i d → any ≡ any_refused (take i texts)
    → refused ≡ (text_found text).refused → new ≡ (any || refused) → new ≡ any_refused (take (i + 1) texts)
refused-more texts i text d any refused new within is so_far found more =
    let longer : take (i + 1) texts ≡ take i texts ++ text ∷ [] = take_more texts i d within ∙ ap (λ y. take i texts ++ y ∷ []) (sym is) in
    more ∙ ap₂ (λ a b. a || b) so_far found ∙ sym (ap any_refused longer ∙ refused-push (take i texts) text)
