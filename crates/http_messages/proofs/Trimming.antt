-- White space around a text.
use Rattle.std.proofs.Common.{◌≡◌, ◌≤◌, ◌<◌, ℕ, ◌+◌, ◌-◌, true, false, List, [], ◌∷◌, length, take, get_or, if◌then◌else◌, sym, ap, ◌∙◌, arith}
use Rattle.std.specs.Prelude.{reverse}
use Rattle.std.proofs.lemmas.List.{reverse-append, reverse-reverse, take_more}
use Rattle.httparse.specs.Grammar.{is_ows, skip_ows}

last_first : (x : List ℕ) (n : ℕ) → 0 < n → n ≤ length x → reverse (take n x) ≡ get_or x (n - 1) 0 ∷ reverse (take (n - 1) x)
last_first x n some inside =
    let one : n ≡ (n - 1) + 1 = omega (arith, some) in
    ap (λ k. reverse (take k x)) one ∙ ap reverse (take_more x (n - 1) 0 (omega (arith, some, inside))) ∙ reverse-append (take (n - 1) x) (get_or x (n - 1) 0 ∷ [])

-- a byte of white space at the end is passed over
pub one_back : (x : List ℕ) (n : ℕ) → 0 < n → n ≤ length x → is_ows (get_or x (n - 1) 0) ≡ true → skip_ows (reverse (take n x)) ≡ skip_ows (reverse (take (n - 1) x))
one_back x n some inside ows =
    ap skip_ows (last_first x n some inside) ∙ ap (λ t. if t then skip_ows (reverse (take (n - 1) x)) else get_or x (n - 1) 0 ∷ reverse (take (n - 1) x)) ows

-- any other byte ends it
pub last_back : (x : List ℕ) (n : ℕ) → 0 < n → n ≤ length x → is_ows (get_or x (n - 1) 0) ≡ false → skip_ows (reverse (take n x)) ≡ skip_ows (reverse x) → take n x ≡ reverse (skip_ows (reverse x))
last_back x n some inside other same =
    let stays : skip_ows (reverse (take n x)) ≡ reverse (take n x) =
    ap skip_ows (last_first x n some inside) ∙ ap (λ t. if t then skip_ows (reverse (take (n - 1) x)) else get_or x (n - 1) 0 ∷ reverse (take (n - 1) x)) other ∙ sym (last_first x n some inside) in
    sym (reverse-reverse (take n x)) ∙ ap reverse (sym stays ∙ same)
