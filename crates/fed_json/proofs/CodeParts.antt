-- The codes of a list's parts, as they are written one behind the other.
use Rattle.std.proofs.Common.{◌≡◌, ◌<◌, ◌+◌, ℕ, List, [], ◌∷◌, ◌++◌, length, get_or, take, map, sym, ap, ◌∙◌, append_assoc, append-nil}
use Rattle.std.specs.List.{concat}
use Rattle.std.proofs.lemmas.List.{map_more}
use Rattle.std.proofs.lemmas.List.Folds.{concat-append}

-- one more part
pub parts_more : {X : Type 0} (f : X → List ℕ) (xs : List X) (i : ℕ) (x : X) (start code next : List ℕ) → i < length xs → x ≡ get_or xs i x
    → code ≡ start ++ concat (map f (take i xs)) → next ≡ code ++ f x → next ≡ start ++ concat (map f (take (i + 1) xs))
parts_more f xs i x start code next within is made more =
    let parts = map f (take i xs) in
    let all : concat (map f (take (i + 1) xs)) ≡ concat parts ++ f x =
    ap concat (map_more f xs i x within ∙ ap (λ y. parts ++ f y ∷ []) (sym is)) ∙ concat-append parts (f x ∷ []) ∙ ap (λ c. concat parts ++ c) (append-nil (f x)) in
    more ∙ ap (λ c. c ++ f x) made ∙ append_assoc start (concat parts) (f x) ∙ ap (λ c. start ++ c) (sym all)
