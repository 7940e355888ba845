-- Lines that are put together piece by piece.
use Rattle.std.proofs.Common.{◌≡◌, ◌<◌, ℕ, ◌+◌, List, [], ◌∷◌, ◌++◌, length, take, map, flat_map, get_or, decimal, Result, Ok, Err, OnOk, sym, ap, ap₂, ◌∙◌, append_assoc, append-nil}
use Rattle.std.proofs.lemmas.List.{map-append, take_more}

-- ---- a line more for each thing of a list

flat_map-push : {Y : Type 0} (f : Y → List ℕ) (ys : List Y) (y : Y) → flat_map f (ys ++ y ∷ []) ≡ flat_map f ys ++ f y
flat_map-push f [] y = append-nil (f y)
flat_map-push f (z ∷ ys) y = ap (λ r. f z ++ r) (flat_map-push f ys y) ∙ sym (append_assoc (f z) (flat_map f ys) (f y))

pub lines-more : {X Y : Type 0} (f : Y → List ℕ) (g : X → Y) (xs : List X) (i : ℕ) (x : X) (start out new line : List ℕ) → i < length xs → x ≡ get_or xs i x
    → out ≡ start ++ flat_map f (map g (take i xs)) → new ≡ out ++ line → line ≡ f (g x) → new ≡ start ++ flat_map f (map g (take (i + 1) xs))
lines-more f g xs i x start out new line within is so_far more says =
    let longer : take (i + 1) xs ≡ take i xs ++ x ∷ [] = take_more xs i x within ∙ ap (λ y. take i xs ++ y ∷ []) (sym is) in
    more ∙ ap₂ (λ o l. o ++ l) so_far says ∙ append_assoc start (flat_map f (map g (take i xs))) (f (g x))
    ∙ ap (λ ls. start ++ ls) (sym (ap (λ ys. flat_map f (map g ys)) longer ∙ ap (flat_map f) (map-append g (take i xs) (x ∷ [])) ∙ flat_map-push f (map g (take i xs)) (g x)))

-- ---- pieces of one line

pub two-pieces : {X E : Type 0} (r : Result X E) (out mid new first second all : List ℕ) → mid ≡ out ++ first → OnOk r (new ≡ mid ++ second) → all ≡ first ++ second → OnOk r (new ≡ out ++ all)
two-pieces (Ok x) out mid new first second all begun ended is = ended ∙ ap (λ m. m ++ second) begun ∙ append_assoc out first second ∙ ap (λ t. out ++ t) (sym is)
two-pieces (Err e) out mid new first second all begun ended is = tt

pub same-piece : {X E : Type 0} (r : Result X E) (out new a b : List ℕ) → OnOk r (new ≡ out ++ a) → a ≡ b → OnOk r (new ≡ out ++ b)
same-piece (Ok x) out new a b made is = made ∙ ap (λ t. out ++ t) is
same-piece (Err e) out new a b made is = tt

-- a number of an address, and what stands behind it
pub octet-before : {X E : Type 0} (r : Result X E) (out mid new : List ℕ) (n b : ℕ) (rest : List ℕ) → mid ≡ out ++ (decimal n ++ b ∷ []) → OnOk r (new ≡ mid ++ rest)
    → OnOk r (new ≡ out ++ (decimal n ++ (b ∷ rest)))
octet-before r out mid new n b rest begun ended = two-pieces r out mid new (decimal n ++ b ∷ []) rest (decimal n ++ (b ∷ rest)) begun ended (sym (append_assoc (decimal n) (b ∷ []) rest))
