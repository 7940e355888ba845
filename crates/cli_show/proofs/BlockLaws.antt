-- Pieces between brackets, each on a line of its own.
use Rattle.std.proofs.Common.{◌≡◌, ◌<◌, ◌+◌, length, ℕ, List, [], ◌∷◌, ◌++◌, map, take, get_or, flat_map, Result, refl, sym, ap, ap₂, ◌∙◌, subst, append_assoc, append-nil, arith}
use Rattle.std.specs.Prelude.{OnOk}
use Rattle.std.proofs.lemmas.List.{map_push, take_more}
use Rattle.std.proofs.lemmas.Grind.{flat_map-append}
use Rattle.cli_show.specs.Indented.{block, enclosed, inset, inset_by, led, level}
use Rattle.cli_show.proofs.MarginLaws.{Stays, inset-append, inset-deeper}

-- one piece more
led-more : {X : Type 0} (f : X → List ℕ) (xs : List X) (i : ℕ) (x : X) → i < length xs → x ≡ get_or xs i x
    → flat_map led (map f (take (i + 1) xs)) ≡ flat_map led (map f (take i xs)) ++ led (f x)
led-more f xs i x within is =
    let longer : take (i + 1) xs ≡ take i xs ++ x ∷ [] = take_more xs i x within ∙ ap (λ y. take i xs ++ y ∷ []) (sym is) in
    ap (λ l. flat_map led (map f l)) longer ∙ ap (flat_map led) (map_push f (take i xs) x) ∙ flat_map-append led (map f (take i xs)) (f x ∷ [])
    ∙ ap (λ z. flat_map led (map f (take i xs)) ++ z) (append-nil (led (f x)))

-- pieces behind an opening bracket, the first without its comma
abbrev pub opened : ℕ → List ℕ → List ℕ
opened opening [] = []
opened opening (comma ∷ lines) = opening ∷ lines

-- what stands before the next piece
abbrev pub next : ℕ → List ℕ → ℕ
next opening [] = opening
next opening (comma ∷ lines) = 44

opened-more : (o : ℕ) (pieces p : List ℕ) → opened o (pieces ++ led p) ≡ opened o pieces ++ (next o pieces ∷ 10 ∷ p)
opened-more o [] p = refl
opened-more o (comma ∷ lines) p = refl

next-more : (o : ℕ) (pieces p : List ℕ) → next o (pieces ++ led p) ≡ 44
next-more o [] p = refl
next-more o (comma ∷ lines) p = refl

next-stays : (o : ℕ) (pieces : List ℕ) → Stays o → Stays (next o pieces)
next-stays o [] stays = stays
next-stays o (comma ∷ lines) stays = λ m rest. refl

-- one piece more
pub piece-shown : {X : Type 0} (f : X → List ℕ) (xs : List X) (i : ℕ) (x : X) (o before : ℕ) (m m' old text new : List ℕ) → Stays o → m' ≡ m → i < length xs → x ≡ get_or xs i x
    → text ≡ old ++ inset_by m (opened o (flat_map led (map f (take i xs)))) → before ≡ next o (flat_map led (map f (take i xs)))
    → new ≡ text ++ (before ∷ 10 ∷ (m' ++ inset_by m' (f x))) → new ≡ old ++ inset_by m (opened o (flat_map led (map f (take (i + 1) xs))))
piece-shown f xs i x o before m m' old text new stays deep within is so_far leads more =
    let pieces : List ℕ = flat_map led (map f (take i xs)) in
    let whole : inset_by m (opened o (flat_map led (map f (take (i + 1) xs)))) ≡ inset_by m (opened o pieces) ++ (next o pieces ∷ 10 ∷ (m ++ inset_by m (f x))) =
    ap (λ y. inset_by m (opened o y)) (led-more f xs i x within is) ∙ ap (inset_by m) (opened-more o pieces (f x))
    ∙ inset-append m (opened o pieces) (next o pieces ∷ 10 ∷ f x) ∙ ap (λ y. inset_by m (opened o pieces) ++ y) (next-stays o pieces stays m (10 ∷ f x)) in
    more ∙ ap (λ i. text ++ (before ∷ 10 ∷ (i ++ inset_by i (f x)))) deep ∙ ap₂ (λ t b. t ++ (b ∷ 10 ∷ (m ++ inset_by m (f x)))) so_far leads
    ∙ append_assoc old (inset_by m (opened o pieces)) (next o pieces ∷ 10 ∷ (m ++ inset_by m (f x))) ∙ sym (ap (λ y. old ++ y) whole)

pub piece-leads : {X : Type 0} (f : X → List ℕ) (xs : List X) (i : ℕ) (x : X) (o : ℕ) → i < length xs → x ≡ get_or xs i x
    → 44 ≡ next o (flat_map led (map f (take (i + 1) xs)))
piece-leads f xs i x o within is =
    sym (ap (next o) (led-more f xs i x within is) ∙ next-more o (flat_map led (map f (take i xs))) (f x))

-- the end of a block of one piece at least
enclosed-shown : (o c : ℕ) (m pieces : List ℕ) → Stays o → Stays c → 0 < length pieces
    → inset_by m (enclosed o c pieces) ≡ inset_by (m ++ level) (opened o pieces) ++ (10 ∷ (m ++ c ∷ []))
enclosed-shown o c m [] opens closes some = absurd (omega arith)
enclosed-shown o c m (comma ∷ lines) opens closes some =
    opens m (inset lines ++ 10 ∷ c ∷ []) ∙ ap (λ y. o ∷ y) (inset-append m (inset lines) (10 ∷ c ∷ [])
    ∙ ap₂ (λ a b. a ++ (10 ∷ (m ++ b))) (inset-deeper m lines) (closes m []))
    ∙ sym (ap (λ y. y ++ (10 ∷ (m ++ c ∷ []))) (opens (m ++ level) lines))

pieces-some : {X : Type 0} (f : X → List ℕ) (xs : List X) → 0 < length xs → 0 < length (flat_map led (map f xs))
pieces-some f [] some = some
pieces-some f (x ∷ xs) some = omega arith

pub block-shown : {E : Type 0} {X : Type 0} (result : Result Unit E) (f : X → List ℕ) (xs ys : List X) (o c : ℕ) (m inner old text new : List ℕ) → Stays o → Stays c
    → 0 < length xs → ys ≡ xs → inner ≡ m ++ level → text ≡ old ++ inset_by inner (opened o (flat_map led (map f ys)))
    → OnOk result (new ≡ text ++ (10 ∷ (m ++ c ∷ []))) → OnOk result (new ≡ old ++ inset_by m (block o c (map f xs)))
block-shown result f xs ys o c m inner old text new opens closes some all deep so_far ended =
    let pieces : List ℕ = flat_map led (map f xs) in
    let whole : text ++ (10 ∷ (m ++ c ∷ [])) ≡ old ++ inset_by m (block o c (map f xs)) =
    ap (λ t. t ++ (10 ∷ (m ++ c ∷ []))) (so_far ∙ ap₂ (λ i y. old ++ inset_by i (opened o (flat_map led (map f y)))) deep all)
    ∙ append_assoc old (inset_by (m ++ level) (opened o pieces)) (10 ∷ (m ++ c ∷ []))
    ∙ ap (λ y. old ++ y) (sym (enclosed-shown o c m pieces opens closes (pieces-some f xs some))) in
    subst (λ y. OnOk result (new ≡ y)) whole ended
