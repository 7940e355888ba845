-- Names that rise.
use Rattle.std.proofs.Common.{◌≡◌, ◌<◌, ◌+◌, ℕ, List, [], ◌∷◌, Bool, true, false, ◌&&◌, not, map, drop, length, get_or, refl, sym, ap, ◌∙◌, ◌++◌, ap₂, Ordering, Less, Equal, Greater, nat_cmp}
use Rattle.std.specs.Ordering.{is_lt, ordering_reverse}
use Rattle.std.specs.Cmp.Lexicographic.{slice_cmp}
use Rattle.std.proofs.lemmas.Cmp.{nat_list_cmp_total}
use Rattle.std.proofs.lemmas.List.{drop_more}
use Rattle.fed_json.specs.declared.tree.Member.{Member}
use Rattle.fed_json.specs.Forms.{is_before, rising}
use Rattle.fed_json.proofs.Booleans.{left_true, right_true, both_true}

-- the names of the members
abbrev pub names : List Member → List (List ℕ)
names = map (λ m. m.name)

-- one step along the members
pub rising_step : (ms : List Member) (i : ℕ) (m : Member) (before : List ℕ) → i < length ms → m ≡ get_or ms i m
    → rising (before ∷ names (drop i ms)) ≡ (is_before before m.name && rising (m.name ∷ names (drop (i + 1) ms)))
rising_step ms i m before lt is = ap (λ xs. rising (before ∷ names xs)) (drop_more ms i m lt ∙ ap (λ x. x ∷ drop (i + 1) ms) (sym is))

-- with the test `before >= name`
pub rising_broken : (ms : List Member) (i : ℕ) (m : Member) (before name : List ℕ) → i < length ms → m ≡ get_or ms i m → name ≡ m.name
    → not (is_before before name) ≡ true → rising (before ∷ names (drop i ms)) ≡ false
rising_broken ms i m before name lt is named broken = rising_step ms i m before lt is ∙ lost _ _ (ap (λ n. not (is_before before n)) (sym named) ∙ broken)
  where
    lost : (b c : Bool) → not b ≡ true → (b && c) ≡ false
    lost true c e = absurd (cc)
    lost false c e = refl

pub rising_kept : (ms : List Member) (i : ℕ) (m : Member) (before name : List ℕ) → i < length ms → m ≡ get_or ms i m → name ≡ m.name
    → not (is_before before name) ≡ false → rising (before ∷ names (drop i ms)) ≡ rising (name ∷ names (drop (i + 1) ms))
rising_kept ms i m before name lt is named kept =
    rising_step ms i m before lt is ∙ (held _ _ (ap (λ n. not (is_before before n)) (sym named) ∙ kept) ∙ ap (λ n. rising (n ∷ names (drop (i + 1) ms))) (sym named))
  where
    held : (b c : Bool) → not b ≡ false → (b && c) ≡ c
    held true c e = refl
    held false c e = absurd (cc)

-- ---- the last of names that rise stands behind each of the others

pub less : (o : Ordering) → is_lt o ≡ true → o ≡ Less
less Less e = refl
less Equal e = absurd (cc)
less Greater e = absurd (cc)

pub is_before-trans : (a b c : List ℕ) → is_before a b ≡ true → is_before b c ≡ true → is_before a c ≡ true
is_before-trans a b c e f = ap is_lt (nat_list_cmp_total.trans a b c (less _ e) (less _ f))

-- the first name stands before the one behind the second
pub rising-skip : (a b : List ℕ) (names : List (List ℕ)) → rising (a ∷ b ∷ names) ≡ true → rising (a ∷ names) ≡ true
rising-skip a b [] rise = refl
rising-skip a b (c ∷ names) rise =
    let rest = right_true (is_before a b) _ rise in
    both_true (is_before-trans a b c (left_true (is_before a b) _ rise) (left_true (is_before b c) _ rest)) (right_true (is_before b c) _ rest)

pub rising-tail : (a : List ℕ) (names : List (List ℕ)) → rising (a ∷ names) ≡ true → rising names ≡ true
rising-tail a [] rise = refl
rising-tail a (b ∷ names) rise = right_true (is_before a b) _ rise

before_last : (a : List ℕ) (names : List (List ℕ)) (last : List ℕ) → rising (a ∷ (names ++ last ∷ [])) ≡ true → is_before a last ≡ true
before_last a [] last rise = left_true (is_before a last) _ rise
before_last a (b ∷ names) last rise = is_before-trans a b last (left_true (is_before a b) _ rise) (before_last b names last (right_true (is_before a b) _ rise))

pub last_above : (a : List ℕ) (names : List (List ℕ)) (last : List ℕ) → rising (a ∷ (names ++ last ∷ [])) ≡ true → slice_cmp nat_cmp last a ≡ Greater
last_above a names last rise = nat_list_cmp_total.antisymm last a ∙ ap ordering_reverse (less _ (before_last a names last rise))

-- the first of names that rise do so
pub rising-prefix : (names more : List (List ℕ)) → rising (names ++ more) ≡ true → rising names ≡ true
rising-prefix [] more rise = refl
rising-prefix (a ∷ []) more rise = refl
rising-prefix (a ∷ b ∷ names) more rise = ap₂ (λ x y. x && y) (left_true (is_before a b) _ rise) (rising-prefix (b ∷ names) more (right_true (is_before a b) _ rise))
