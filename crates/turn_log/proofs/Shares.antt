-- Shares that are added, and who is alone where one holds the whole.
use Rattle.std.proofs.Common.{◌≡◌, ◌≢◌, ◌⊎◌, ℕ, ◌+◌, ◌*◌, ◌<◌, ◌≤◌, zero, suc, List, [], ◌∷◌, ◌++◌, length, map, set, refl, sym, ap, ap₂, ◌∙◌, subst, ⊎_elim, inl, inr, arith}
use mathlib.Core.Option.{Option as Maybe, some, some-injective, some-ne-none}
use lib.ListN.{get_elem?}
use Rattle.atomic_table.proofs.Lists.{set_else}
use Rattle.turn_log.specs.Shares.{IsShare, IsWhole, added, all_of, halved, no_share}
use Rattle.turn_log.specs.declared.view.Share.{Share}

-- ---- two shares

pub share_is : (a b : Share) → a.units ≡ b.units → a.total ≡ b.total → a ≡ b
share_is a b e f = λ i. record { units = e i; total = f i }

pub added_no : (s : Share) → added no_share s ≡ s
added_no s = share_is (added no_share s) s (omega arith) (omega arith)

pub added_no_right : (s : Share) → added s no_share ≡ s
added_no_right s = share_is (added s no_share) s (omega arith) (omega arith)

pub added_swap : (a b c : Share) → added a (added b c) ≡ added b (added a c)
added_swap a b c = share_is (added a (added b c)) (added b (added a c)) (omega arith) (omega arith)

pub added_assoc : (a b c : Share) → added (added a b) c ≡ added a (added b c)
added_assoc a b c = share_is (added (added a b) c) (added a (added b c)) (omega arith) (omega arith)

-- halves of what completes a share complete it
pub halves_whole : (s rest : Share) → IsWhole (added s rest) → IsWhole (added (halved s) (added (halved s) rest))
halves_whole s rest whole =
    let e : s.units * rest.total + rest.units * s.total ≡ s.total * rest.total = whole in
    let four : (s.units * rest.total + rest.units * s.total) * (4 * s.total) ≡ (s.total * rest.total) * (4 * s.total) = ap (λ (n : ℕ). n * (4 * s.total)) e in
    omega (arith, four)

-- who holds the whole leaves nothing
rest_none : (u t v w : ℕ) → u ≡ t → u * w + v * t ≡ t * w → v * t ≡ 0
rest_none u t v w whole e = let m : u * w ≡ t * w = ap (λ (n : ℕ). n * w) whole in omega (arith, e, m)

no_product : (v t : ℕ) → v * t ≡ 0 → 0 < t → v ≡ 0
no_product zero t e more = refl
no_product (suc v) t e more = absurd (omega (arith, e))

some_product : (v t : ℕ) → 0 < v → 0 < t → 0 < v * t
some_product zero t a b = absurd (omega arith)
some_product (suc v) t a b = omega arith

pub none_left : (s rest : Share) → IsWhole s → 0 < s.total → IsWhole (added s rest) → rest.units ≡ 0
none_left s rest whole more all = no_product rest.units s.total (rest_none s.units s.total rest.units rest.total whole all) more

pub halved_share : (s : Share) → IsShare s → IsShare (halved s)
halved_share s is = let l = is.total in let m = is.limited in record { some = is.some; total = omega arith; limited = omega arith }

-- a half isn't the whole
pub half_not_whole : (s : Share) → IsShare s → IsWhole (halved s) → ⊥
half_not_whole s is whole = let l = is.total in let m = is.limited in let e : s.units ≡ s.total + s.total = whole in omega (arith, e)

pub added_share : (a b : Share) → IsShare a → IsShare b → (added a b).units ≤ (added a b).total → IsShare (added a b)
added_share a b is other limited =
    let l = some_product a.units b.total is.some other.total in
    record { some = omega (arith, l); total = some_product a.total b.total is.total other.total; limited = limited }

-- where two together hold none, each does
pub added_none : (a b : Share) → 0 < a.total → 0 < b.total → (added a b).units ≡ 0 → (a.units ≡ 0) × (b.units ≡ 0)
added_none a b h k none =
    let left : a.units * b.total ≡ 0 = omega (arith, none) in
    let right : b.units * a.total ≡ 0 = omega (arith, none) in
    (no_product a.units b.total left k, no_product b.units a.total right h)

le_product : (u t w : ℕ) → u * w ≤ t * w → 0 < w → u ≤ t
le_product zero t w h more = omega arith
le_product (suc u) zero w h more = absurd (omega (arith, h))
le_product (suc u) (suc t) w h more = let l : u * w ≤ t * w = omega (arith, h) in let r = le_product u t w l more in omega arith

-- what completes a share leaves it no more units than there are
part_limited : (s rest : Share) → 0 < rest.total → IsWhole (added s rest) → s.units ≤ s.total
part_limited s rest more whole =
    let e : s.units * rest.total + rest.units * s.total ≡ s.total * rest.total = whole in
    le_product s.units s.total rest.total (omega (arith, e)) more

pub total_positive : (a b : Share) → 0 < a.total → 0 < b.total → 0 < (added a b).total
total_positive a b h k = some_product a.total b.total h k

-- ---- many shares

-- each total is positive
abbrev pub AreCounted : List Share → Type 0
AreCounted shares = (i : ℕ) (s : Share) → get_elem? shares i ≡ some s → 0 < s.total

tail_counted : (s : Share) (shares : List Share) → AreCounted (s ∷ shares) → AreCounted shares
tail_counted s shares h i t at = h (suc i) t at

all_total : (shares : List Share) → AreCounted shares → 0 < (all_of shares).total
all_total [] h = omega arith
all_total (s ∷ shares) h = some_product s.total (all_of shares).total (h 0 s refl) (all_total shares (tail_counted s shares h))

-- where all together are none, each is
pub each_none : (shares : List Share) (i : ℕ) (s : Share) → AreCounted shares → get_elem? shares i ≡ some s → (all_of shares).units ≡ 0 → s.units ≡ 0
each_none [] i s h at none = absurd (some-ne-none s (sym at))
each_none (t ∷ shares) zero s h at none =
    let left : t.units * (all_of shares).total ≡ 0 = omega (arith, none) in
    ap (λ (x : Share). x.units) (sym (some-injective t s at)) ∙ no_product t.units (all_of shares).total left (all_total shares (tail_counted t shares h))
each_none (t ∷ shares) (suc i) s h at none =
    let right : (all_of shares).units * t.total ≡ 0 = omega (arith, none) in
    each_none shares i s (tail_counted t shares h) at (no_product (all_of shares).units t.total right (h 0 t refl))

-- one of them, and the others
abbrev pub rest_of : List Share → ℕ → Share
rest_of shares i = all_of (set shares i no_share)

pub one_and_rest : (shares : List Share) (i : ℕ) (s : Share) → get_elem? shares i ≡ some s → all_of shares ≡ added s (rest_of shares i)
one_and_rest [] i s at = absurd (some-ne-none s (sym at))
one_and_rest (t ∷ shares) zero s at = ap (λ (x : Share). added x (all_of shares)) (some-injective t s at) ∙ ap (added s) (sym (added_no (all_of shares)))
one_and_rest (t ∷ shares) (suc i) s at = ap (added t) (one_and_rest shares i s at) ∙ added_swap t s (rest_of shares i)

pub changed_and_rest : (shares : List Share) (i : ℕ) (s new : Share) → get_elem? shares i ≡ some s → all_of (set shares i new) ≡ added new (rest_of shares i)
changed_and_rest [] i s new at = absurd (some-ne-none s (sym at))
changed_and_rest (t ∷ shares) zero s new at = ap (added new) (sym (added_no (all_of shares)))
changed_and_rest (t ∷ shares) (suc i) s new at = ap (added t) (changed_and_rest shares i s new at) ∙ added_swap t new (rest_of shares i)

pub all_and_one : (shares : List Share) (s : Share) → all_of (shares ++ s ∷ []) ≡ added s (all_of shares)
all_and_one [] s = refl
all_and_one (t ∷ shares) s = ap (added t) (all_and_one shares s) ∙ added_swap t s (all_of shares)

set_set : (shares : List Share) (i j : ℕ) (a b : Share) → i ≢ j → set (set shares i a) j b ≡ set (set shares j b) i a
set_set [] i j a b apart = refl
set_set (t ∷ shares) zero zero a b apart = absurd (apart refl)
set_set (t ∷ shares) zero (suc j) a b apart = refl
set_set (t ∷ shares) (suc i) zero a b apart = refl
set_set (t ∷ shares) (suc i) (suc j) a b apart = ap (λ (l : List Share). t ∷ l) (set_set shares i j a b (λ e. apart (ap suc e)))

-- a share is halved, and the other half added behind
pub split_whole : (shares : List Share) (i : ℕ) (s : Share) → get_elem? shares i ≡ some s → IsWhole (all_of shares) → IsWhole (all_of (set shares i (halved s) ++ halved s ∷ []))
split_whole shares i s at whole =
    let before : IsWhole (added s (rest_of shares i)) = subst IsWhole (one_and_rest shares i s at) whole in
    subst IsWhole (sym (all_and_one (set shares i (halved s)) (halved s) ∙ ap (added (halved s)) (changed_and_rest shares i s (halved s) at))) (halves_whole s (rest_of shares i) before)

-- one share takes in another
pub join_whole : (shares : List Share) (i j : ℕ) (s t : Share) → i ≢ j → get_elem? shares i ≡ some s → get_elem? shares j ≡ some t → IsWhole (all_of shares) → IsWhole (all_of (set (set shares i (added s t)) j no_share))
join_whole shares i j s t apart at there whole =
    let both = added s t in
    let left : List Share = set shares i no_share in
    let there' : get_elem? left j ≡ some t = set_else shares i j no_share (λ e. apart (sym e)) ∙ there in
    let at' : get_elem? (set shares j no_share) i ≡ some s = set_else shares j i no_share apart ∙ at in
    let before : all_of shares ≡ added s (added t (rest_of left j)) = one_and_rest shares i s at ∙ ap (added s) (one_and_rest left j t there') in
    let after : all_of (set (set shares i both) j no_share) ≡ added both (rest_of left j) =
    ap all_of (set_set shares i j both no_share apart) ∙ changed_and_rest (set shares j no_share) i s both at' ∙ ap (λ l. added both (all_of l)) (sym (set_set shares i j no_share no_share apart)) in
    subst IsWhole (before ∙ sym (added_assoc s t (rest_of left j)) ∙ sym after) whole

counted_set : (shares : List Share) (i : ℕ) → AreCounted shares → AreCounted (set shares i no_share)
counted_set [] i counted k u e = absurd (some-ne-none u (sym e))
counted_set (x ∷ xs) zero counted zero u e = subst (λ (y : Share). 0 < y.total) (some-injective no_share u e) (omega arith)
counted_set (x ∷ xs) zero counted (suc k) u e = counted (suc k) u e
counted_set (x ∷ xs) (suc n) counted zero u e = counted 0 u e
counted_set (x ∷ xs) (suc n) counted (suc k) u e = counted_set xs n (tail_counted x xs counted) k u e

-- each holds no more units than there are
pub each_limited : (shares : List Share) (i : ℕ) (s : Share) → AreCounted shares → get_elem? shares i ≡ some s → IsWhole (all_of shares) → s.units ≤ s.total
each_limited shares i s counted at whole = part_limited s (rest_of shares i) (all_total (set shares i no_share) (counted_set shares i counted)) (subst IsWhole (one_and_rest shares i s at) whole)

-- who holds the whole leaves nothing to another
pub others_none : (shares : List Share) (i j : ℕ) (s t : Share) → i ≢ j → AreCounted shares → get_elem? shares i ≡ some s → get_elem? shares j ≡ some t → IsWhole s → IsWhole (all_of shares) → t.units ≡ 0
others_none shares i j s t apart counted at there whole all =
    let rest_none = none_left s (rest_of shares i) whole (counted i s at) (subst IsWhole (one_and_rest shares i s at) all) in
    each_none (set shares i no_share) j t (counted_set shares i counted) (set_else shares i j no_share (λ e. apart (sym e)) ∙ there) rest_none
