-- What a search by halves finds under a name, where names rise.
use Rattle.std.proofs.Common.{◌≡◌, ◌<◌, ℕ, zero, suc, List, [], ◌∷◌, Some, None, true, false, cond, map, bytes_eq, length, get_or, Less, Equal, Greater, nat_cmp, refl, sym, ap, ◌∙◌, ⊎_elim, add-one, arith}
use Rattle.std.specs.Cmp.Lexicographic.{slice_cmp}
use Rattle.std.specs.List.{HoldsAt, list_all}
use Rattle.std.specs.List.Sorted.{IsNonDecreasingBy, IsPartitionPoint, IsSortedBy}
use Rattle.std.specs.Ordering.{is_lt, ordering_index}
use Rattle.std.proofs.lemmas.Bool.{cases_lt}
use Rattle.std.proofs.lemmas.Cmp.{nat_list_cmp_total}
use Rattle.std.proofs.lemmas.List.Sorted.{searchable_from_sorted}
use Rattle.fed_json.specs.declared.tree.Member.{Member}
use Rattle.fed_json.specs.Forms.{is_before, rising}
use Rattle.fed_json.specs.Tables.{Name}
use Rattle.fed_json.specs.Trees.{find, member_name}
use Rattle.fed_json.proofs.Booleans.{left_true, right_true}
use Rattle.fed_json.proofs.Names.{rising-tail}
use Rattle.fed_json.proofs.Order.{before-cmp_less, before-cmp_greater, bytes_eq-itself, cmp-behind, equal-cmp, first_before, other_before, other_behind}

-- ---- names that rise, by place

next_before : (ms : List Member) (k : ℕ) (d : Member) → suc k < length ms → rising (map member_name ms) ≡ true → is_before (get_or ms k d).name (get_or ms (suc k) d).name ≡ true
next_before [] k d within rise = absurd (omega (arith, within))
next_before (m ∷ []) k d within rise = absurd (omega (arith, within))
next_before (m ∷ n ∷ ms) zero d within rise = left_true (is_before m.name n.name) _ rise
next_before (m ∷ n ∷ ms) (suc k) d within rise = next_before (n ∷ ms) k d (omega (arith, within)) (right_true (is_before m.name n.name) _ rise)

sorted : (ms : List Member) → rising (map member_name ms) ≡ true → IsSortedBy (λ a b. is_lt (slice_cmp nat_cmp a.name b.name)) ms
sorted ms rise k d low within =
    ap (λ i. is_lt (slice_cmp nat_cmp (get_or ms i d).name (get_or ms k d).name)) (add-one k) ∙ ap is_lt (cmp-behind (get_or ms (suc k) d).name (get_or ms k d).name (next_before ms k d (omega (arith, within)) rise))

behind : (a : Name) (ms : List Member) (k : ℕ) (d : Member) → k < length ms → list_all (is_before a) (map member_name ms) ≡ true → is_before a (get_or ms k d).name ≡ true
behind a [] k d within all = absurd (omega (arith, within))
behind a (m ∷ ms) zero d within all = left_true (is_before a m.name) _ all
behind a (m ∷ ms) (suc k) d within all = behind a ms k d (omega (arith, within)) (right_true (is_before a m.name) _ all)

-- ---- the first member of a name, by place

find-none : (name : Name) (ms : List Member) → ((k : ℕ) (d : Member) → k < length ms → bytes_eq (get_or ms k d).name name ≡ false) → find name ms ≡ None
find-none name [] none = refl
find-none name (m ∷ ms) none =
    ap (λ b. cond b (Some m.value) (find name ms)) (none 0 m (omega arith)) ∙ find-none name ms (λ k d within. none (suc k) d (omega (arith, within)))

find-at : (name : Name) (ms : List Member) (k : ℕ) (d : Member) → k < length ms → rising (map member_name ms) ≡ true → (get_or ms k d).name ≡ name → find name ms ≡ Some (get_or ms k d).value
find-at name [] k d within rise is = absurd (omega (arith, within))
find-at name (m ∷ ms) zero d within rise is = ap (λ b. cond b (Some m.value) (find name ms)) (ap (bytes_eq m.name) (sym is) ∙ bytes_eq-itself m.name)
find-at name (m ∷ ms) (suc k) d within rise is =
    let before = ap (is_before m.name) (sym is) ∙ behind m.name ms k d (omega (arith, within)) (first_before m.name (map member_name ms) rise) in
    ap (λ b. cond b (Some m.value) (find name ms)) (other_before m.name name before) ∙ find-at name ms k d (omega (arith, within)) (rising-tail m.name (map member_name ms) rise) is

-- ---- the search

pub found : (name : Name) (ms : List Member) (i : ℕ) (d : Member) → rising (map member_name ms) ≡ true → i < length ms
    → HoldsAt (λ y. slice_cmp nat_cmp y.name name ≡ Equal) ms i → Some (get_or ms i d).value ≡ find name ms
found name ms i d rise within is = sym (find-at name ms i d within rise (equal-cmp (get_or ms i d).name name (is d)))

pub not_found : (name : Name) (ms : List Member) (i : ℕ) → rising (map member_name ms) ≡ true
    → (IsNonDecreasingBy (λ y. ordering_index (slice_cmp nat_cmp y.name name)) ms → IsPartitionPoint (λ y. slice_cmp nat_cmp y.name name ≡ Less) (λ y. slice_cmp nat_cmp y.name name ≡ Greater) ms i)
    → None ≡ find name ms
not_found name ms i rise parts =
    let point = parts (searchable_from_sorted nat_list_cmp_total member_name ms name (sorted ms rise)) in
    sym (find-none name ms (λ k d within.
    ⊎_elim (λ low. other_before (get_or ms k d).name name (before-cmp_less (get_or ms k d).name name (point.0 k d (omega arith) low)))
    (λ high. other_behind (get_or ms k d).name name (before-cmp_greater (get_or ms k d).name name (point.1 k d high within))) (cases_lt k i)))
