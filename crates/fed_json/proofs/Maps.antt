-- Members whose names rise are a map: what stands under each name determines them.
use Rattle.std.proofs.Common.{◌≡◌, ℕ, List, [], ◌∷◌, Bool, true, false, cond, bytes_eq, Some, None, Ordering, Less, Equal, Greater, nat_cmp, is_eq, refl, sym, ap, ap₂, ◌∙◌}
use Rattle.std.specs.Ordering.{is_lt, ordering_reverse}
use Rattle.std.specs.Cmp.Lexicographic.{slice_cmp}
use Rattle.std.proofs.lemmas.Cmp.{nat_list_cmp_total}
use Rattle.std.proofs.lemmas.Map.Text.{is_eq-slice_cmp}
use Rattle.std.proofs.lemmas.Slice.Eq.{bytes_eq-Decides}
use Rattle.fed_json.specs.declared.tree.Json.{Object}
use Rattle.fed_json.specs.declared.tree.Member.{Member}
use Rattle.fed_json.specs.Forms.{is_before, rising, IsWellFormed}
use Rattle.fed_json.specs.Reading.{member_of}
use Rattle.fed_json.specs.Trees.{find}
use Rattle.fed_json.proofs.Layers.{well_formed-Object}
use Rattle.fed_json.proofs.Booleans.{left_true, both_true}
use Rattle.fed_json.proofs.Names.{names, rising-tail, rising-skip, less}

find-head : (m : Member) (ms : List Member) → find m.name (m ∷ ms) ≡ Some m.value
find-head m ms = ap (λ b. cond b (Some m.value) (find m.name ms)) ((bytes_eq-Decides m.name m.name).1 refl)

-- a name before another is another
before_differs : (q a : List ℕ) → is_before q a ≡ true → bytes_eq a q ≡ false
before_differs q a e = sym (is_eq-slice_cmp a q) ∙ ap is_eq (nat_list_cmp_total.antisymm a q ∙ ap ordering_reverse (less _ e))

-- nothing stands under a name before the others
pub find-before : (q : List ℕ) (ms : List Member) → rising (q ∷ names ms) ≡ true → find q ms ≡ None
find-before q [] rise = refl
find-before q (m ∷ ms) rise =
    ap (λ b. cond b (Some m.value) (find q ms)) (before_differs q m.name (left_true (is_before q m.name) _ rise)) ∙ find-before q ms (rising-skip q m.name (names ms) rise)

unfit : (m : Member) (ms others : List Member) → rising (m.name ∷ names others) ≡ true → ((q : List ℕ) → find q (m ∷ ms) ≡ find q others) → ⊥
unfit m ms others rise same = let wrong : Some m.value ≡ None = sym (find-head m ms) ∙ same m.name ∙ find-before m.name others rise in cc

tails : (b : Bool) (q : List ℕ) (m n : Member) (ms ns : List Member) → bytes_eq m.name q ≡ b → m.name ≡ n.name → rising (names (m ∷ ms)) ≡ true → rising (names (n ∷ ns)) ≡ true
    → find q (m ∷ ms) ≡ find q (n ∷ ns) → find q ms ≡ find q ns
tails true q m n ms ns is named left right same =
    let here : m.name ≡ q = (bytes_eq-Decides m.name q).0 is in
    find-before q ms (ap (λ x. rising (x ∷ names ms)) (sym here) ∙ left) ∙ sym (find-before q ns (ap (λ x. rising (x ∷ names ns)) (sym here ∙ named) ∙ right))
tails false q m n ms ns is named left right same =
    sym (ap (λ b. cond b (Some m.value) (find q ms)) is) ∙ same ∙ ap (λ b. cond b (Some n.value) (find q ns)) (ap (λ x. bytes_eq x q) (sym named) ∙ is)

heads : (o : Ordering) (m n : Member) (ms ns : List Member) → slice_cmp nat_cmp m.name n.name ≡ o → rising (names (m ∷ ms)) ≡ true → rising (names (n ∷ ns)) ≡ true
    → ((q : List ℕ) → find q (m ∷ ms) ≡ find q (n ∷ ns)) → (((q : List ℕ) → find q ms ≡ find q ns) → ms ≡ ns) → m ∷ ms ≡ n ∷ ns
heads Less m n ms ns is left right same later = absurd (unfit m ms (n ∷ ns) (both_true (ap is_lt is) right) same)
heads Equal m n ms ns is left right same later =
    let named : m.name ≡ n.name = (bytes_eq-Decides m.name n.name).0 (sym (is_eq-slice_cmp m.name n.name) ∙ ap is_eq is) in
    let both : Some m.value ≡ Some n.value = sym (find-head m ms) ∙ same m.name ∙ ap (λ q. find q (n ∷ ns)) named ∙ find-head n ns in
    let valued : m.value ≡ n.value = cc in
    let member : m ≡ n = ap₂ member_of named valued in
    ap₂ (λ x xs. x ∷ xs) member (later (λ q. tails (bytes_eq m.name q) q m n ms ns refl named left right (same q)))
heads Greater m n ms ns is left right same later =
    absurd (unfit n ns (m ∷ ms) (both_true (ap is_lt (nat_list_cmp_total.antisymm n.name m.name ∙ ap ordering_reverse is)) left) (λ q. sym (same q)))

one_map : (ms ns : List Member) → rising (names ms) ≡ true → rising (names ns) ≡ true → ((q : List ℕ) → find q ms ≡ find q ns) → ms ≡ ns
one_map [] [] left right same = refl
one_map [] (n ∷ ns) left right same = absurd (unfit n ns [] refl (λ q. sym (same q)))
one_map (m ∷ ms) [] left right same = absurd (unfit m ms [] refl same)
one_map (m ∷ ms) (n ∷ ns) left right same =
    heads _ m n ms ns refl left right same (one_map ms ns (rising-tail m.name (names ms) left) (rising-tail n.name (names ns) right))

-- well formed objects that have the same value under each name are equal
pub same_objects : (ms ns : List Member) → IsWellFormed (Object ms) → IsWellFormed (Object ns) → ((q : List ℕ) → find q ms ≡ find q ns) → Object ms ≡ Object ns
same_objects ms ns left right same =
    ap Object (one_map ms ns (left_true (rising (names ms)) _ (sym (well_formed-Object ms) ∙ left)) (left_true (rising (names ns)) _ (sym (well_formed-Object ns) ∙ right)) same)
