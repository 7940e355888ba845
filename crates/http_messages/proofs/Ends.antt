-- Where the head of a message ends.
use Rattle.std.proofs.Common.{◌≡◌, ◌≤◌, ◌<◌, ℕ, zero, suc, ◌+◌, ◌-◌, Bool, true, false, List, [], ◌∷◌, ◌++◌, length, take, drop, nat_eq, cond, Option, Some, None, refl, sym, ap, ◌∙◌, subst, arith, drop_of_length-le}
use Rattle.std.specs.List.{starts_with}
use Rattle.std.proofs.lemmas.List.{drop-drop, length-drop}
use Rattle.http_messages.specs.Heads.{head_end, behind, blank}

pub behind_twice : (a b : ℕ) (o : Option ℕ) → behind a (behind b o) ≡ behind (a + b) o
behind_twice a b None = refl
behind_twice a b (Some n) = ap Some (omega arith)

pub behind_none : (o : Option ℕ) → behind 0 o ≡ o
behind_none None = refl
behind_none (Some n) = ap Some (omega arith)

first_no : (y : List ℕ) → 0 < length y → starts_with nat_eq y blank ≡ false → head_end y ≡ behind 1 (head_end (drop 1 y))
unfolding head_end
first_no [] h e = absurd (omega arith)
first_no (b ∷ bs) h e = ap (λ t. cond t (Some 4) (behind 1 (head_end bs))) e

first_yes : (y : List ℕ) → 0 < length y → starts_with nat_eq y blank ≡ true → head_end y ≡ Some 4
unfolding head_end
first_yes [] h e = absurd (omega arith)
first_yes (b ∷ bs) h e = ap (λ t. cond t (Some 4) (behind 1 (head_end bs))) e

pub none_there : (x : List ℕ) (i : ℕ) → i < length x → starts_with nat_eq (drop i x) blank ≡ false → head_end x ≡ behind i (head_end (drop i x)) → head_end x ≡ behind (i + 1) (head_end (drop (i + 1) x))
none_there x i h e before =
    let inside : 0 < length (drop i x) = omega (arith, length-drop i x) in
    before ∙ ap (behind i) (first_no (drop i x) inside e ∙ ap (λ y. behind 1 (head_end y)) (drop-drop 1 i x)) ∙ behind_twice i 1 _

pub found_there : (x : List ℕ) (i : ℕ) → i < length x → starts_with nat_eq (drop i x) blank ≡ true → head_end x ≡ behind i (head_end (drop i x)) → Some (i + 4) ≡ head_end x
found_there x i h e before =
    let inside : 0 < length (drop i x) = omega (arith, length-drop i x) in
    sym (before ∙ ap (behind i) (first_yes (drop i x) inside e))

pub none_left : (x : List ℕ) (i : ℕ) → length x ≤ i → head_end x ≡ behind i (head_end (drop i x)) → None ≡ head_end x
unfolding head_end
none_left x i h before = sym (before ∙ ap (λ y. behind i (head_end y)) (drop_of_length-le x h))

-- fewer than four bytes begin with no head
short_front : (x : List ℕ) → length x < 4 → starts_with nat_eq x blank ≡ false
short_front [] h = refl
short_front (b ∷ []) h = grind arith
short_front (b ∷ c ∷ []) h = grind arith
short_front (b ∷ c ∷ d ∷ []) h = grind arith
short_front (b ∷ c ∷ d ∷ e ∷ x) h = absurd (omega arith)

pub short_end : (x : List ℕ) → length x < 4 → head_end x ≡ None
unfolding head_end
short_end [] h = refl
short_end (b ∷ bs) h = ap (λ t. cond t (Some 4) (behind 1 (head_end bs))) (short_front (b ∷ bs) h) ∙ ap (behind 1) (short_end bs (omega arith))

none_parts : (t : Bool) (o : Option ℕ) → cond t (Some 4) (behind 1 o) ≡ None → (t ≡ false) × (o ≡ None)
none_parts true o e = cc
none_parts false None e = (refl, refl)
none_parts false (Some n) e = cc

-- where there is none, the first bytes needn't be looked at again
pub skip : (n : ℕ) (x more : List ℕ) → n ≤ length x - 3 → head_end x ≡ None → head_end (x ++ more) ≡ behind n (head_end (drop n (x ++ more)))
unfolding head_end
skip zero x more h e = sym (behind_none (head_end (x ++ more)))
skip (suc m) [] more h e = absurd (omega arith)
skip (suc m) (b ∷ []) more h e = absurd (omega arith)
skip (suc m) (b ∷ c ∷ []) more h e = absurd (omega arith)
skip (suc m) (b ∷ c ∷ d ∷ []) more h e = absurd (omega arith)
skip (suc m) (b ∷ c ∷ d ∷ f ∷ bs) more h e =
    let rest : List ℕ = c ∷ d ∷ f ∷ bs in
    let p = none_parts (starts_with nat_eq (b ∷ rest) blank) (head_end rest) e in
    let one : 1 + m ≡ suc m = omega arith in
    ap (λ t. cond t (Some 4) (behind 1 (head_end (rest ++ more)))) p.0
    ∙ ap (behind 1) (skip m rest more (omega arith) p.1)
    ∙ behind_twice 1 m _
    ∙ ap (λ k. behind k (head_end (drop m (rest ++ more)))) one

some_cond : (t : Bool) (o p : Option ℕ) (n : ℕ) → cond t (Some 4) (behind 1 o) ≡ Some n → ((m : ℕ) → o ≡ Some m → p ≡ Some m) → cond t (Some 4) (behind 1 p) ≡ Some n
some_cond true o p n e f = e
some_cond false None p n e f = cc
some_cond false (Some m) p n e f = ap (behind 1) (f m refl) ∙ e

-- what is found stays found
pub found_more : (x more : List ℕ) (n : ℕ) → head_end x ≡ Some n → head_end (x ++ more) ≡ Some n
unfolding head_end
found_more [] more n e = cc
found_more (b ∷ []) more n e = let s = short_end (b ∷ []) (omega arith) in cc
found_more (b ∷ c ∷ []) more n e = let s = short_end (b ∷ c ∷ []) (omega arith) in cc
found_more (b ∷ c ∷ d ∷ []) more n e = let s = short_end (b ∷ c ∷ d ∷ []) (omega arith) in cc
found_more (b ∷ c ∷ d ∷ f ∷ bs) more n e =
    let rest : List ℕ = c ∷ d ∷ f ∷ bs in
    some_cond (starts_with nat_eq (b ∷ rest) blank) (head_end rest) (head_end (rest ++ more)) n e (λ m found. found_more (c ∷ d ∷ f ∷ bs) more m found)

some_le : (t : Bool) (o : Option ℕ) (n l : ℕ) → cond t (Some 4) (behind 1 o) ≡ Some n → (t ≡ true → 4 ≤ l) → ((m : ℕ) → o ≡ Some m → m + 1 ≤ l) → n ≤ l
some_le true o n l e f g = let k : 4 ≡ n = cc in let h = f refl in omega arith
some_le false None n l e f g = cc
some_le false (Some m) n l e f g = let k : 1 + m ≡ n = cc in let h = g m refl in omega arith

pub end_inside : (x : List ℕ) (n : ℕ) → head_end x ≡ Some n → n ≤ length x
unfolding head_end
end_inside [] n e = cc
end_inside (b ∷ []) n e = let s = short_end (b ∷ []) (omega arith) in cc
end_inside (b ∷ c ∷ []) n e = let s = short_end (b ∷ c ∷ []) (omega arith) in cc
end_inside (b ∷ c ∷ d ∷ []) n e = let s = short_end (b ∷ c ∷ d ∷ []) (omega arith) in cc
end_inside (b ∷ c ∷ d ∷ f ∷ bs) n e =
    let rest : List ℕ = c ∷ d ∷ f ∷ bs in
    some_le (starts_with nat_eq (b ∷ rest) blank) (head_end rest) n _ e (λ _. omega arith) (λ m found. let i = end_inside (c ∷ d ∷ f ∷ bs) m found in omega arith)

-- a head has at least its four last bytes
four_case : (t : Bool) (o : Option ℕ) (n : ℕ) → cond t (Some 4) (behind 1 o) ≡ Some n → ((m : ℕ) → o ≡ Some m → 4 ≤ m) → 4 ≤ n
four_case true o n e f = let k : 4 ≡ n = cc in omega arith
four_case false None n e f = cc
four_case false (Some m) n e f = let k : 1 + m ≡ n = cc in let h = f m refl in omega arith

pub four_in : (x : List ℕ) (n : ℕ) → head_end x ≡ Some n → 4 ≤ n
unfolding head_end
four_in [] n e = cc
four_in (b ∷ bs) n e = four_case (starts_with nat_eq (b ∷ bs) blank) (head_end bs) n e (λ m found. four_in bs m found)

alone_case : (t : Bool) (o p : Option ℕ) (n : ℕ) → cond t (Some 4) (behind 1 o) ≡ Some n → ((m : ℕ) → o ≡ Some m → n ≡ 1 + m → p ≡ Some m) → cond t (Some 4) (behind 1 p) ≡ Some n
alone_case true o p n e f = e
alone_case false None p n e f = cc
alone_case false (Some m) p n e f = let k : n ≡ 1 + m = cc in ap (behind 1) (f m refl k) ∙ e

-- what is found ends with what it was found by
pub found_alone : (x : List ℕ) (n : ℕ) → head_end x ≡ Some n → head_end (take n x) ≡ Some n
unfolding head_end
found_alone [] n e = cc
found_alone (b ∷ []) n e = let s = short_end (b ∷ []) (omega arith) in cc
found_alone (b ∷ c ∷ []) n e = let s = short_end (b ∷ c ∷ []) (omega arith) in cc
found_alone (b ∷ c ∷ d ∷ []) n e = let s = short_end (b ∷ c ∷ d ∷ []) (omega arith) in cc
found_alone (b ∷ c ∷ d ∷ f ∷ bs) zero e = let k = four_in (b ∷ c ∷ d ∷ f ∷ bs) zero e in absurd (omega arith)
found_alone (b ∷ c ∷ d ∷ f ∷ bs) (suc zero) e = let k = four_in (b ∷ c ∷ d ∷ f ∷ bs) (suc zero) e in absurd (omega arith)
found_alone (b ∷ c ∷ d ∷ f ∷ bs) (suc (suc zero)) e = let k = four_in (b ∷ c ∷ d ∷ f ∷ bs) (suc (suc zero)) e in absurd (omega arith)
found_alone (b ∷ c ∷ d ∷ f ∷ bs) (suc (suc (suc zero))) e = let k = four_in (b ∷ c ∷ d ∷ f ∷ bs) (suc (suc (suc zero))) e in absurd (omega arith)
found_alone (b ∷ c ∷ d ∷ f ∷ bs) (suc (suc (suc (suc k)))) e =
    alone_case (starts_with nat_eq (b ∷ c ∷ d ∷ f ∷ bs) blank) (head_end (c ∷ d ∷ f ∷ bs)) (head_end (take (suc (suc (suc k))) (c ∷ d ∷ f ∷ bs))) _ e (λ m found is.
    let same : m ≡ suc (suc (suc k)) = omega (arith, is) in
    subst (λ j. head_end (take j (c ∷ d ∷ f ∷ bs)) ≡ Some m) same (found_alone (c ∷ d ∷ f ∷ bs) m found))
