-- Lists as sets: what `is_among` and `once` say.
use Rattle.std.proofs.Common.{◌≡◌, ◌⊎◌, ◌<◌, ◌+◌, ℕ, zero, suc, List, [], ◌∷◌, ◌++◌, Bool, true, false, ◌||◌, not, cond, filter, take, length, get_or, inl, inr, refl, sym, ap, ◌∙◌, subst, true≢false, append-nil, arith}
use Rattle.std.specs.Bool.{Decides}
use Rattle.std.specs.Prelude.{◌≢◌}
use Rattle.std.specs.List.{All, AllPairs, Contains}
use Rattle.std.proofs.lemmas.List.Elements.{filter-append, filter_passes, All-weaker, All-cons, All-head, All-tail, All-filter, All-contains, All-contains_itself, Contains-append_cases, Contains-append_left, Contains-append_right, filter_more}
use Rattle.std.proofs.lemmas.List.Kept.{AllPairs-cons, AllPairs-filter}
use Rattle.fed_json.specs.declared.tree.Json.{Json}
use Rattle.fed_json.specs.Sets.{same, is_among, once, union_of, intersection_of}
use Rattle.fed_json.proofs.Sames.{same-Decides}

-- two trees that differ
apart : (b : Bool) (x y : Json) → same x y ≡ b → ¬ (x ≡ y) → b ≡ false
apart true x y e other = absurd (other ((same-Decides x y).0 e))
apart false x y e other = refl

contains_head : (x : Json) (xs : List Json) → Contains (x ∷ xs) x
contains_head x xs = (0, omega arith, refl)

contains_tail : (x y : Json) (xs : List Json) → Contains xs y → Contains (x ∷ xs) y
contains_tail x y xs h = (suc h.0, omega (arith, h.1), h.2)

contains_cases : (x y : Json) (xs : List Json) → Contains (x ∷ xs) y → (y ≡ x) ⊎ Contains xs y
contains_cases x y xs (zero, lt, is) = inl (sym is)
contains_cases x y xs (suc k, lt, is) = inr (k, omega arith, is)

or_true : (a : Bool) → (a || true) ≡ true
or_true true = refl
or_true false = refl

found_here : (b : Bool) (x y : Json) (xs : List Json) → same y x ≡ b → (is_among xs y ≡ true → Contains xs y) → (b || is_among xs y) ≡ true → Contains (x ∷ xs) y
found_here true x y xs is later e = subst (Contains (x ∷ xs)) (sym ((same-Decides y x).0 is)) (contains_head x xs)
found_here false x y xs is later e = contains_tail x y xs (later e)

among_found : (xs : List Json) (y : Json) → is_among xs y ≡ true → Contains xs y
among_found [] y e = absurd (true≢false (sym e))
among_found (x ∷ xs) y e = found_here (same y x) x y xs refl (among_found xs y) e

found_among : (xs : List Json) (y : Json) → Contains xs y → is_among xs y ≡ true
found_among [] y h = absurd (omega (arith, h.1))
found_among (x ∷ xs) y h = elim (contains_cases x y xs h) [
  | inl e ↦ ap (λ b. b || is_among xs y) ((same-Decides y x).1 e)
  | inr k ↦ ap (λ b. same y x || b) (found_among xs y k) ∙ or_true (same y x)
]

pub is_among-Decides : (xs : List Json) (y : Json) → Decides (is_among xs y) (Contains xs y)
is_among-Decides xs y = (among_found xs y, found_among xs y)

-- ---- without one value

abbrev without : Json → List Json → List Json
without x = filter (λ y. not (same y x))

among_kept : (b : Bool) (x y z : Json) (zs : List Json) → same z x ≡ b → same y x ≡ false → is_among (without x zs) y ≡ is_among zs y
    → is_among (cond (not b) (z ∷ without x zs) (without x zs)) y ≡ (same y z || is_among zs y)
among_kept true x y z zs is other later = later ∙ ap (λ b. b || is_among zs y) (sym (ap (same y) ((same-Decides z x).0 is) ∙ other))
among_kept false x y z zs is other later = ap (λ b. same y z || b) later

-- the others are there as before
among_without : (x y : Json) (zs : List Json) → same y x ≡ false → is_among (without x zs) y ≡ is_among zs y
among_without x y [] other = refl
among_without x y (z ∷ zs) other = among_kept (same z x) x y z zs refl other (among_without x y zs other)

-- ---- each once

among_later : (b : Bool) (x y : Json) (xs : List Json) → same y x ≡ b → is_among (once xs) y ≡ is_among xs y → (b || is_among (without x (once xs)) y) ≡ (b || is_among xs y)
among_later true x y xs is same_rest = refl
among_later false x y xs is same_rest = among_without x y (once xs) is ∙ same_rest

pub is_among-once : (xs : List Json) (y : Json) → is_among (once xs) y ≡ is_among xs y
is_among-once [] y = refl
is_among-once (x ∷ xs) y = among_later (same y x) x y xs refl (is_among-once xs y)

one_alone : (b : Bool) (x y : Json) → same y x ≡ b → without x (y ∷ []) ≡ cond b [] (y ∷ [])
one_alone true x y is = ap (λ b. cond (not b) (y ∷ []) []) is
one_alone false x y is = ap (λ b. cond (not b) (y ∷ []) []) is

pushed : (b c : Bool) (x y : Json) (xs : List Json) → same y x ≡ c → x ∷ without x (cond b (once xs) (once xs ++ y ∷ [])) ≡ cond (c || b) (once (x ∷ xs)) (once (x ∷ xs) ++ y ∷ [])
pushed true c x y xs is = ap (λ d. cond d (once (x ∷ xs)) (once (x ∷ xs) ++ y ∷ [])) (sym (or_true c))
pushed false true x y xs is = ap (λ zs. x ∷ zs) (filter-append (λ z. not (same z x)) (once xs) (y ∷ []) ∙ ap (λ zs. without x (once xs) ++ zs) (one_alone true x y is) ∙ append-nil _)
pushed false false x y xs is = ap (λ zs. x ∷ zs) (filter-append (λ z. not (same z x)) (once xs) (y ∷ []) ∙ ap (λ zs. without x (once xs) ++ zs) (one_alone false x y is))

-- one more value at the end
pub once-push : (xs : List Json) (y : Json) → once (xs ++ y ∷ []) ≡ cond (is_among xs y) (once xs) (once xs ++ y ∷ [])
once-push [] y = refl
once-push (x ∷ xs) y = ap (λ zs. x ∷ without x zs) (once-push xs y) ∙ pushed (is_among xs y) (same y x) x y xs refl

-- ---- what is in a list, by the test

same_answer : (b c : Bool) (P Q : Type 0) → Decides b P → Decides c Q → b ≡ c → (P → Q) × (Q → P)
same_answer b c P Q d e is = (λ p. e.0 (sym is ∙ d.1 p), λ q. d.0 (is ∙ e.1 q))

pub Contains-once : (xs : List Json) (y : Json) → (Contains (once xs) y → Contains xs y) × (Contains xs y → Contains (once xs) y)
Contains-once xs y = same_answer _ _ _ _ (is_among-Decides (once xs) y) (is_among-Decides xs y) (is_among-once xs y)

-- the values that the test keeps are others
others : (x : Json) (zs : List Json) → All (λ z. x ≢ z) (without x zs)
others x zs = All-weaker (λ z. not (same z x) ≡ true) (λ z. x ≢ z) (λ z kept is. true≢false (sym kept ∙ ap not ((same-Decides z x).1 (sym is)))) (without x zs) (filter_passes (λ z. not (same z x)) zs)

pub AllPairs-once : (xs : List Json) → AllPairs (λ x y. x ≢ y) (once xs)
AllPairs-once [] = λ i j d lt within. absurd (omega arith)
AllPairs-once (x ∷ xs) = AllPairs-cons (λ x y. x ≢ y) x (without x (once xs)) (others x (once xs)) (AllPairs-filter (λ x y. x ≢ y) (λ z. not (same z x)) (once xs) (AllPairs-once xs))

pub All-once : (P : Json → Type 0) (xs : List Json) → All P xs → All P (once xs)
All-once P [] all = all
All-once P (x ∷ xs) all = All-cons P x (without x (once xs)) (All-head P x xs all) (All-filter (λ z. not (same z x)) P (once xs) (All-once P xs (All-tail P x xs all)))

-- ---- one more value, as code adds it

absent : (xs : List Json) (y : Json) (b : Bool) → is_among xs y ≡ b → ¬ (Contains (once xs) y) → b ≡ false
absent xs y true is none = absurd (none ((Contains-once xs y).1 (among_found xs y is)))
absent xs y false is none = refl

pub once-push_new : (list before : List Json) (y : Json) → list ≡ once before → ¬ (Contains list y) → list ++ y ∷ [] ≡ once (before ++ y ∷ [])
once-push_new list before y is none =
    let no : is_among before y ≡ false = absent before y _ refl (λ h. none (subst (λ xs. Contains xs y) (sym is) h)) in
    ap (λ xs. xs ++ y ∷ []) is ∙ sym (once-push before y ∙ ap (λ b. cond b (once before) (once before ++ y ∷ [])) no)

pub once-push_known : (list before : List Json) (y : Json) → list ≡ once before → Contains list y → list ≡ once (before ++ y ∷ [])
once-push_known list before y is there =
    let yes : is_among before y ≡ true = found_among before y ((Contains-once before y).0 (subst (λ xs. Contains xs y) is there)) in
    is ∙ sym (once-push before y ∙ ap (λ b. cond b (once before) (once before ++ y ∷ [])) yes)

-- ---- the laws of a union and an intersection

pub Contains-union_of : (a b : List Json) (x : Json) → (Contains (union_of a b) x → Contains a x ⊎ Contains b x) × (Contains a x ⊎ Contains b x → Contains (union_of a b) x)
Contains-union_of a b x = (
  λ h. Contains-append_cases a b x ((Contains-once (a ++ b) x).0 h),
  λ h. (Contains-once (a ++ b) x).1 (elim h [ inl l ↦ Contains-append_left a b x l | inr r ↦ Contains-append_right a b x r ]),
)

kept_head : (b : Bool) (p : Json → Bool) (x y : Json) (xs : List Json) → p x ≡ b → p y ≡ true → (y ≡ x) ⊎ Contains xs y → (Contains xs y → Contains (filter p xs) y)
    → Contains (cond b (x ∷ filter p xs) (filter p xs)) y
kept_head true p x y xs is passes (inl e) later = subst (Contains (x ∷ filter p xs)) (sym e) (contains_head x (filter p xs))
kept_head true p x y xs is passes (inr h) later = contains_tail x y (filter p xs) (later h)
kept_head false p x y xs is passes (inl e) later = absurd (true≢false (sym passes ∙ ap p e ∙ is))
kept_head false p x y xs is passes (inr h) later = later h

contains_filter : (p : Json → Bool) (xs : List Json) (y : Json) → p y ≡ true → Contains xs y → Contains (filter p xs) y
contains_filter p [] y passes h = h
contains_filter p (x ∷ xs) y passes h = kept_head (p x) p x y xs refl passes (contains_cases x y xs h) (contains_filter p xs y passes)

pub Contains-intersection_of : (a b : List Json) (x : Json) → (Contains (intersection_of a b) x → Contains a x × Contains b x) × (Contains a x × Contains b x → Contains (intersection_of a b) x)
Contains-intersection_of a b x = (
  λ h. let kept = (Contains-once (filter (is_among b) a) x).0 h in (
    All-contains (Contains a) (filter (is_among b) a) x (All-filter (is_among b) (Contains a) a (All-contains_itself a)) kept,
    among_found b x (All-contains (λ z. is_among b z ≡ true) (filter (is_among b) a) x (filter_passes (is_among b) a) kept),
  ),
  λ h. (Contains-once (filter (is_among b) a) x).1 (contains_filter (is_among b) a x (found_among b x h.1) h.0),
)

-- one more value of a, where it is in b or not
pub once-more_in : (list a b : List Json) (i : ℕ) (y : Json) → i < length a → y ≡ get_or a i y → Contains b y
    → list ≡ once (filter (is_among b) (take i a) ++ y ∷ []) → list ≡ once (filter (is_among b) (take (i + 1) a))
once-more_in list a b i y lt is there added =
    added ∙ ap once (sym (filter_more (is_among b) a i y lt ∙ ap (λ z. filter (is_among b) (take i a) ++ cond (is_among b z) (z ∷ []) []) (sym is)
    ∙ ap (λ c. filter (is_among b) (take i a) ++ cond c (y ∷ []) []) (found_among b y there)))

pub once-more_out : (list a b : List Json) (i : ℕ) (y : Json) → i < length a → y ≡ get_or a i y → ¬ (Contains b y)
    → list ≡ once (filter (is_among b) (take i a)) → list ≡ once (filter (is_among b) (take (i + 1) a))
once-more_out list a b i y lt is none same_list =
    same_list ∙ ap once (sym (filter_more (is_among b) a i y lt ∙ ap (λ z. filter (is_among b) (take i a) ++ cond (is_among b z) (z ∷ []) []) (sym is)
    ∙ ap (λ c. filter (is_among b) (take i a) ++ cond c (y ∷ []) []) (outside b y _ refl none) ∙ append-nil _))
  where
    outside : (b : List Json) (y : Json) (c : Bool) → is_among b y ≡ c → ¬ (Contains b y) → c ≡ false
    outside b y true is none = absurd (none (among_found b y is))
    outside b y false is none = refl
