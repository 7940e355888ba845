-- The names of keys: no key repeats one, and a name finds its key.
use Rattle.std.proofs.Common.{◌≡◌, ◌<◌, ◌≤◌, ℕ, zero, suc, ◌+◌, List, [], ◌∷◌, ◌++◌, length, Bool, true, false, ◌&&◌, ◌||◌, not, cond, ◌⊎◌, inl, inr, bytes_eq, Option, Some, None, ◌↔◌, Contains, get_or, drop, drop-cons, drop_of_length-le, add-one, refl, sym, ap, ap₂, ◌∙◌, subst, append_assoc, append-nil, arith}
use denote.Enum.Bare.{sameb}
use Rattle.fed_base.specs.contracts.algorithm.Alg.{the_type}
use Rattle.std.specs.List.{list_any}
use Rattle.std.proofs.lemmas.List.Folds.{list_any-append}
use Rattle.std.proofs.lemmas.Slice.Eq.{bytes_eq-Decides}
use Rattle.fed_base.specs.declared.algorithm.Alg.{Alg}
use Rattle.fed_base.specs.declared.algorithm.Alg.TheVariants.{Small, Fast}
use Rattle.fed_json.specs.declared.tree.Json.{Json}
use Rattle.fed_json.proofs.Booleans.{left_true, right_true, both_true}
use Rattle.jwk_set.specs.declared.jwk.Jwk.{Jwk}
use Rattle.jwk_set.specs.declared.jwk.Jwk.TheVariants.{Own, Foreign}
use Rattle.jwk_set.specs.KeySets.{kid_of, is_one_text, repeats_kid, distinct_after, are_distinct, is_one_algorithm, key_named}

-- ---- a key without a name repeats none

one_text_none : (o : Option (List ℕ)) → is_one_text o None ≡ false
one_text_none None = refl
one_text_none (Some t) = refl

nameless : (keys : List Jwk) → list_any (λ k. is_one_text (kid_of k) None) keys ≡ false
nameless [] = refl
nameless (k ∷ keys) = ap₂ (λ a b. a || b) (one_text_none (kid_of k)) (nameless keys)

pub repeats_kid-nameless : (keys : List Jwk) (key : Jwk) → kid_of key ≡ None → repeats_kid keys key ≡ false
unfolding repeats_kid
repeats_kid-nameless keys key none = ap (λ o. list_any (λ k. is_one_text (kid_of k) o) keys) none ∙ nameless keys

-- ---- one more key, of another name than the earlier ones

and_assoc : (a b c : Bool) → (a && (b && c)) ≡ ((a && b) && c)
and_assoc true b c = refl
and_assoc false b c = refl

true_last : (a : Bool) → (a && true) ≡ a
true_last true = refl
true_last false = refl

distinct_after-snoc : (earlier keys : List Jwk) (key : Jwk) → distinct_after earlier (keys ++ key ∷ []) ≡ (distinct_after earlier keys && not (repeats_kid (earlier ++ keys) key))
distinct_after-snoc earlier [] key = true_last _ ∙ ap (λ e. not (repeats_kid e key)) (sym (append-nil earlier))
distinct_after-snoc earlier (x ∷ keys) key =
    ap (λ b. not (repeats_kid earlier x) && b) (distinct_after-snoc (earlier ++ x ∷ []) keys key ∙ ap (λ e. distinct_after (earlier ++ x ∷ []) keys && not (repeats_kid e key)) (append_assoc earlier (x ∷ []) keys))
    ∙ and_assoc (not (repeats_kid earlier x)) _ _

pub are_distinct-snoc : (keys : List Jwk) (key : Jwk) → are_distinct keys ≡ true → repeats_kid keys key ≡ false → are_distinct (keys ++ key ∷ []) ≡ true
unfolding are_distinct
are_distinct-snoc keys key distinct new = distinct_after-snoc [] keys key ∙ both_true distinct (ap not new)

-- ---- the key of a name

-- one of the keys has that name
abbrev has_name : List ℕ → List Jwk → Bool
has_name kid keys = list_any (λ k. is_one_text (kid_of k) (Some kid)) keys

same_text : (t : List ℕ) → bytes_eq t t ≡ true
same_text t = (bytes_eq-Decides t t).1 refl

or_true : (a b : Bool) → a ≡ true → (a || b) ≡ true
or_true true b e = refl
or_true false b e = cc e

or_right : (a : Bool) → (a || true) ≡ true
or_right true = refl
or_right false = refl

has_name-more : (kid : List ℕ) (keys : List Jwk) (more : List Jwk) → has_name kid keys ≡ true → has_name kid (keys ++ more) ≡ true
has_name-more kid keys more has = list_any-append (λ k. is_one_text (kid_of k) (Some kid)) keys more ∙ or_true _ _ has

has_name-last : (kid : List ℕ) (alg : Alg) (public : List ℕ) (keys : List Jwk) → has_name kid (keys ++ Own kid alg public ∷ []) ≡ true
has_name-last kid alg public keys =
    list_any-append (λ k. is_one_text (kid_of k) (Some kid)) keys (Own kid alg public ∷ []) ∙ ap (λ b. has_name kid keys || (b || false)) (same_text kid) ∙ or_right (has_name kid keys)

-- no later key has the name of an earlier one
none_later : (kid : List ℕ) (alg : Alg) (public : List ℕ) (earlier keys : List Jwk) (k : ℕ) → has_name kid earlier ≡ true → distinct_after earlier keys ≡ true → k < length keys
    → get_or keys k (Own kid alg public) ≡ Own kid alg public → ⊥
unfolding repeats_kid
none_later kid alg public earlier [] k has distinct within is = absurd (omega arith)
none_later kid alg public earlier (x ∷ keys) zero has distinct within is =
    let new = left_true (not (repeats_kid earlier x)) _ distinct in
    let repeats : repeats_kid earlier x ≡ true = ap (repeats_kid earlier) is ∙ has in
    let bad = sym (ap not repeats) ∙ new in
    cc bad
none_later kid alg public earlier (x ∷ keys) (suc k) has distinct within is =
    none_later kid alg public (earlier ++ x ∷ []) keys k (has_name-more kid earlier (x ∷ []) has) (right_true (not (repeats_kid earlier x)) _ distinct) (omega arith) is

one_algorithm : (a b : Alg) → is_one_algorithm a b ≡ true → a ≡ b
one_algorithm Small Small e = refl
one_algorithm Small Fast e = cc e
one_algorithm Fast Small e = cc e
one_algorithm Fast Fast e = refl

-- the code's comparison
pub same_is : (a b : Alg) → sameb the_type a b ≡ is_one_algorithm a b
same_is Small Small = refl
same_is Small Fast = refl
same_is Fast Small = refl
same_is Fast Fast = refl

same_algorithm : (a : Alg) → is_one_algorithm a a ≡ true
same_algorithm Small = refl
same_algorithm Fast = refl

-- a key's name and algorithm are these
abbrev pub is_named : List ℕ → Alg → List ℕ → Alg → Bool
is_named k a kid alg = bytes_eq k kid && is_one_algorithm a alg

named_name : (k : List ℕ) (a : Alg) (kid : List ℕ) (alg : Alg) → is_named k a kid alg ≡ true → k ≡ kid
named_name k a kid alg e = (bytes_eq-Decides k kid).0 (left_true (bytes_eq k kid) _ e)

found_own : (kid k : List ℕ) (alg a : Alg) (public p : List ℕ) (rest : Option (List ℕ)) (same : Bool) → is_named k a kid alg ≡ same
    → cond same (Some p) rest ≡ Some public → (Own k a p ≡ Own kid alg public) ⊎ (rest ≡ Some public)
found_own kid k alg a public p rest true is e =
    let key = named_name k a kid alg is in
    let its = one_algorithm a alg (right_true (bytes_eq k kid) _ is) in
    let bytes : p ≡ public = cc e in
    inl (rw (key, its, bytes) refl)
found_own kid k alg a public p rest false is e = inr e

pub key_named-found : (kid : List ℕ) (alg : Alg) (public : List ℕ) (keys : List Jwk) → key_named kid alg keys ≡ Some public → Contains keys (Own kid alg public)
unfolding key_named
key_named-found kid alg public [] e = cc e
key_named-found kid alg public (Own k a p ∷ keys) e = elim (found_own kid k alg a public p (key_named kid alg keys) (is_named k a kid alg) refl e) [
  | inl same ↦ (0, omega arith, same)
  | inr later ↦ let at = key_named-found kid alg public keys later in (suc at.0, omega (arith, at.1), at.2)
]
key_named-found kid alg public (Foreign tree ∷ keys) e = let at = key_named-found kid alg public keys e in (suc at.0, omega (arith, at.1), at.2)

own_name : (kid k : List ℕ) (alg a : Alg) (public p : List ℕ) → Own k a p ≡ Own kid alg public → k ≡ kid
own_name kid k alg a public p e = cc e

own_algorithm : (kid k : List ℕ) (alg a : Alg) (public p : List ℕ) → Own k a p ≡ Own kid alg public → a ≡ alg
own_algorithm kid k alg a public p e = cc e

own_public : (kid k : List ℕ) (alg a : Alg) (public p : List ℕ) → Own k a p ≡ Own kid alg public → p ≡ public
own_public kid k alg a public p e = cc e

passed : (kid k : List ℕ) (alg a : Alg) (public p : List ℕ) (rest : Option (List ℕ)) (same : Bool) → is_named k a kid alg ≡ same → (k ≡ kid → ⊥) → rest ≡ Some public
    → cond same (Some p) rest ≡ Some public
passed kid k alg a public p rest true is other e = absurd (other (named_name k a kid alg is))
passed kid k alg a public p rest false is other e = e

key_named-only_after : (kid : List ℕ) (alg : Alg) (public : List ℕ) (earlier keys : List Jwk) (k : ℕ) → distinct_after earlier keys ≡ true → k < length keys
    → get_or keys k (Own kid alg public) ≡ Own kid alg public → key_named kid alg keys ≡ Some public
unfolding key_named
key_named-only_after kid alg public earlier [] k distinct within is = absurd (omega arith)
key_named-only_after kid alg public earlier (Own name a p ∷ keys) zero distinct within is =
    rw (own_name kid name alg a public p is, own_algorithm kid name alg a public p is, same_text kid, same_algorithm alg) (ap Some (own_public kid name alg a public p is))
key_named-only_after kid alg public earlier (Foreign tree ∷ keys) zero distinct within is = cc is
key_named-only_after kid alg public earlier (Foreign tree ∷ keys) (suc k) distinct within is =
    key_named-only_after kid alg public (earlier ++ Foreign tree ∷ []) keys k (right_true (not (repeats_kid earlier (Foreign tree))) _ distinct) (omega arith) is
key_named-only_after kid alg public earlier (Own name a p ∷ keys) (suc k) distinct within is =
    let later = right_true (not (repeats_kid earlier (Own name a p))) _ distinct in
    passed kid name alg a public p (key_named kid alg keys) (is_named name a kid alg) refl
    (λ same. none_later kid alg public (earlier ++ Own name a p ∷ []) keys k (subst (λ n. has_name n (earlier ++ Own name a p ∷ []) ≡ true) same (has_name-last name a p earlier)) later (omega arith) is)
    (key_named-only_after kid alg public (earlier ++ Own name a p ∷ []) keys k later (omega arith) is)

-- of keys with different names a name finds exactly its own
pub key_named-iff : (kid : List ℕ) (alg : Alg) (public : List ℕ) (keys : List Jwk) → are_distinct keys ≡ true → (key_named kid alg keys ≡ Some public) ↔ Contains keys (Own kid alg public)
unfolding are_distinct
key_named-iff kid alg public keys distinct = (key_named-found kid alg public keys, λ at. key_named-only_after kid alg public [] keys at.0 distinct at.1 at.2)

-- ---- the keys in turn

named_next : (kid : List ℕ) (alg : Alg) (keys : List Jwk) (i : ℕ) (x : Jwk) → i < length keys → x ≡ get_or keys i x → key_named kid alg (drop i keys) ≡ key_named kid alg (x ∷ drop (i + 1) keys)
named_next kid alg keys i x within is = ap (key_named kid alg) (drop-cons keys i x within ∙ ap₂ (λ k ks. k ∷ ks) (sym is) (ap (λ n. drop n keys) (sym (add-one i))))

pub named_here : (kid name : List ℕ) (alg a : Alg) (public : List ℕ) (keys : List Jwk) (i : ℕ) (x : Jwk) → key_named kid alg keys ≡ key_named kid alg (drop i keys) → i < length keys → x ≡ get_or keys i x
    → x ≡ Own name a public → true ≡ is_named name a kid alg → Some public ≡ key_named kid alg keys
unfolding key_named
named_here kid name alg a public keys i x so_far within is own same =
    sym (so_far ∙ named_next kid alg keys i x within is ∙ ap (λ k. key_named kid alg (k ∷ drop (i + 1) keys)) own ∙ ap (λ b. cond b (Some public) (key_named kid alg (drop (i + 1) keys))) (sym same))

pub named_past_own : (kid name : List ℕ) (alg a : Alg) (public : List ℕ) (keys : List Jwk) (i : ℕ) (x : Jwk) → key_named kid alg keys ≡ key_named kid alg (drop i keys) → i < length keys → x ≡ get_or keys i x
    → x ≡ Own name a public → false ≡ is_named name a kid alg → key_named kid alg keys ≡ key_named kid alg (drop (i + 1) keys)
unfolding key_named
named_past_own kid name alg a public keys i x so_far within is own other =
    so_far ∙ named_next kid alg keys i x within is ∙ ap (λ k. key_named kid alg (k ∷ drop (i + 1) keys)) own ∙ ap (λ b. cond b (Some public) (key_named kid alg (drop (i + 1) keys))) (sym other)

pub named_past_foreign : (kid : List ℕ) (alg : Alg) (tree : Json) (keys : List Jwk) (i : ℕ) (x : Jwk) → key_named kid alg keys ≡ key_named kid alg (drop i keys) → i < length keys → x ≡ get_or keys i x
    → x ≡ Foreign tree → key_named kid alg keys ≡ key_named kid alg (drop (i + 1) keys)
unfolding key_named
named_past_foreign kid alg tree keys i x so_far within is foreign = so_far ∙ named_next kid alg keys i x within is ∙ ap (λ k. key_named kid alg (k ∷ drop (i + 1) keys)) foreign

pub named_none : (kid : List ℕ) (alg : Alg) (keys : List Jwk) (i : ℕ) → key_named kid alg keys ≡ key_named kid alg (drop i keys) → length keys ≤ i → None ≡ key_named kid alg keys
unfolding key_named
named_none kid alg keys i so_far past = sym (so_far ∙ ap (key_named kid alg) (drop_of_length-le keys past))
