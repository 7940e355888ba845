-- A tree gives exactly the keys that it is a set of.
use Rattle.std.proofs.Common.{◌≡◌, ◌<◌, ◌≤◌, ℕ, ◌+◌, List, [], ◌∷◌, ◌++◌, length, map, drop, Bool, true, false, not, cond, get_or, drop-cons, drop_of_length-le, add-one, length-append, IfSome, Option, Some, None, ok_or, Ok, Err, refl, sym, ap, ap₂, ◌∙◌, subst, append_assoc, append-nil, arith}
use Rattle.fed_json.specs.declared.tree.Json.{Json}
use Rattle.fed_base.specs.Answers.{◌>>=◌}
use Rattle.fed_json.proofs.Booleans.{left_true, right_true, both_true}
use Rattle.jwk_set.specs.declared.jwk.Jwk.{Jwk}
use Rattle.jwk_set.specs.declared.fault.SetFault.TheVariants.{NotSet, Shape, DoubleKid}
use Rattle.std.specs.List.{list_all}
use Rattle.std.proofs.lemmas.List.Folds.{list_all-append}
use Rattle.jwk_set.specs.Keys.{key_in, is_key}
use Rattle.jwk_set.proofs.Names.{are_distinct-snoc}
use Rattle.jwk_set.specs.KeySets.{repeats_kid, distinct_after, are_distinct, IsKeySet, keys_after, key_set_in}
use Rattle.jwk_set.specs.Listed.{listed_in}

-- ---- the keys of a set are answered

first_equal : {X : Type 0} (x y : X) (xs ys : List X) → x ∷ xs ≡ y ∷ ys → (x ≡ y) × (xs ≡ ys)
first_equal x y xs ys e = (cc e, cc e)

pub keys_after-is : (earlier keys : List Jwk) (members : List Json) → map key_in members ≡ map Some keys → distinct_after earlier keys ≡ true
    → keys_after earlier members ≡ Ok (earlier ++ keys)
unfolding keys_after
keys_after-is earlier [] [] each distinct = ap Ok (sym (append-nil earlier))
keys_after-is earlier [] (m ∷ members) each distinct = cc each
keys_after-is earlier (k ∷ keys) [] each distinct = cc each
keys_after-is earlier (k ∷ keys) (m ∷ members) each distinct =
    let parts = first_equal (key_in m) (Some k) (map key_in members) (map Some keys) each in
    let new : repeats_kid earlier k ≡ false = was_not _ (left_true (not (repeats_kid earlier k)) _ distinct) in
    rw (parts.0, new) (keys_after-is (earlier ++ k ∷ []) keys members parts.1 (right_true (not (repeats_kid earlier k)) _ distinct) ∙ ap Ok (append_assoc earlier (k ∷ []) keys))
  where
    was_not : (b : Bool) → not b ≡ true → b ≡ false
    was_not true e = cc e
    was_not false e = refl

pub only : (tree : Json) (keys : List Jwk) → IsKeySet tree keys → key_set_in tree ≡ Ok keys
unfolding key_set_in are_distinct
only tree keys is = ap (λ o. ok_or o NotSet >>= keys_after []) is.listed ∙ keys_after-is [] keys is.members is.each is.distinct

-- ---- what is answered are the keys of a set

-- the keys that followed
record Follows (earlier all : List Jwk) (members : List Json) : Type 0 where
  keys : List Jwk
  joined : all ≡ earlier ++ keys
  each : map key_in members ≡ map Some keys
  distinct : distinct_after earlier keys ≡ true

follows_key : (earlier all : List Jwk) (key : Jwk) (m : Json) (members : List Json) (repeats : Bool) → repeats_kid earlier key ≡ repeats → key_in m ≡ Some key
    → (keys_after (earlier ++ key ∷ []) members ≡ Ok all → Follows (earlier ++ key ∷ []) all members)
    → cond repeats (Err (DoubleKid (length earlier))) (keys_after (earlier ++ key ∷ []) members) ≡ Ok all → Follows earlier all (m ∷ members)
follows_key earlier all key m members true is read rest e = cc e
follows_key earlier all key m members false is read rest e =
    let after = rest e in
    record {
      keys = key ∷ after.keys;
      joined = after.joined ∙ append_assoc earlier (key ∷ []) after.keys;
      each = ap₂ (λ k ks. k ∷ ks) read after.each;
      distinct = both_true (ap not is) after.distinct;
    }

follows_member : (earlier all : List Jwk) (m : Json) (members : List Json) (o : Option Jwk) → key_in m ≡ o
    → ((key : Jwk) → keys_after (earlier ++ key ∷ []) members ≡ Ok all → Follows (earlier ++ key ∷ []) all members)
    → (ok_or o (Shape (length earlier)) >>= (λ key. cond (repeats_kid earlier key) (Err (DoubleKid (length earlier))) (keys_after (earlier ++ key ∷ []) members))) ≡ Ok all
    → Follows earlier all (m ∷ members)
follows_member earlier all m members None read rest e = cc e
follows_member earlier all m members (Some key) read rest e = follows_key earlier all key m members (repeats_kid earlier key) refl read (rest key) e

follows : (earlier all : List Jwk) (members : List Json) → keys_after earlier members ≡ Ok all → Follows earlier all members
unfolding keys_after
follows earlier all [] e = record { keys = []; joined = sym (cc e) ∙ sym (append-nil earlier); each = refl; distinct = refl }
follows earlier all (m ∷ members) e = follows_member earlier all m members (key_in m) refl (λ key. follows (earlier ++ key ∷ []) all members) e

set_of : (tree : Json) (keys : List Jwk) (o : Option (List Json)) → listed_in tree ≡ o → (ok_or o NotSet >>= keys_after []) ≡ Ok keys → IsKeySet tree keys
unfolding are_distinct
set_of tree keys None listed e = cc e
set_of tree keys (Some members) listed e =
    let all = follows [] keys members e in
    record {
      members = members;
      listed = listed;
      each = all.each ∙ ap (map Some) (sym all.joined);
      distinct = subst (λ ks. distinct_after [] ks ≡ true) (sym all.joined) all.distinct;
    }

pub found : (tree : Json) (keys : List Jwk) → key_set_in tree ≡ Ok keys → IsKeySet tree keys
unfolding key_set_in
found tree keys e = set_of tree keys (listed_in tree) refl e

-- ---- the loop

-- the keys of the first members
pub record Gathered (keys : List Jwk) (members : List Json) (count : ℕ) : Type 0 where
  pub size : length keys ≡ count
  pub rest : keys_after [] members ≡ keys_after keys (drop count members)
  pub formed : list_all is_key keys ≡ true
  pub distinct : are_distinct keys ≡ true

pub gathered_none : (keys : List Jwk) (members : List Json) → keys ≡ [] → Gathered keys members 0
unfolding are_distinct
gathered_none keys members none = subst (λ ks. Gathered ks members 0) (sym none) (record { size = refl; rest = refl; formed = refl; distinct = refl })

next_member : (keys : List Jwk) (members : List Json) (i : ℕ) (m : Json) → Gathered keys members i → i < length members → m ≡ get_or members i m
    → keys_after [] members ≡ keys_after keys (m ∷ drop (i + 1) members)
next_member keys members i m so_far within is = so_far.rest ∙ ap (keys_after keys) (drop-cons members i m within ∙ ap₂ (λ x xs. x ∷ xs) (sym is) (ap (λ n. drop n members) (sym (add-one i))))

pub gathered_shape : (keys : List Jwk) (members : List Json) (i place : ℕ) (m : Json) (key : Option Jwk) → Gathered keys members i → i < length members → m ≡ get_or members i m
    → key ≡ key_in m → key ≡ None → place ≡ length keys → keys_after [] members ≡ Err (Shape place)
unfolding keys_after
gathered_shape keys members i place m key so_far within is read none at = next_member keys members i m so_far within is ∙ rw (sym read ∙ none, sym at) refl

pub gathered_double : (keys : List Jwk) (members : List Json) (i place : ℕ) (m : Json) (o : Option Jwk) (key : Jwk) → Gathered keys members i → i < length members → m ≡ get_or members i m
    → o ≡ key_in m → o ≡ Some key → repeats_kid keys key ≡ true → place ≡ length keys → keys_after [] members ≡ Err (DoubleKid place)
unfolding keys_after
gathered_double keys members i place m o key so_far within is read some repeats at = next_member keys members i m so_far within is ∙ rw (sym read ∙ some, repeats, sym at) refl

pub list_all-snoc : {X : Type 0} (p : X → Bool) (xs : List X) (x : X) → list_all p xs ≡ true → p x ≡ true → list_all p (xs ++ x ∷ []) ≡ true
list_all-snoc p xs x all last = list_all-append p xs (x ∷ []) ∙ both_true all (both_true last refl)

pub gathered_more : (keys new : List Jwk) (members : List Json) (i : ℕ) (m : Json) (o : Option Jwk) (key : Jwk) → Gathered keys members i → i < length members → m ≡ get_or members i m
    → o ≡ key_in m → o ≡ Some key → IfSome o (λ k. is_key k ≡ true) → repeats_kid keys key ≡ false → new ≡ keys ++ key ∷ [] → Gathered new members (i + 1)
unfolding keys_after
gathered_more keys new members i m o key so_far within is read some formed other more =
    let good : is_key key ≡ true = rw some at formed in
    subst (λ ks. Gathered ks members (i + 1)) (sym more) (record {
      size = omega (arith, so_far.size, length-append keys (key ∷ []));
      rest = next_member keys members i m so_far within is ∙ rw (sym read ∙ some, other) refl;
      formed = list_all-snoc is_key keys key so_far.formed good;
      distinct = are_distinct-snoc keys key so_far.distinct other;
    })

pub gathered_all : (keys : List Jwk) (members : List Json) (i : ℕ) → Gathered keys members i → length members ≤ i → keys_after [] members ≡ Ok keys
unfolding keys_after
gathered_all keys members i so_far past = so_far.rest ∙ ap (keys_after keys) (drop_of_length-le members past)
