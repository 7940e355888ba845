-- Keys are read back from the trees that they are written as.
use Rattle.std.proofs.Common.{◌≡◌, ◌<◌, ℕ, zero, suc, get_or, List, [], ◌∷◌, length, codes, Bool, true, false, ◌&&◌, not, cond, nat_lt, Option, Some, None, is_some, Result, Ok, Err, IfOk, refl, sym, ap, ◌∙◌, rules, arith}
use Rattle.std.specs.Option.{option_and_then, option_map_or}
use Rattle.std.specs.List.{list_all}
use Rattle.std.specs.Str.{is_utf8}
use Rattle.std.proofs.lemmas.Str.{is_utf8-from_IsUtf8, IsUtf8-from_ascii}
use borrow.Author.Tests.{ltb-true}
use Rattle.base64url.specs.Base64url.{IsBytes, base64url, decoded_32}
use Rattle.base64url.proofs.Canonical.{decoded_32_iff, is_utf8-base64url, IsBytes-base64url}
use Rattle.fed_json.specs.declared.tree.Json.{Json, Text, the_lemmas}
use Rattle.fed_json.specs.declared.tree.Member.{Member}
use Rattle.fed_base.specs.declared.algorithm.Alg.{Alg}
use Rattle.fed_base.specs.declared.algorithm.Alg.TheVariants.{Small, Fast}
use Rattle.fed_base.specs.declared.faults.Memory.{Memory}
use Rattle.fed_json.specs.Forms.{has_odd, well_formed, whole, IsWhole}
use Rattle.fed_json.specs.Trees.{as_object, text_at}
use Rattle.jws_form.specs.Header.{algorithm}
use Rattle.jws_form.proofs.Algorithms.{algorithm_of-algorithm}
use Rattle.fed_json.proofs.Booleans.{both_true, left_true, right_true}
use Rattle.fed_json.proofs.Layers.{has_odd-Object, whole-Object, well_formed-Text}
use Rattle.jwk_set.specs.declared.jwk.Jwk.{Jwk}
use Rattle.jwk_set.specs.declared.jwk.Jwk.TheVariants.{Own, Foreign}
use Rattle.jwk_set.specs.Keys.{key_type, algorithm_at, is_own, own_key, key_of, key_in, is_foreign, is_key}
use Rattle.jwk_set.specs.Trees.{own_tree}
use Rattle.fed_json.specs.Members.{text_member}
use Rattle.fed_json.proofs.Accessors.{as_object-Object, as_text-Text}

odd_text : (t : List ℕ) → has_odd (Text t) ≡ false
odd_text t = search (rules, the_lemmas)

pub whole_text : (t : List ℕ) → is_utf8 t ≡ true → whole (Text t) ≡ true
whole_text t utf8 = both_true (well_formed-Text t ∙ utf8) (ap not (odd_text t))

-- the members of an own key
abbrev own_members : List ℕ → Alg → List ℕ → List Member
own_members kid alg public =
    text_member (codes "alg") (algorithm alg) ∷ text_member (codes "kid") kid ∷ text_member (codes "kty") key_type ∷ text_member (codes "pub") (base64url public) ∷ []

below_128 : (t : List ℕ) (i : ℕ) → list_all (λ x. nat_lt x 128) t ≡ true → get_or t i 0 < 128
below_128 [] i all = omega arith
below_128 (x ∷ t) zero all = ltb-true x 128 (left_true (nat_lt x 128) _ all)
below_128 (x ∷ t) (suc i) all = below_128 t i (right_true (nat_lt x 128) _ all)

-- a name that stands in the standard
pub ascii : (t : List ℕ) → list_all (λ x. nat_lt x 128) t ≡ true → is_utf8 t ≡ true
ascii t all = is_utf8-from_IsUtf8 t (IsUtf8-from_ascii t (λ i. below_128 t i all))

ascii_algorithm : (alg : Alg) → list_all (λ x. nat_lt x 128) (algorithm alg) ≡ true
ascii_algorithm Small = refl
ascii_algorithm Fast = refl

pub own_whole : (kid : List ℕ) (alg : Alg) (public : List ℕ) → is_utf8 kid ≡ true → whole (own_tree kid alg public) ≡ true
own_whole kid alg public utf8 =
    whole-Object (own_members kid alg public)
    ∙ rw (
      whole_text (algorithm alg) (ascii (algorithm alg) (ascii_algorithm alg)),
      whole_text kid utf8,
      whole_text key_type (ascii key_type refl),
      whole_text (base64url public) (is_utf8-base64url public),
      ascii (codes "alg") refl,
      ascii (codes "kid") refl,
      ascii (codes "kty") refl,
      ascii (codes "pub") refl,
    ) refl

own_odd : (kid : List ℕ) (alg : Alg) (public : List ℕ) → has_odd (own_tree kid alg public) ≡ false
own_odd kid alg public = has_odd-Object (own_members kid alg public) ∙ rw (odd_text (algorithm alg), odd_text kid, odd_text key_type, odd_text (base64url public)) refl

own_algorithm : (kid : List ℕ) (alg : Alg) (public : List ℕ) → algorithm_at (own_members kid alg public) ≡ Some alg
unfolding algorithm_at
own_algorithm kid alg public = rw (as_text-Text (algorithm alg), algorithm_of-algorithm alg) refl

own_is_own : (kid : List ℕ) (alg : Alg) (public : List ℕ) → is_own (own_members kid alg public) ≡ true
unfolding is_own
own_is_own kid alg public = rw (as_text-Text key_type, own_algorithm kid alg public) refl

pub own_read : (kid : List ℕ) (alg : Alg) (public : List ℕ) → nat_lt 0 (length kid) ≡ true → IsBytes public → length public ≡ 32
    → key_in (own_tree kid alg public) ≡ Some (Own kid alg public)
unfolding key_in key_of own_key
own_read kid alg public named bytes size =
    let back : decoded_32 (base64url public) ≡ Some public = (decoded_32_iff (base64url public) public (IsBytes-base64url public) bytes size).1 refl in
    rw (own_odd kid alg public, as_object-Object (own_members kid alg public), own_is_own kid alg public, own_algorithm kid alg public, as_text-Text key_type, as_text-Text kid, as_text-Text (base64url public), named, back) refl

-- a foreign key is read as it stands
foreign_by : (tree : Json) (odd : Bool) (o : Option (List Member)) → has_odd tree ≡ odd → as_object tree ≡ o
    → (not odd && option_map_or (λ members. is_some (text_at (codes "kty") members) && not (is_own members)) o false) ≡ true
    → cond odd None (option_and_then (key_of tree) o) ≡ Some (Foreign tree)
unfolding key_of
foreign_by tree true o is object foreign = cc foreign
foreign_by tree false None is object foreign = cc foreign
foreign_by tree false (Some members) is object foreign =
    let typed = left_true (is_some (text_at (codes "kty") members)) _ foreign in
    let other = was_not (is_own members) (right_true (is_some (text_at (codes "kty") members)) _ foreign) in
    rw (typed, other) refl
  where
    was_not : (b : Bool) → not b ≡ true → b ≡ false
    was_not true e = cc e
    was_not false e = refl

pub foreign_read : (tree : Json) → is_foreign tree ≡ true → key_in tree ≡ Some (Foreign tree)
unfolding key_in is_foreign
foreign_read tree foreign = foreign_by tree (has_odd tree) (as_object tree) refl refl foreign

pub foreign_whole : (tree : Json) → well_formed tree ≡ true → is_foreign tree ≡ true → whole tree ≡ true
unfolding is_foreign
foreign_whole tree formed foreign = both_true formed (left_true (not (has_odd tree)) _ foreign)

foreign_parts : (tree : Json) (key : Jwk) → key ≡ Foreign tree → is_key key ≡ true → (well_formed tree ≡ true) × (is_foreign tree ≡ true)
foreign_parts tree key is good =
    let both : (well_formed tree && is_foreign tree) ≡ true = sym (ap is_key is) ∙ good in
    (left_true (well_formed tree) _ both, right_true (well_formed tree) _ both)

-- the same of a copy
pub foreign_copy_whole : (tree : Json) (key : Jwk) (r : Result Json Memory) → key ≡ Foreign tree → is_key key ≡ true → IfOk r (λ copy. copy ≡ tree) → IfOk r IsWhole
foreign_copy_whole tree key (Err e) is good copied = tt
foreign_copy_whole tree key (Ok copy) is good copied = let parts = foreign_parts tree key is good in ap whole copied ∙ foreign_whole tree parts.0 parts.1

pub foreign_copy_read : (tree : Json) (key : Jwk) (r : Result Json Memory) → key ≡ Foreign tree → is_key key ≡ true → IfOk r (λ copy. copy ≡ tree) → IfOk r (λ copy. key_in copy ≡ Some key)
foreign_copy_read tree key (Err e) is good copied = tt
foreign_copy_read tree key (Ok copy) is good copied = let parts = foreign_parts tree key is good in ap key_in copied ∙ foreign_read tree parts.1 ∙ ap Some (sym is)
