-- How deep trees and their parts are nested.
use Rattle.std.proofs.Common.{◌≡◌, ◌≤◌, ℕ, suc, pos, List, [], ◌∷◌, map, codes, Bool, true, false, cond, bytes_eq, Option, Some, None, option_map, Ok, refl, ap, subst, arith}
use Rattle.std.specs.Prelude.{IfSome, unwrap_or}
use Rattle.std.specs.List.{AllByRecursion, cons_option, filter_map}
use Rattle.std.specs.Option.{option_and_then, option_map_or, option_or}
use Rattle.std.specs.Str.{is_utf8}
use Rattle.std.proofs.lemmas.Bool.{cond_both}
use Rattle.serde_json.proofs.Nesting.{depth-read}
use Rattle.serde_json.specs.Data.{Data}
use Rattle.serde_json.specs.Read.{read}
use Rattle.fed_base.specs.declared.algorithm.Alg.{Alg}
use Rattle.base64url.specs.Base64url.{base64url}
use Rattle.fed_json.specs.declared.tree.Json.{Json, Int, Text, List as ListOf, Object}
use Rattle.fed_json.specs.declared.tree.Member.{Member}
use Rattle.fed_json.specs.Forms.{greatest, has_odd, nesting}
use Rattle.fed_json.specs.Members.{text_member}
use Rattle.fed_json.specs.Reading.{member_of, tree_in, tree_of}
use Rattle.fed_json.specs.Tables.{Name, item_of, side_at, sides}
use Rattle.fed_json.specs.Trees.{as_list, as_object, find, member_name, object_members}
use Rattle.fed_json.proofs.Accessors.{List-as_list, Object-as_object}
use Rattle.fed_json.proofs.Layers.{nesting-Int, nesting-List, nesting-Object, nesting-Text}
use Rattle.fed_json.proofs.Readings.{nesting-tree_of}
use Rattle.jws_form.specs.Header.{algorithm}
use Rattle.jwk_set.specs.declared.jwk.Jwk.{Jwk}
use Rattle.jwk_set.specs.declared.jwk.Jwk.TheVariants.{Own, Foreign}
use Rattle.jwk_set.specs.Keys.{algorithm_at, is_own, key_in, key_of, key_type, name_at, own_key, public_at}
use Rattle.jwk_set.specs.KeySets.{key_set_in}
use Rattle.jwk_set.specs.Listed.{listed_in, unless_many}
use Rattle.jwk_set.specs.Trees.{key_tree, own_tree, set_tree}
use Rattle.jwk_set.proofs.Sets.{found as set-found}
use Rattle.chain_check.specs.Metadata.{parameters_over, upper_first}

-- ---- a tree and its parts

-- a tree that may be absent is nested at most so deep where it is there
abbrev pub Within : ℕ → Option Json → Type 0
Within n o = IfSome o (λ tree. nesting tree ≤ n)

-- so is each item of a list,
abbrev pub ItemsWithin : ℕ → List Json → Type 0
ItemsWithin n items = AllByRecursion (λ tree. nesting tree ≤ n) items

-- and the value of each member of an object
abbrev pub MembersWithin : ℕ → List Member → Type 0
MembersWithin n ms = AllByRecursion (λ m. nesting m.value ≤ n) ms

items-most : (items : List Json) (n : ℕ) → ItemsWithin n items → greatest (map nesting items) ≤ n
items-most [] n all = omega arith
items-most (tree ∷ items) n all = omega (arith, all.0, items-most items n all.1)

items-each : (items : List Json) (n : ℕ) → greatest (map nesting items) ≤ n → ItemsWithin n items
items-each [] n most = tt
items-each (tree ∷ items) n most = (omega (arith, most), items-each items n (omega (arith, most)))

members-most : (ms : List Member) (n : ℕ) → MembersWithin n ms → greatest (map (λ m. nesting m.value) ms) ≤ n
members-most [] n all = omega arith
members-most (m ∷ ms) n all = omega (arith, all.0, members-most ms n all.1)

members-each : (ms : List Member) (n : ℕ) → greatest (map (λ m. nesting m.value) ms) ≤ n → MembersWithin n ms
members-each [] n most = tt
members-each (m ∷ ms) n most = (omega (arith, most), members-each ms n (omega (arith, most)))

pub object-within : (ms : List Member) (n : ℕ) → MembersWithin n ms → nesting (Object ms) ≤ suc n
object-within ms n all = omega (arith, nesting-Object ms, members-most ms n all)

pub list-within : (items : List Json) (n : ℕ) → ItemsWithin n items → nesting (ListOf items) ≤ suc n
list-within items n all = omega (arith, nesting-List items, items-most items n all)

pub text-within : (text : List ℕ) (n : ℕ) → nesting (Text text) ≤ n
text-within text n = omega (arith, nesting-Text text)

pub number-within : (number n : ℕ) → nesting (Int (pos number)) ≤ n
number-within number n = omega (arith, nesting-Int (pos number))

pub members-within : (tree : Json) (ms : List Member) (n : ℕ) → as_object tree ≡ Some ms → nesting tree ≤ suc n → MembersWithin n ms
members-within tree ms n is all = members-each ms n (omega (arith, nesting-Object ms, ap nesting (Object-as_object tree ms is), all))

pub items-within : (tree : Json) (items : List Json) (n : ℕ) → as_list tree ≡ Some items → nesting tree ≤ suc n → ItemsWithin n items
items-within tree items n is all = items-each items n (omega (arith, nesting-List items, ap nesting (List-as_list tree items is), all))

object_members-within : (tree : Json) (n : ℕ) → nesting tree ≤ suc n → MembersWithin n (object_members tree)
object_members-within tree n all = by (as_object tree) refl
  where
    by : (o : Option (List Member)) → as_object tree ≡ o → MembersWithin n (unwrap_or o [])
    by None is = tt
    by (Some ms) is = members-within tree ms n is all

pub found_members-within : (o : Option Json) (n : ℕ) → Within (suc n) o → MembersWithin n (option_map_or object_members o [])
found_members-within None n all = tt
found_members-within (Some tree) n all = object_members-within tree n all

pub found-within : (name : List ℕ) (ms : List Member) (n : ℕ) → MembersWithin n ms → Within n (find name ms)
found-within name [] n all = tt
found-within name (m ∷ ms) n all = cond_both (bytes_eq m.name name) (Some m.value) (find name ms) (Within n) (λ same. all.0) (λ other. found-within name ms n all.1)

-- ---- members picked of two lists side by side

-- the value of a member that may be absent
abbrev MemberWithin : ℕ → Option Member → Type 0
MemberWithin n o = IfSome o (λ m. nesting m.value ≤ n)

item-within : (name : Name) (ms : List Member) (n : ℕ) → MembersWithin n ms → MemberWithin n (item_of member_name name ms)
item-within name [] n all = tt
item-within name (m ∷ ms) n all = cond_both (bytes_eq m.name name) (Some m) (item_of member_name name ms) (MemberWithin n) (λ same. all.0) (λ other. item-within name ms n all.1)

picked-within : (a b : Option Member) (n : ℕ) → MemberWithin n a → MemberWithin n b → MemberWithin n (option_or a b)
picked-within None b n one other = other
picked-within (Some m) b n one other = one

cons-within : (o : Option Member) (ms : List Member) (n : ℕ) → MemberWithin n o → MembersWithin n ms → MembersWithin n (cons_option o ms)
cons-within None ms n here all = all
cons-within (Some m) ms n here all = (here, all)

all-picked : (us ls : List Member) (names : List Name) (n : ℕ) → MembersWithin n us → MembersWithin n ls
    → MembersWithin n (filter_map upper_first (map (side_at member_name member_name us ls) names))
all-picked us ls [] n upper lower = tt
all-picked us ls (name ∷ names) n upper lower =
    cons-within (option_or (item_of member_name name us) (item_of member_name name ls)) _ n
    (picked-within (item_of member_name name us) (item_of member_name name ls) n (item-within name us n upper) (item-within name ls n lower))
    (all-picked us ls names n upper lower)

pub over-within : (us ls : List Member) (n : ℕ) → MembersWithin n us → MembersWithin n ls → MembersWithin n (parameters_over us ls)
unfolding parameters_over sides
over-within us ls n upper lower = all-picked us ls _ n upper lower

-- ---- keys

pub own-within : (kid : List ℕ) (alg : Alg) (public : List ℕ) → nesting (own_tree kid alg public) ≤ 1
own-within kid alg public =
    object-within (text_member (codes "alg") (algorithm alg) ∷ text_member (codes "kid") kid ∷ text_member (codes "kty") key_type ∷ text_member (codes "pub") (base64url public) ∷ []) 0
    (text-within (algorithm alg) 0, (text-within kid 0, (text-within key_type 0, (text-within (base64url public) 0, tt))))

-- what isn't an own key is kept as it is
own-only : (hidden : Bool) (a : Option (List ℕ)) (b : Option Alg) (c : Option (List ℕ)) (tree : Json)
    → cond hidden None (option_and_then (λ kid. option_and_then (λ alg. option_and_then (λ public. Some (Own kid alg public)) c) b) a) ≡ Some (Foreign tree) → ⊥
own-only true a b c tree e = cc e
own-only false None b c tree e = cc e
own-only false (Some kid) None c tree e = cc e
own-only false (Some kid) (Some alg) None tree e = cc e
own-only false (Some kid) (Some alg) (Some public) tree e = cc e

foreign-by : (item tree : Json) (untyped own : Bool) (key : Option Jwk) → (key ≡ Some (Foreign tree) → ⊥) → cond untyped None (cond own key (Some (Foreign item))) ≡ Some (Foreign tree) → item ≡ tree
foreign-by item tree true own key other e = cc e
foreign-by item tree false true key other e = absurd (other e)
foreign-by item tree false false key other e = cc e

foreign-in : (item tree : Json) (o : Option (List Member)) (odd : Bool) → cond odd None (option_and_then (key_of item) o) ≡ Some (Foreign tree) → item ≡ tree
unfolding key_of own_key
foreign-in item tree o true e = cc e
foreign-in item tree None false e = cc e
foreign-in item tree (Some ms) false e = foreign-by item tree _ (is_own ms) _ (λ own. own-only _ (name_at ms) (algorithm_at ms) (public_at ms) tree own) e

foreign-is : (item tree : Json) → key_in item ≡ Some (Foreign tree) → item ≡ tree
unfolding key_in
foreign-is item tree e = foreign-in item tree (as_object item) (has_odd item) e

key-within : (item : Json) (key : Jwk) (n : ℕ) → key_in item ≡ Some key → nesting item ≤ suc n → nesting (key_tree key) ≤ suc n
unfolding key_tree
key-within item (Own kid alg public) n read all = omega (arith, own-within kid alg public)
key-within item (Foreign tree) n read all = subst (λ t. nesting t ≤ suc n) (foreign-is item tree read) all

first_equal : {X : Type 0} (x y : X) (xs ys : List X) → x ∷ xs ≡ y ∷ ys → (x ≡ y) × (xs ≡ ys)
first_equal x y xs ys e = (cc e, cc e)

keys-within : (items : List Json) (keys : List Jwk) (n : ℕ) → map key_in items ≡ map Some keys → ItemsWithin (suc n) items → ItemsWithin (suc n) (map key_tree keys)
keys-within items [] n each all = tt
keys-within [] (key ∷ keys) n each all = cc each
keys-within (item ∷ items) (key ∷ keys) n each all =
    let parts = first_equal (key_in item) (Some key) (map key_in items) (map Some keys) each in
    (key-within item key n parts.0 all.0, keys-within items keys n parts.1 all.1)

pub set-within : (keys : List Jwk) (n : ℕ) → ItemsWithin n (map key_tree keys) → nesting (set_tree keys) ≤ suc (suc n)
unfolding set_tree
set-within keys n all = object-within (member_of (codes "keys") (ListOf (map key_tree keys)) ∷ []) (suc n) (list-within (map key_tree keys) n all, tt)

-- the members of a set's list
many-by : (few : Bool) (list items : List Json) → cond few (Some list) None ≡ Some items → list ≡ items
many-by true list items e = cc e
many-by false list items e = cc e

list-by : (tree : Json) (o : Option (List Json)) (items : List Json) (n : ℕ) → as_list tree ≡ o → option_and_then unless_many o ≡ Some items → nesting tree ≤ suc n → ItemsWithin n items
list-by tree None items n is e all = cc e
list-by tree (Some list) items n is e all = subst (ItemsWithin n) (many-by _ list items e) (items-within tree list n is all)

found-by : (o : Option Json) (items : List Json) (n : ℕ) → option_and_then (λ keys. option_and_then unless_many (as_list keys)) o ≡ Some items → Within (suc n) o → ItemsWithin n items
found-by None items n e all = cc e
found-by (Some tree) items n e all = list-by tree (as_list tree) items n refl e all

listed-by : (tree : Json) (o : Option (List Member)) (items : List Json) (n : ℕ) → as_object tree ≡ o
    → option_and_then (λ members. option_and_then (λ keys. option_and_then unless_many (as_list keys)) (find (codes "keys") members)) o ≡ Some items
    → nesting tree ≤ suc (suc n) → ItemsWithin n items
listed-by tree None items n is e all = cc e
listed-by tree (Some ms) items n is e all = found-by (find (codes "keys") ms) items n e (found-within (codes "keys") ms (suc n) (members-within tree ms (suc n) is all))

listed-within : (tree : Json) (items : List Json) (n : ℕ) → listed_in tree ≡ Some items → nesting tree ≤ suc (suc n) → ItemsWithin n items
unfolding listed_in
listed-within tree items n e all = listed-by tree (as_object tree) items n refl e all

-- the keys that are read of a set are written no deeper
pub read_set-within : (tree : Json) (keys : List Jwk) (n : ℕ) → key_set_in tree ≡ Ok keys → nesting tree ≤ suc (suc (suc n)) → nesting (set_tree keys) ≤ suc (suc (suc n))
read_set-within tree keys n e all =
    let is = set-found tree keys e in
    set-within keys (suc n) (keys-within is.members keys n is.each (listed-within tree is.members (suc n) is.listed all))

-- ---- what is read of a text

data-by : (o : Option Data) (tree : Json) → ((d : Data) → o ≡ Some d → nesting (tree_of d) ≤ 127) → option_map tree_of o ≡ Some tree → nesting tree ≤ 127
data-by None tree all e = cc e
data-by (Some d) tree all e = let same : tree_of d ≡ tree = cc e in subst (λ t. nesting t ≤ 127) same (all d refl)

text-by : (utf8 : Bool) (text : List ℕ) (tree : Json) → cond utf8 (option_map tree_of (read text)) None ≡ Some tree → nesting tree ≤ 127
text-by false text tree e = cc e
text-by true text tree e = data-by (read text) tree (λ d is. omega (arith, nesting-tree_of d, depth-read text d is)) e

pub read-within : (text : List ℕ) (tree : Json) → tree_in text ≡ Some tree → nesting tree ≤ 127
unfolding tree_in
read-within text tree e = text-by (is_utf8 text) text tree e
