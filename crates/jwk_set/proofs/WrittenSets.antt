-- A set is read back from the tree that it is written as.
use Rattle.std.proofs.Common.{◌≡◌, ◌<◌, ◌≤◌, ℕ, zero, suc, ◌+◌, List, [], ◌∷◌, ◌++◌, length, map, take, get_or, codes, true, Some, Ok, refl, sym, ap, ap₂, ◌∙◌, subst, add-one, arith}
use Rattle.std.proofs.Math.Seq.{take-suc}
use Rattle.std.proofs.lemmas.List.{length-map, map-append, take_all}
use Rattle.std.proofs.lemmas.Bool.{le-leb}
use Rattle.std.specs.List.{list_all}
use Rattle.fed_json.specs.declared.tree.Json.{Json, List as ListOf, Object}
use Rattle.fed_json.specs.declared.tree.Member.{Member}
use Rattle.fed_json.specs.Forms.{whole}
use Rattle.fed_json.specs.Reading.{member_of}
use Rattle.fed_json.proofs.Booleans.{left_true, right_true}
use Rattle.fed_json.proofs.Layers.{whole-Object, whole-List}
use Rattle.jwk_set.specs.declared.jwk.Jwk.{Jwk}
use Rattle.jwk_set.specs.Keys.{key_in, is_key}
use Rattle.jwk_set.specs.KeySets.{are_distinct, key_set_in}
use Rattle.jwk_set.specs.Listed.{listed_in, max_keys}
use Rattle.jwk_set.specs.Trees.{key_tree, set_tree}
use Rattle.fed_json.proofs.Accessors.{as_object-Object, as_list-List}
use Rattle.jwk_set.proofs.Sets.{list_all-snoc, only}
use Rattle.jwk_set.proofs.WrittenKeys.{ascii}

-- the trees of the first keys
pub record Written (trees : List Json) (keys : List Jwk) (count : ℕ) : Type 0 where
  pub are : trees ≡ map key_tree (take count keys)
  pub read : map key_in trees ≡ map Some (take count keys)
  pub whole_all : list_all whole trees ≡ true

pub written_none : (trees : List Json) (keys : List Jwk) → trees ≡ [] → Written trees keys 0
written_none trees keys none = subst (λ ts. Written ts keys 0) (sym none) (record { are = refl; read = refl; whole_all = refl })

pub key_at : (keys : List Jwk) (i : ℕ) (key : Jwk) → list_all is_key keys ≡ true → i < length keys → key ≡ get_or keys i key → is_key key ≡ true
key_at [] i key all within is = absurd (omega arith)
key_at (k ∷ keys) zero key all within is = ap is_key is ∙ left_true (is_key k) _ all
key_at (k ∷ keys) (suc i) key all within is = key_at keys i key (right_true (is_key k) _ all) (omega arith) is

one_more : (keys : List Jwk) (i : ℕ) (key : Jwk) → i < length keys → key ≡ get_or keys i key → take (i + 1) keys ≡ take i keys ++ key ∷ []
one_more keys i key within is = ap (λ n. take n keys) (add-one i) ∙ take-suc keys i key within ∙ ap (λ k. take i keys ++ k ∷ []) (sym is)

pub written_more : (trees new : List Json) (keys : List Jwk) (i : ℕ) (key : Jwk) (tree : Json) → Written trees keys i → i < length keys → key ≡ get_or keys i key
    → tree ≡ key_tree key → whole tree ≡ true → key_in tree ≡ Some key → new ≡ trees ++ tree ∷ [] → Written new keys (i + 1)
written_more trees new keys i key tree so_far within is same good reads more =
    let next = one_more keys i key within is in
    subst (λ ts. Written ts keys (i + 1)) (sym more) (record {
      are = ap₂ (λ a b. a ++ b ∷ []) so_far.are same ∙ sym (map-append key_tree (take i keys) (key ∷ [])) ∙ ap (map key_tree) (sym next);
      read = map-append key_in trees (tree ∷ []) ∙ ap₂ (λ a b. a ++ b ∷ []) so_far.read reads ∙ sym (map-append Some (take i keys) (key ∷ [])) ∙ ap (map Some) (sym next);
      whole_all = list_all-snoc whole trees tree so_far.whole_all good;
    })

-- the object of the trees
abbrev pub set_members : List Json → List Member
set_members trees = member_of (codes "keys") (ListOf trees) ∷ []

pub written_tree : (trees : List Json) (keys : List Jwk) (count : ℕ) → Written trees keys count → length keys ≤ count → Object (set_members trees) ≡ set_tree keys
unfolding set_tree
written_tree trees keys count all past = ap (λ ts. Object (set_members ts)) (all.are ∙ ap (map key_tree) (take_all count keys past))

pub written_whole : (trees : List Json) (keys : List Jwk) (count : ℕ) → Written trees keys count → whole (Object (set_members trees)) ≡ true
written_whole trees keys count all = whole-Object (set_members trees) ∙ rw (whole-List trees ∙ all.whole_all, ascii (codes "keys") refl) refl

pub written_read : (trees : List Json) (keys : List Jwk) (count : ℕ) → Written trees keys count → length keys ≤ count → length keys ≤ max_keys → are_distinct keys ≡ true
    → key_set_in (Object (set_members trees)) ≡ Ok keys
unfolding listed_in
written_read trees keys count all past few distinct =
    let same : length trees ≡ length keys = ap length (all.are ∙ ap (map key_tree) (take_all count keys past)) ∙ length-map keys key_tree in
    only (Object (set_members trees)) keys (record {
      members = trees;
      listed = rw (as_object-Object (set_members trees), as_list-List trees, le-leb (length trees) max_keys (omega (arith, same, few))) refl;
      each = all.read ∙ ap (map Some) (take_all count keys past);
      distinct = distinct;
    })
