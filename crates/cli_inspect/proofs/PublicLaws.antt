-- Key sets of own keys nest little, and what is found among keys is one of them.
use Rattle.std.proofs.Common.{◌≡◌, ◌≤◌, ℕ, suc, List, [], ◌∷◌, map, filter, max, find, codes, Bool, true, false, cond, Option, Some, None, Result, Ok, Err, Bor, sym, ap, ◌∙◌, subst, arith, lit≤, rules}
use Rattle.std.specs.Prelude.{IfOk, IfSome, IsTrue}
use Rattle.std.specs.List.{list_all}
use Rattle.std.specs.Option.{option_and_then, option_copied}
use Rattle.std.specs.Result.{result_ok}
use Rattle.fed_base.specs.declared.algorithm.Alg.{Alg}
use Rattle.fed_base.specs.declared.faults.Memory.{Memory}
use Rattle.fed_json.proofs.Booleans.{left_true, right_true}
use Rattle.fed_json.proofs.Layers.{nesting-List}
use Rattle.fed_json.specs.Forms.{greatest, nesting}
use Rattle.fed_json.specs.declared.tree.Json.{Json, List as ListOf, Object, the_lemmas}
use Rattle.fed_json.specs.Reading.{member_of, tree_in}
use Rattle.jwk_set.specs.KeySets.{key_set_in}
use Rattle.jwk_set.specs.declared.jwk.Jwk.{Jwk}
use Rattle.jwk_set.specs.Trees.{key_tree, own_tree, set_tree}
use Rattle.key_ring.specs.Rings.{Ring, kid_of, pair_in, public_of}
use Rattle.key_ring.specs.Sets.{is_published, live_set, own_key, own_set}
use Rattle.key_ring.specs.declared.key.RingKey.{RingKey}
use Rattle.cli_commands.specs.Checks.{keys_in}

-- what is found has what all have
pub found-all : {X : Type 0} (is : X → Bool) (all : X → Bool) (xs : List X) → IsTrue (list_all all xs) → IfSome (find is xs) (λ x. IsTrue (all x))
found-all is all [] good = tt
found-all is all (x ∷ xs) good = here (is x) (left_true (all x) (list_all all xs) good) (found-all is all xs (right_true (all x) (list_all all xs) good))
  where
    here : (b : Bool) → IsTrue (all x) → IfSome (find is xs) (λ y. IsTrue (all y)) → IfSome (cond b (Some x) (find is xs)) (λ y. IsTrue (all y))
    here true first later = first
    here false first later = later

-- and so has what is lent of it
pub copied-all : {X : Type 0} (o : Option (Bor X)) (P : X → Type 0) → IfSome (option_copied o) P → IfSome o (λ x. P x.now)
copied-all None P is = is
copied-all (Some x) P is = is

-- ---- how deep a set of own keys nests

own-flat : (kid : List ℕ) (alg : Alg) (public : List ℕ) → nesting (own_tree kid alg public) ≡ 1
own-flat kid alg public = search (rules, the_lemmas)

keys-flat : (keys : List RingKey) → greatest (map nesting (map key_tree (map own_key keys))) ≤ 1
unfolding key_tree
keys-flat [] = lit≤ tt
keys-flat (key ∷ keys) = omega (arith, own-flat (kid_of key) (pair_in key).alg (public_of key), keys-flat keys)

one-member : (name : List ℕ) (ts : List Json) → nesting (Object (member_of name (ListOf ts) ∷ [])) ≡ suc (max (nesting (ListOf ts)) 0)
one-member name ts = search (rules, the_lemmas)

pub set-flat : (ring : Ring) → nesting (set_tree (live_set ring)) ≤ 127
unfolding set_tree own_set
set-flat ring =
    let keys : List RingKey = filter (λ key. is_published false key.state) ring in
    let ts : List Json = map key_tree (map own_key keys) in
    omega (arith, one-member (codes "keys") ts, nesting-List ts, keys-flat keys)

-- ---- the text of the live keys is read back

pub reads-back : (r : Result (List ℕ) Memory) (ring : Ring) (tree : Json) (keys : List Jwk) → tree ≡ set_tree keys → keys ≡ live_set ring → key_set_in tree ≡ Ok keys
    → IfOk r (λ text. nesting tree ≤ 127 → tree_in text ≡ Some tree) → IfOk r (λ text. keys_in text ≡ Some (live_set ring))
reads-back (Err e) ring tree keys is same read back = tt
reads-back (Ok text) ring tree keys is same read back =
    let shallow : nesting tree ≤ 127 = subst (λ t. nesting t ≤ 127) (sym (is ∙ ap set_tree same)) (set-flat ring) in
    ap (option_and_then (λ t. result_ok (key_set_in t))) (back shallow) ∙ ap result_ok read ∙ ap Some same
