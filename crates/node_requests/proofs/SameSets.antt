-- Key sets of the same keys are the same.
use Rattle.std.proofs.Common.{◌≡◌, ◌≤◌, List, length, Bool, IsTrue}
use Rattle.std.specs.List.{list_all}
use Rattle.std.proofs.Math.Path.{PathP, to_path_p}
use denote.Struct.Props.{props as facts}
use Rattle.jwk_set.specs.declared.jwk.Jwk.{Jwk}
use Rattle.jwk_set.specs.declared.set.JwkSet.{JwkSet}
use Rattle.jwk_set.specs.Keys.{is_key}
use Rattle.jwk_set.specs.KeySets.{are_distinct}
use Rattle.jwk_set.specs.Listed.{max_keys}

-- proofs of one fact of equal values
over : {X : Type 0} (P : X → Type 0) → ((x : X) → IsProp (P x)) → {x y : X} (e : x ≡ y) (p : P x) (q : P y) → PathP (λ i. P (e i)) p q
over P is {y = y} e p q = to_path_p (λ i. P (e i)) (is y _ q)

lengths : (keys : List Jwk) → IsProp (length keys ≤ max_keys)
lengths keys = hlevel facts

tests : (test : List Jwk → Bool) (keys : List Jwk) → IsProp (IsTrue (test keys))
tests test keys = hlevel facts

pub same_set : (a b : JwkSet) → a.keys ≡ b.keys → a ≡ b
same_set a b keys = λ i. record {
  keys = keys i;
  few = over (λ ks. length ks ≤ max_keys) lengths keys a.few b.few i;
  formed = over (λ ks. IsTrue (list_all is_key ks)) (tests (list_all is_key)) keys a.formed b.formed i;
  distinct = over (λ ks. IsTrue (are_distinct ks)) (tests are_distinct) keys a.distinct b.distinct i;
}
