use Rattle.std.proofs.Common.{◌≤◌, IsTrue, length, refl, sym, subst, arith}
use Rattle.std.specs.List.{list_all}
use Rattle.jwk_set.specs.Keys.{is_key}
use Rattle.jwk_set.specs.KeySets.{are_distinct}
use Rattle.jwk_set.specs.Listed.{max_keys}
use Rattle.fed_resolver.proofs.call.blank.Goals as goal

pub invariant_of-result : goal.invariant_of-result
unfolding are_distinct
invariant_of-result c = record {
  few = subst (λ keys. length keys ≤ max_keys) (sym c.new.ensures) (omega arith);
  formed = subst (λ keys. IsTrue (list_all is_key keys)) (sym c.new.ensures) refl;
  distinct = subst (λ keys. IsTrue (are_distinct keys)) (sym c.new.ensures) refl;
}
