use Rattle.std.proofs.Common.{refl, sym, subst, ap, length, arith}
use Rattle.std.specs.Prelude.{IsTrue}
use Rattle.std.specs.List.{list_all}
use Rattle.jwk_set.specs.Keys.{is_key}
use Rattle.jwk_set.specs.KeySets.{are_distinct}
use Rattle.reply_check.proofs.marks.no_keys.Goals as goal

pub invariant_of-result : goal.invariant_of-result
unfolding are_distinct
invariant_of-result c = record {
  few = omega (arith, ap length c.new.ensures);
  formed = subst (λ keys. IsTrue (list_all is_key keys)) (sym c.new.ensures) refl;
  distinct = subst (λ keys. IsTrue (are_distinct keys)) (sym c.new.ensures) refl;
}
