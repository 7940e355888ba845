-- What becomes of the operators of two sides.
use Rattle.std.proofs.Common.{◌≡◌, Some, None, Ok, Err, true, false, refl}
use Rattle.fed_json.specs.Sets.{same}
use Rattle.policy_merge.specs.declared.operator.Operator.TheVariants.{Value, Default}
use Rattle.policy_merge.specs.declared.operators.Operators.{Operators}
use Rattle.fed_json.specs.Tables.{Name}
use Rattle.policy_merge.specs.Combining.{Pair, if_both, clash, conflict_at}
use Rattle.policy_merge.specs.Merging.{merged_operators, merge_clash, merging_operators}

module _ (t p : Name) (u l : Operators) where
  pub operators-values : if_both same u.value l.value ≡ false → merging_operators t p u l ≡ Err (conflict_at t p (Value, Value))
  unfolding merging_operators merge_clash
  operators-values differ = rw differ refl

  pub operators-defaults : if_both same u.value l.value ≡ true → if_both same u.default l.default ≡ false
      → merging_operators t p u l ≡ Err (conflict_at t p (Default, Default))
  unfolding merging_operators merge_clash
  operators-defaults agree differ = rw (agree, differ) refl

  pub operators-clash : if_both same u.value l.value ≡ true → if_both same u.default l.default ≡ true → (pair : Pair) → clash p (merged_operators u l) ≡ Some pair
      → merging_operators t p u l ≡ Err (conflict_at t p pair)
  unfolding merging_operators merge_clash
  operators-clash values defaults pair e = rw (values, defaults, e) refl

  pub operators-merged : if_both same u.value l.value ≡ true → if_both same u.default l.default ≡ true → clash p (merged_operators u l) ≡ None
      → merging_operators t p u l ≡ Ok (merged_operators u l)
  unfolding merging_operators merge_clash
  operators-merged values defaults e = rw (values, defaults, e) refl
