use Rattle.std.proofs.Common.{◌∙◌, ◌<◌, ◌≢◌, length, arith, rules, below_more, get_or-set_other, get_or-set_same}
use Rattle.rows_signature.proofs.check.copies_valid.Goals as goal

pub copies-preserved : goal.copies-preserved
copies-preserved g c =
    let kept = c.copies.invariant.same in
    record {
      size = search rules;
      same = c.is_copy_valid.ensures.same ∙ kept;
      each = below_more _ _
          (λ k below. let other : k ≢ c.copies.n = omega arith in rw get_or-set_other (c.copies.invariant.each k below))
          (let inside : c.copies.n < length c.copies.valid = omega arith in rw get_or-set_same (rw kept at c.is_copy_valid.ensures.value));
    }
