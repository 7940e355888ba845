use Rattle.std.proofs.Common.{◌∙◌}
use Rattle.std.proofs.lemmas.Result.{err_from_is_err_and}
use Rattle.policy_merge.proofs.ShapeLaws.{shape-odd, shape-whole, policy-formed, reads_on, decides_false}
use Rattle.policy_merge.proofs.policy.Policy.read.Goals as goal

pub returns-then-not-is_whole : goal.returns-then-not-is_whole
returns-then-not-is_whole c = shape-odd c.args.tree.now c.requires (decides_false _ _ c.is_whole.ensures c.if-not-is_whole.true)

pub returns-in_err-types : goal.returns-in_err-types
returns-in_err-types c =
    let p = err_from_is_err_and c.from_residual.result c.from_residual.ensures.1 in
    let whole = c.is_whole.ensures.0 c.if-not-is_whole.false in
    rw (p.1, p.2) (reads_on _ _ _ (λ none. shape-whole c.args.tree.now whole ∙ none) c.in_err-types.ensures)

pub invariant_of-result : goal.invariant_of-result
invariant_of-result c = policy-formed c.args.tree.now c.in_ok-types.types (c.is_whole.ensures.0 c.if-not-is_whole.false) c.in_ok-types.ensures

pub returns : goal.returns
returns c = shape-whole c.args.tree.now (c.is_whole.ensures.0 c.if-not-is_whole.false) ∙ c.in_ok-types.ensures
