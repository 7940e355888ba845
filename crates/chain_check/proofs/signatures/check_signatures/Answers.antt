use Rattle.std.proofs.Common.{below_more, arith}
use Rattle.std.proofs.lemmas.Result.{err_from_is_err_and}
use Rattle.chain_check.proofs.SignatureLaws.{AtMost-within, all-signed, length-texts, place-most, place-signed, place-unsigned, place-wanting}
use Rattle.chain_check.specs.Reading.{claims_in, texts_in}
use Rattle.chain_check.proofs.signatures.check_signatures.Goals as goal

pub returns-in_err-is_signed-clause-counted : goal.returns-in_err-is_signed-clause-counted
returns-in_err-is_signed-clause-counted g c =
    let p = err_from_is_err_and c.from_residual.result c.from_residual.ensures.1 in
    let size = length-texts c.args.entries.now in
    rw (p.1, p.2) (AtMost-within _ (omega (arith, c.loop-j-test.true, size)) (place-wanting (texts_in c.args.entries.now) (claims_in c.args.entries.now) c.args.keys.now.keys _ c.loop-j.j _ _ _ c.loop-j.invariant.1 c.in_err-is_signed.ensures.leaf c.in_err-is_signed.ensures.others))

pub returns-then-not-branch-clause-counted : goal.returns-then-not-branch-clause-counted
returns-then-not-branch-clause-counted g c =
    place-unsigned (texts_in c.args.entries.now) (claims_in c.args.entries.now) c.args.keys.now.keys c.loop-j.j _ _ _ c.loop-j.invariant.2 (rw c.if-not-branch.true at c.in_ok-is_signed.ensures.leaf) c.in_ok-is_signed.ensures.others

pub loop-j-preserved : goal.loop-j-preserved
loop-j-preserved g c = (
  below_more _ _ c.loop-j.invariant.0 (c.in_ok-is_signed.ensures.signed.0 c.if-not-branch.false),
  place-most (texts_in c.args.entries.now) (claims_in c.args.entries.now) c.args.keys.now.keys c.loop-j.j _ _ _ (c.in_ok-is_signed.ensures.signed.0 c.if-not-branch.false) c.loop-j.invariant.1
      (rw c.if-not-branch.false at c.in_ok-is_signed.ensures.leaf) c.in_ok-is_signed.ensures.others,
  place-signed (texts_in c.args.entries.now) (claims_in c.args.entries.now) c.args.keys.now.keys c.loop-j.j _ _ _ (c.in_ok-is_signed.ensures.signed.0 c.if-not-branch.false) c.loop-j.invariant.2
      (rw c.if-not-branch.false at c.in_ok-is_signed.ensures.leaf) c.in_ok-is_signed.ensures.others,
)

pub returns-clause-counted : goal.returns-clause-counted
returns-clause-counted g c = all-signed c.args.entries.now c.args.keys.now.keys c.loop-j.j _ _ (omega (arith, c.loop-j-test.false, c.loop-j.auto.j-end)) c.loop-j.invariant.1 c.loop-j.invariant.2
