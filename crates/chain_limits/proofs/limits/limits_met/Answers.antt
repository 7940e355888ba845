use Rattle.std.proofs.Common.{◌∙◌, sym, arith}
use Rattle.std.proofs.lemmas.Bool.{iff_false}
use Rattle.chain_limits.proofs.Verdicts.{IsVerdict-path, IsVerdict-name, FitsBelow-more}
use Rattle.chain_limits.proofs.limits.limits_met.Goals as goal

pub returns-then-not-reaches : goal.returns-then-not-reaches
returns-then-not-reaches c = rw (← c.as_slice-all.ensures) (
    IsVerdict-path c.as_slice-all.result.now c.loop-j.j c.index-all-j.result c.loop-j.auto.j c.loop-j-test.true c.loop-j.invariant
    (iff_false c.reaches.ensures c.if-not-reaches.true)
    )

pub returns-then-not-admits_all : goal.returns-then-not-admits_all
returns-then-not-admits_all c = rw (← c.as_slice-all.ensures) (
    IsVerdict-name c.as_slice-all.result.now c.loop-j.j c.index-all-j.result c.loop-j.auto.j c.loop-j-test.true c.loop-j.invariant
    (c.reaches.ensures.0 c.if-not-reaches.false) (sym c.admits_all.ensures ∙ c.if-not-admits_all.true)
    )

pub loop-j-preserved : goal.loop-j-preserved
loop-j-preserved c =
    FitsBelow-more c.as_slice-all.result.now c.loop-j.j c.index-all-j.result c.loop-j-test.true c.loop-j.invariant (c.reaches.ensures.0 c.if-not-reaches.false)
    (sym c.admits_all.ensures ∙ c.if-not-admits_all.false)

pub returns : goal.returns
returns c = rw (← c.as_slice-all.ensures) (λ j superior below. c.loop-j.invariant j superior (omega (arith, below)))
