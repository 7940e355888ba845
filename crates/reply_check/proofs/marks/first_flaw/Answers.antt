use Rattle.std.proofs.Common.{subst}
use Rattle.reply_check.specs.Marks.{IsFlaw}
use Rattle.reply_check.specs.Stages.{here_by}
use Rattle.reply_check.proofs.LookLaws.{flaws-at, stands-more}
use Rattle.reply_check.proofs.marks.first_flaw.Goals as goal

pub returns-in-Some : goal.returns-in-Some
returns-in-Some g c =
    let entry = c.index-marks-place.result in
    let has = subst (IsFlaw (here_by c.args.here.now) entry) c.in-Some.is c.in_ok-flaw.ensures in
    flaws-at (here_by c.args.here.now) c.args.marks.now c.loop-place.place entry c.in-Some.flaw c.loop-place-test.true c.index-marks-place.is c.loop-place.invariant has

pub loop-place-preserved : goal.loop-place-preserved
loop-place-preserved g c =
    let entry = c.index-marks-place.result in
    let none = subst (IsFlaw (here_by c.args.here.now) entry) c.in_default.is c.in_ok-flaw.ensures in
    stands-more (here_by c.args.here.now) c.args.marks.now c.loop-place.place entry c.loop-place-test.true c.index-marks-place.is c.loop-place.invariant none
