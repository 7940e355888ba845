use Rattle.std.proofs.Common.{subst}
use Rattle.reply_check.specs.Stages.{AreLooked}
use Rattle.reply_check.proofs.AnswerLaws.{flaw-answer, sound-answer, times-answer}
use Rattle.reply_check.proofs.checking.checked_marks.Goals as goal

pub returns-in-Flawed-clause-verdict : goal.returns-in-Flawed-clause-verdict
returns-in-Flawed-clause-verdict g c =
    flaw-answer c.args.claimed c.args.t c.in-Flawed.at.place c.in-Flawed.at.flaw (subst (AreLooked c.args.claimed.said) c.in-Flawed.is c.in_ok-at.ensures)

pub returns-then-is_current-clause-verdict : goal.returns-then-is_current-clause-verdict
returns-then-is_current-clause-verdict g c =
    let stand = subst (AreLooked c.args.claimed.said) c.in-Stand.is c.in_ok-at.ensures in
    sound-answer c.args.claimed c.in-Stand.checked c.args.t c.is_current.result stand c.is_current.ensures c.if-is_current.true

pub returns-else-is_current-clause-verdict : goal.returns-else-is_current-clause-verdict
returns-else-is_current-clause-verdict g c =
    let stand = subst (AreLooked c.args.claimed.said) c.in-Stand.is c.in_ok-at.ensures in
    times-answer c.args.claimed c.in-Stand.checked c.args.t c.is_current.result stand c.is_current.ensures c.if-is_current.false
