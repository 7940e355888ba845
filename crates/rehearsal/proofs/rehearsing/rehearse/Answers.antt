use Rattle.std.proofs.Common.{refl}
use Rattle.std.proofs.lemmas.Result.{IfOk-weaker}
use Rattle.rehearsal.proofs.RehearsalLaws.{rehearsed}
use Rattle.rehearsal.proofs.rehearsing.rehearse.Goals as goal

pub returns-clause-rehearsal : goal.returns-clause-rehearsal
returns-clause-rehearsal g c =
    IfOk-weaker c.rehearse_over.result _ _
    (λ summary by. rehearsed c.args.params c.new-pages.result _ c.in_ok-anchor.anchor c.in_ok-link.link _ summary c.new-pages.ensures c.in_ok-anchor.ensures c.in_ok-link.ensures.web c.in_ok-link.ensures.plan refl by)
    c.rehearse_over.ensures.asked
