use Rattle.std.proofs.Common.{sym, ◌∙◌, subst}
use Rattle.turn_log.specs.Groups.{known}
use Rattle.statement_shelf.specs.Passes.{IsWornCall, IsWornPart}
use Rattle.statement_shelf.proofs.Purges.{worn-called}
use Rattle.statement_shelf.proofs.commons.Commons.shelf.Goals.{in-Look, in-Put, in-Prove}
use Rattle.statement_shelf.proofs.commons.Commons.shelf.Goals as goal

pub returns-clause-worn : goal.returns-clause-worn
returns-clause-worn g c =
    let old = known c.args.pass.now in
    let new = known c.part.new.pass in
    elim c.match-call.branch [
      | in-Look w ↦
          worn-called (λ e. e.count) c.part.result c.args.call c.match-call.at old new
          (λ h. subst (λ k. IsWornCall k old new) (sym w.in-Look.is) (subst (λ p. IsWornPart p old new) (w.at-is ∙ w.part_of-at.ensures.part) h)) c.part.ensures.worn
      | in-Put w ↦
          worn-called (λ e. e.count) c.part.result c.args.call c.match-call.at old new
          (λ h. subst (λ k. IsWornCall k old new) (sym w.in-Put.is) (subst (λ p. IsWornPart p old new) (w.at-is ∙ w.part_of-at-in-Put.ensures.part) h)) c.part.ensures.worn
      | in-Prove w ↦
          worn-called (λ e. e.count) c.part.result c.args.call c.match-call.at old new
          (λ h. subst (λ k. IsWornCall k old new) (sym w.in-Prove.is) (subst (λ p. IsWornPart p old new) (w.at-is ∙ w.part_of-at-in-Prove.ensures.part) h)) c.part.ensures.worn
    ]
