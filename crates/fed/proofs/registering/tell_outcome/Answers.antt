use Rattle.std.proofs.Common.{rules, ◌≡◌, Some, IfSome, refl, subst}
use Rattle.register_once.specs.Registering.{HasCountedAll}
use Rattle.fed.specs.Ports.{written_to}
use Rattle.fed.proofs.RegisterLaws.{holds-answered}
use Rattle.fed.proofs.registering.tell_outcome.Goals as goal

pub returns-in-Some-clause-worn : goal.returns-in-Some-clause-worn
returns-in-Some-clause-worn g c =
    let is : c.args.outcome.worn ≡ Some c.in-Some.pass = search rules in
    let counted : HasCountedAll c.in-Some.pass = subst (λ worn. IfSome worn HasCountedAll) is c.requires.counted in
    record { held = λ eight. (c.in-Some.pass, refl, counted); none = λ other. absurd (other refl) }

pub returns-in-None-clause-worn : goal.returns-in-None-clause-worn
returns-in-None-clause-worn g c = holds-answered _ c.requires.none c.args.outcome.result (written_to g.K.Sink c.args.out.now) (written_to g.K.Sink c.tell_answer.new.out) _ c.tell_answer.ensures
