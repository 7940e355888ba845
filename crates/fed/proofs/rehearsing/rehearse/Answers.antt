use Rattle.std.proofs.Common.{Ok, Err, refl}
use Rattle.rehearsal.specs.declared.fault.RehearsalFault.TheVariants as fault
use Rattle.fed.specs.Ports.{written_to}
use Rattle.fed.proofs.RehearsalLaws.{holds-rehearsed}
use Rattle.fed.proofs.rehearsing.rehearse.Goals as goal

pub returns-in-Ok-clause-runs : goal.returns-in-Ok-clause-runs
returns-in-Ok-clause-runs g c = record { result = Ok c.in-Ok.summary; rehearses = c.in-Ok.ensures.rehearsal; told = c.tell.ensures }

pub returns-in-Ok-clause-worn : goal.returns-in-Ok-clause-worn
returns-in-Ok-clause-worn g c =
    holds-rehearsed _ (Ok c.in-Ok.summary) (written_to g.K.Sink c.args.out.now) (written_to g.K.Sink c.tell.new.out) _ c.in-Ok.ensures.worn c.tell.ensures

pub returns-in-Err-Worn-clause-runs : goal.returns-in-Err-Worn-clause-runs
returns-in-Err-Worn-clause-runs g c = record { result = Err fault.Worn; rehearses = tt; told = (refl, refl) }

pub returns-in-Err-Memory-clause-runs : goal.returns-in-Err-Memory-clause-runs
returns-in-Err-Memory-clause-runs g c = record { result = Err fault.Memory; rehearses = tt; told = (refl, refl) }
