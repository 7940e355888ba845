use Rattle.std.proofs.Common.{refl}
use Rattle.register_once.specs.declared.stop.RegisterStop.TheVariants as stop
use Rattle.fed.specs.Ports.{written_to}
use Rattle.fed.proofs.RegisterLaws.{holds-stopped}
use Rattle.fed.proofs.registering.tell.Goals as goal

pub returns-in-Err-Input-clause-worn : goal.returns-in-Err-Input-clause-worn
returns-in-Err-Input-clause-worn g c =
    holds-stopped _ c.requires.none stop.Input (written_to g.K.Sink c.args.out.now) (written_to g.K.Sink c.write_line.new.out) _ c.write_line.ensures

pub returns-in-Err-NoAnchor-clause-worn : goal.returns-in-Err-NoAnchor-clause-worn
returns-in-Err-NoAnchor-clause-worn g c =
    holds-stopped _ c.requires.none stop.NoAnchor (written_to g.K.Sink c.args.out.now) (written_to g.K.Sink c.write_line-in-Err-NoAnchor.new.out) _
    c.write_line-in-Err-NoAnchor.ensures

pub returns-in-Err-Source-clause-worn : goal.returns-in-Err-Source-clause-worn
returns-in-Err-Source-clause-worn g c = holds-stopped _ c.requires.none stop.Source (written_to g.K.Sink c.args.out.now) (written_to g.K.Sink c.args.out.now) 3 (refl, refl)

pub returns-in-Err-Store-clause-worn : goal.returns-in-Err-Store-clause-worn
returns-in-Err-Store-clause-worn g c = holds-stopped _ c.requires.none stop.Store (written_to g.K.Sink c.args.out.now) (written_to g.K.Sink c.args.out.now) 6 (refl, refl)

pub returns-in-Err-Memory-clause-worn : goal.returns-in-Err-Memory-clause-worn
returns-in-Err-Memory-clause-worn g c = holds-stopped _ c.requires.none stop.Memory (written_to g.K.Sink c.args.out.now) (written_to g.K.Sink c.args.out.now) 5 (refl, refl)
