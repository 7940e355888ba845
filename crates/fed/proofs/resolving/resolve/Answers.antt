use Rattle.fed.specs.Ports.{written_to}
use Rattle.fed.proofs.ResolveLaws.{holds-called}
use Rattle.fed.proofs.resolving.resolve.Goals as goal

pub returns-clause-runs : goal.returns-clause-runs
returns-clause-runs g c = record {
  result = c.resolve_once-called.result;
  resolves = c.resolve_once-called.ensures.resolves;
  told = c.tell_call.ensures;
  still = c.resolve_once-called.ensures.still;
}

pub returns-clause-worn : goal.returns-clause-worn
returns-clause-worn g c =
    holds-called _ c.resolve_once-called.result (written_to g.K.Sink c.args.ports.out.now) (written_to g.K.Sink c.tell_call.new.out) _ c.resolve_once-called.ensures.worn
    c.tell_call.ensures
