use Rattle.fed.specs.Ports.{written_to}
use Rattle.fed.proofs.ResolveLaws.{holds-heard}
use Rattle.fed.proofs.heeding.resolve_heeding.Goals as goal

pub returns-clause-runs : goal.returns-clause-runs
returns-clause-runs g c = record {
  result = c.heed_once-heard.result;
  heeds = c.heed_once-heard.ensures.heeds;
  told = c.tell_heard.ensures;
  still = c.heed_once-heard.ensures.still;
}

pub returns-clause-worn : goal.returns-clause-worn
returns-clause-worn g c =
    holds-heard _ c.heed_once-heard.result (written_to g.K.Sink c.args.ports.out.now) (written_to g.K.Sink c.tell_heard.new.out) _ c.heed_once-heard.ensures.worn
    c.tell_heard.ensures
