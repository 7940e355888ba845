use Rattle.resolve_call.proofs.WebLaws.{agrees, speaks}
use Rattle.resolve_call.proofs.laws.webs.Goals as goal

pub returns : goal.returns
returns c = record {
  speaks = λ node resolver request before now outcome call web shows answered.
      speaks c.traces.ensures.whole_in_part node resolver request before now outcome call web shows answered c.completeness.ensures;
  agrees = agrees c.traces.ensures.whole_in_part;
}
