use Rattle.resolve_call.proofs.WebLaws.{hits}
use Rattle.resolve_call.proofs.laws.hits.Goals as goal

pub returns : goal.returns
returns c = hits c.traces.ensures.whole_in_part
