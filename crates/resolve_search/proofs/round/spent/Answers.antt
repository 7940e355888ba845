use Rattle.std.proofs.Common.{rules}
use Rattle.resolve_search.proofs.round.spent.Goals as goal

pub returns-clause-search : goal.returns-clause-search
returns-clause-search c = search rules
