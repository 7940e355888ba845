use Rattle.std.proofs.Common.{rules}
use Rattle.resolve_search.proofs.judging.refused.Goals as goal

pub returns-in-Policy : goal.returns-in-Policy
returns-in-Policy c = search rules
