use Rattle.std.proofs.Common.{rules}
use Rattle.resolve_search.proofs.answering.origin_of.Goals as goal

pub returns-in-Hit : goal.returns-in-Hit
returns-in-Hit c = search rules
