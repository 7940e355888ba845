use Rattle.std.proofs.Common.{rules}
use Rattle.fed_resolver.proofs.replying.said_by.Goals as goal

pub returns-clause-said : goal.returns-clause-said
returns-clause-said c = search rules
