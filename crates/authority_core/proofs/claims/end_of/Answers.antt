use Rattle.std.proofs.Common.{rules}
use Rattle.authority_core.proofs.claims.end_of.Goals as goal

pub returns : goal.returns
returns c = search rules
