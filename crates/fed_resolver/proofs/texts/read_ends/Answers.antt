use Rattle.std.proofs.Common.{rules}
use Rattle.fed_resolver.proofs.texts.read_ends.Goals as goal

pub returns : goal.returns
returns c = search rules
