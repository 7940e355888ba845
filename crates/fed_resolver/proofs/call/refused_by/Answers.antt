use Rattle.std.proofs.Common.{rules}
use Rattle.fed_resolver.proofs.call.refused_by.Goals as goal

pub returns-then-faults-gt0 : goal.returns-then-faults-gt0
returns-then-faults-gt0 c = search rules
