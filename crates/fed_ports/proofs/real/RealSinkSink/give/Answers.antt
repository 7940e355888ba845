use Rattle.std.proofs.Common.{rules}
use Rattle.fed_ports.proofs.real.RealSinkSink.give.Goals as goal

pub returns-in-Ok-clause-within : goal.returns-in-Ok-clause-within
returns-in-Ok-clause-within g c = search rules
