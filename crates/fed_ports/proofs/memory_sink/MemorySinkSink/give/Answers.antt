use Rattle.std.proofs.Common.{rules}
use Rattle.fed_ports.proofs.memory_sink.MemorySinkSink.give.Goals as goal

pub returns-clause-bytes : goal.returns-clause-bytes
returns-clause-bytes c = search rules
