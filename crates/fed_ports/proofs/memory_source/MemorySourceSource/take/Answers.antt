use Rattle.std.proofs.Common.{rules}
use Rattle.fed_ports.proofs.memory_source.MemorySourceSource.take.Goals as goal

pub returns-then-next_fails-clause-cause : goal.returns-then-next_fails-clause-cause
returns-then-next_fails-clause-cause c = search rules
