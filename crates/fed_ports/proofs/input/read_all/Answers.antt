use Rattle.std.proofs.Common.{rules}
use Rattle.fed_ports.proofs.input.read_all.Goals as goal

pub returns-then-n-eq0-clause-read : goal.returns-then-n-eq0-clause-read
returns-then-n-eq0-clause-read g c = search rules
