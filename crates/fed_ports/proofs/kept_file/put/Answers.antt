use Rattle.std.proofs.Common.{rules}
use Rattle.fed_ports.proofs.kept_file.put.Goals as goal

pub returns-clause-kept : goal.returns-clause-kept
returns-clause-kept c = search rules
