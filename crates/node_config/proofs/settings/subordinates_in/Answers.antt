use Rattle.std.proofs.Common.{rules}
use Rattle.node_config.proofs.settings.subordinates_in.Goals as goal

pub returns-clause-list : goal.returns-clause-list
returns-clause-list c = search rules
